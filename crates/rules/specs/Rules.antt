-- The rules, over whatever a board sees: `near` says what each port shows.
use Rattle.std.specs.Prelude.{◌≡◌, ℕ, ◌<◌, Bool, true, false, cond, not, ◌&&◌, ◌||◌, ◌⊎◌, Some, None, Option, ◌==◌}
use Rattle.lengths.specs.Kind.{Kind}
use Rattle.rules.specs.Status.{same}
use Rattle.rules.specs.declared.neighbourhood.Seen.{Seen}
use Rattle.rules.specs.declared.record.Record.{Record}
use Rattle.rules.specs.declared.status.Status.{Status}
use Rattle.rules.specs.declared.status.Status.TheVariants.{I, C, EB, EF}
use Rattle.rules.specs.declared.verdict.Plan.{Plan}
use Rattle.rules.specs.declared.verdict.Plan.TheVariants as plan
use Rattle.rules.specs.declared.verdict.Verdict.{Verdict}
use Rattle.rules.specs.declared.verdict.Verdict.TheVariants.{RC, REB, REF, RI, RR}

-- what a cable of weight w shows of a neighbour with this record, at whose port p it ends
abbrev pub seen_of : {V : Type 0} → Record V → (p w : ℕ) → Seen V
seen_of own p w = record { status = own.status; length = own.length; weight = w; named = (own.par == p) }

-- what a port that shows this offers: the extension of a C neighbour's length
abbrev pub offered : {V : Type 0} → Kind V → Option (Seen V) → Option V
offered k None = None
offered k (Some s) = cond (same s.status C) (k.extended s.length s.weight) None

-- whether a length is less than an extension, or there is no extension
abbrev pub short : {V : Type 0} → Kind V → V → Option V → Bool
short k d None = true
short k d (Some reach) = k.less d reach

-- whether a board of status s and length d does not fit below a board of status t and length e over a cable of weight w:
-- that board is I, its length does not extend or the extension is greater than d, or the statuses differ and it is not EB
abbrev pub misfit : {V : Type 0} → Kind V → Status → V → Status → V → ℕ → Bool
misfit k s d t e w = same t I || (short k d (k.extended e w) || (not (same s t) && not (same t EB)))

-- whether a board does not fit below what its par port shows; a port with no cable leads nowhere
abbrev pub adrift : {V : Type 0} → Kind V → Record V → Option (Seen V) → Bool
adrift k own None = true
adrift k own (Some up) = misfit k own.status own.length up.status up.length up.weight

-- whether a board other than the root is an abnormal root
abbrev pub abnormal : {V : Type 0} → Kind V → Record V → (ℕ → Option (Seen V)) → Bool
abnormal k own near = not (same own.status I) && adrift k own (near own.par)

-- whether the neighbour that a port shows is a child: not I, its par names this cable, and it fits below
abbrev pub child : {V : Type 0} → Kind V → Record V → Seen V → Bool
child k own s = s.named && (not (same s.status I) && not (misfit k s.status s.length own.status own.length s.weight))

-- whether a port shows a board of this status
abbrev pub shows : {V : Type 0} → Status → Option (Seen V) → Bool
shows t None = false
shows t (Some s) = same s.status t

-- port p, of the ports 0 to 7, offers l
pub record Offers {V : Type 0} (k : Kind V) (near : ℕ → Option (Seen V)) (p : ℕ) (l : V) : Type 0 where
  pub port : p < 8
  pub offer : offered k (near p) ≡ Some l

-- some port offers
pub record SomeOffer {V : Type 0} (k : Kind V) (near : ℕ → Option (Seen V)) : Type 0 where
  pub port : ℕ
  pub length : V
  pub offers : Offers k near port length

-- some port offers less than d
pub record LesserOffer {V : Type 0} (k : Kind V) (near : ℕ → Option (Seen V)) (d : V) : Type 0 where
  pub port : ℕ
  pub length : V
  pub offers : Offers k near port length
  pub lesser : k.less length d ≡ true

-- port p offers l, no port offers less, and no lower port offers the same
pub record LeastOffer {V : Type 0} (k : Kind V) (near : ℕ → Option (Seen V)) (p : ℕ) (l : V) : Type 0 where
  pub offers : Offers k near p l
  pub least : (q : ℕ) (m : V) → Offers k near q m → k.less m l ≡ false
  pub lowest : (q : ℕ) (m : V) → Offers k near q m → q < p → k.less l m ≡ true

-- the port of the least offer
pub record LeastAt {V : Type 0} (k : Kind V) (near : ℕ → Option (Seen V)) (p : ℕ) : Type 0 where
  pub length : V
  pub least : LeastOffer k near p length

-- the port of the least offer, which is less than d
pub record LeastBelow {V : Type 0} (k : Kind V) (near : ℕ → Option (Seen V)) (d : V) (p : ℕ) : Type 0 where
  pub length : V
  pub least : LeastOffer k near p length
  pub lesser : k.less length d ≡ true

-- every child that a port shows is EF
abbrev pub ChildrenEF : {V : Type 0} → Kind V → Record V → (ℕ → Option (Seen V)) → Type 0
ChildrenEF {V} k own near = (p : ℕ) (s : Seen V) → p < 8 → near p ≡ Some s → child k own s ≡ true → s.status ≡ EF

-- when each rule is enabled
abbrev pub Enabled : {V : Type 0} → Kind V → Record V → (ℕ → Option (Seen V)) → Verdict → Type 0
Enabled k own near RC = (own.status ≡ C) × LesserOffer k near own.length
Enabled k own near REB = (own.status ≡ C) × (LesserOffer k near own.length → ⊥) × ((abnormal k own near ≡ true) ⊎ (shows EB (near own.par) ≡ true))
Enabled k own near REF = (own.status ≡ EB) × ChildrenEF k own near
Enabled k own near RI = (own.status ≡ EF) × (abnormal k own near ≡ true) × (SomeOffer k near → ⊥)
Enabled k own near RR = SomeOffer k near × ((own.status ≡ I) ⊎ ((own.status ≡ EF) × (abnormal k own near ≡ true)))

-- a board's verdict: the rule that is enabled, or none where no rule is
abbrev pub Judged : {V : Type 0} → Kind V → Record V → (ℕ → Option (Seen V)) → Option Verdict → Type 0
Judged k own near None = (v : Verdict) → Enabled k own near v → ⊥
Judged k own near (Some v) = Enabled k own near v

-- only the status changes
abbrev pub restated : {V : Type 0} → Record V → Status → Record V
restated own s = record { status = s; par = own.par; length = own.length }

-- taking an offer: C, at the least offer's port and length
abbrev pub Takes : {V : Type 0} → Kind V → (ℕ → Option (Seen V)) → Record V → Type 0
Takes k near next = (next.status ≡ C) × LeastOffer k near next.par next.length

-- what each rule does
abbrev pub Effect : {V : Type 0} → Kind V → Record V → (ℕ → Option (Seen V)) → Verdict → Record V → Type 0
Effect k own near RC next = Takes k near next
Effect k own near REB next = next ≡ restated own EB
Effect k own near REF next = next ≡ restated own EF
Effect k own near RI next = next ≡ restated own I
Effect k own near RR next = Takes k near next

-- a board's move: its verdict's effect, and the same record where it has none
abbrev pub Moves : {V : Type 0} → Kind V → Record V → (ℕ → Option (Seen V)) → Option Verdict → Record V → Type 0
Moves k own near None next = Judged k own near None × (next ≡ own)
Moves k own near (Some v) next = Judged k own near (Some v) × Effect k own near v next

-- a plan's rule
abbrev pub rule_of : Plan → Verdict
rule_of (plan.RC p) = RC
rule_of plan.REB = REB
rule_of plan.REF = REF
rule_of plan.RI = RI
rule_of (plan.RR p) = RR

-- a plan to take an offer takes the least one, which comes in at its port
abbrev pub TakesLeast : {V : Type 0} → Kind V → (ℕ → Option (Seen V)) → Plan → Type 0
TakesLeast k near (plan.RC p) = LeastAt k near p
TakesLeast k near plan.REB = Unit {0}
TakesLeast k near plan.REF = Unit {0}
TakesLeast k near plan.RI = Unit {0}
TakesLeast k near (plan.RR p) = LeastAt k near p

-- a plan to join again by the least offer
abbrev pub Joins : {V : Type 0} → Kind V → (ℕ → Option (Seen V)) → Plan → Type 0
Joins k near p = (rule_of p ≡ RR) × TakesLeast k near p

-- how a board would move: by its verdict, and no way where it has none
abbrev pub Plans : {V : Type 0} → Kind V → Record V → (ℕ → Option (Seen V)) → Option Plan → Type 0
Plans k own near None = Judged k own near None
Plans k own near (Some p) = Judged k own near (Some (rule_of p)) × TakesLeast k near p

-- the record with what is offered at port p taken
abbrev pub taken_at : {V : Type 0} → Record V → ℕ → Option V → Record V
taken_at own p None = own
taken_at own p (Some l) = record { status = C; par = p; length = l }

abbrev pub taken : {V : Type 0} → Kind V → Record V → (ℕ → Option (Seen V)) → ℕ → Record V
taken k own near p = taken_at own p (offered k (near p))

-- whether a rule is for boards of this status
abbrev pub suits : Verdict → Status → Bool
suits RC s = same s C
suits REB s = same s C
suits REF s = same s EB
suits RI s = same s EF
suits RR s = same s I || same s EF

-- the record after a plan's rule, which takes what its port offers where it takes an offer
abbrev pub ruled : {V : Type 0} → Kind V → Record V → (ℕ → Option (Seen V)) → Plan → Record V
ruled k own near (plan.RC p) = taken k own near p
ruled k own near plan.REB = restated own EB
ruled k own near plan.REF = restated own EF
ruled k own near plan.RI = restated own I
ruled k own near (plan.RR p) = taken k own near p

-- the record of a board that follows a plan; it stays where there is none, or one that is not for its status
abbrev pub followed : {V : Type 0} → Kind V → Record V → (ℕ → Option (Seen V)) → Option Plan → Record V
followed k own near None = own
followed k own near (Some p) = cond (suits (rule_of p) own.status) (ruled k own near p) own
