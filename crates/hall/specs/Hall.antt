-- What each call of a hall answers and does.
use Rattle.std.specs.Prelude.{◌≡◌, ℕ, ◌+◌, ◌-◌, ◌^◌, ◌<◌, ◌≤◌, min, Bool, true, false, cond, not, ◌||◌, ◌⊎◌, [], ◌∷◌, length, is_some, Some, None, Ok, Err, Option, Result, MatchOption, ◌==◌, ◌≢◌, nat_le, nat_lt, slice_index_or, slice_set}
use Rattle.lengths.specs.Kind.{Kind}
use Rattle.rules.specs.Records.{is_no_record, Numbered}
use Rattle.rules.specs.declared.verdict.Plan.{Plan}
use Rattle.rules.specs.declared.record.Record.{Record}
use Rattle.rules.specs.declared.status.Status.TheVariants.{I}
use Rattle.rules.specs.declared.verdict.Verdict.{Verdict}
use Rattle.rules.specs.declared.verdict.Verdict.TheVariants.{RC, REB, REF, RI, RR}
use Rattle.rules.specs.Rules.{rule_of, Effect, TakesLeast}
use Rattle.network.specs.Cables.{Adds, Removes, around}
use Rattle.network.specs.Turns.{HasVerdict, Turn, alive_root, used}
use Rattle.network.specs.declared.End.{End}
use Rattle.sets.specs.Counts.{Count}
use Rattle.sets.specs.Sets.{has}
use Rattle.hall.specs.Faults.{Checks, refusal}
use Rattle.hall.specs.Tables.{far_of, rec_of}
use Rattle.hall.specs.declared.fault.Fault.{Fault}
use Rattle.hall.specs.declared.fault.Fault.TheVariants.{Size, Board, Port, SameBoard, Occupied, NoCable, Weight, Root, Empty, Disabled}
use Rattle.hall.specs.declared.fault.Fault.TheVariants.{Record as BadRecord}
use Rattle.hall.specs.declared.plans.Plans.{Plans}
use Rattle.hall.specs.declared.questions.Look.{Look}
use Rattle.hall.specs.declared.tables.Hall.{Hall}
use Rattle.hall.specs.declared.tables.Tally.{Tally}
use Rattle.hall.specs.declared.view.Around.{Around}

-- how many boards there are
abbrev pub boards_in : {V : Type 0} → Hall V → ℕ
boards_in h = h.cabling.n

-- the far end of the cable at port p of board b
abbrev pub far_in : {V : Type 0} → Hall V → ℕ → ℕ → Option End
far_in h = far_of h.cabling.ends

-- board b's record
abbrev pub records_in : {V : Type 0} → Kind V → Hall V → ℕ → Record V
records_in k h = rec_of k h.ledger.records

-- a tally's count for each rule
abbrev pub count_of : Tally → Verdict → ℕ
count_of t RC = t.corrected
count_of t REB = t.broadcast
count_of t REF = t.fedback
count_of t RI = t.isolated
count_of t RR = t.rejoined

abbrev pub nothing : Tally
nothing = record { corrected = 0; broadcast = 0; fedback = 0; isolated = 0; rejoined = 0 }

-- how often board b has moved by each rule since the last change
abbrev pub counts_in : {V : Type 0} → Hall V → ℕ → Verdict → ℕ
counts_in h b = count_of (slice_index_or h.tallies b nothing)

-- the record of a board other than 0 in a new hall
abbrev pub new_record : {V : Type 0} → Kind V → Record V
new_record k = record { status = I; par = 255; length = k.start }

-- a new hall has no cables, and every board but 0 is isolated
pub record Fresh {V : Type 0} (k : Kind V) (n : ℕ) (h : Hall V) : Type 0 where
  pub boards : boards_in h ≡ n
  pub cables : (b p : ℕ) → far_in h b p ≡ None
  pub records : (b : ℕ) → 0 < b → b < n → records_in k h b ≡ new_record k
  pub counts : (b : ℕ) (v : Verdict) → counts_in h b v ≡ 0

-- new: refused unless n is 1 to 64
abbrev pub Makes : {V : Type 0} → Kind V → ℕ → Result (Hall V) Fault → Type 0
Makes k n (Ok h) = (0 < n) × (n ≤ 64) × Fresh k n h
Makes k n (Err f) = (f ≡ Size) × ((0 < n) × (n ≤ 64) → ⊥)

-- the tables that an accepted change leaves alone: the tallies begin anew
pub record Anew {V : Type 0} (before after : Hall V) : Type 0 where
  pub boards : boards_in after ≡ boards_in before
  pub counts : (b : ℕ) (v : Verdict) → counts_in after b v ≡ 0

abbrev pub SameRecords : {V : Type 0} → Kind V → Hall V → Hall V → Type 0
SameRecords k before after = (b : ℕ) → records_in k after b ≡ records_in k before b

abbrev pub SameCables : {V : Type 0} → Hall V → Hall V → Type 0
SameCables before after = (b p : ℕ) → far_in after b p ≡ far_in before b p

-- wire: both boards are there, both ports 0 to 7, the boards different, the ports free, the weight admitted
abbrev pub wire_checks : {V : Type 0} → Kind V → Hall V → ℕ → ℕ → ℕ → ℕ → ℕ → Checks
wire_checks k h a p b q w =
    (Board, nat_le (boards_in h) a || nat_le (boards_in h) b)
    ∷ (Port, nat_lt 7 p || nat_lt 7 q)
    ∷ (SameBoard, (a == b))
    ∷ (Occupied, is_some (far_in h a p) || is_some (far_in h b q))
    ∷ (Weight, not (k.admitted w))
    ∷ []

abbrev pub Wires : {V : Type 0} → Kind V → Hall V → ℕ → ℕ → ℕ → ℕ → ℕ → Result (Unit {0}) Fault → Hall V → Type 0
Wires k before a p b q w (Ok _) after = (refusal (wire_checks k before a p b q w) ≡ None) × Anew before after × SameRecords k before after × Adds (far_in before) a p b q w (far_in after)
Wires k before a p b q w (Err f) after = (refusal (wire_checks k before a p b q w) ≡ Some f) × (after ≡ before)

-- cut: the board is there, the port is 0 to 7 and has a cable
abbrev pub cut_checks : {V : Type 0} → Hall V → ℕ → ℕ → Checks
cut_checks h a p = (Board, nat_le (boards_in h) a) ∷ (Port, nat_lt 7 p) ∷ (NoCable, not (is_some (far_in h a p))) ∷ []

abbrev pub Cuts : {V : Type 0} → Kind V → Hall V → ℕ → ℕ → Result (Unit {0}) Fault → Hall V → Type 0
Cuts k before a p (Ok _) after = (refusal (cut_checks before a p) ≡ None) × Anew before after × SameRecords k before after × ((e : End) × (far_in before a p ≡ Some e) × Removes (far_in before) a p e (far_in after))
Cuts k before a p (Err f) after = (refusal (cut_checks before a p) ≡ Some f) × (after ≡ before)

-- plant: the board is there and not 0, and there are such a status, par and code
abbrev pub plant_checks : {V : Type 0} → Kind V → Hall V → ℕ → ℕ → ℕ → ℕ → Checks
plant_checks k h b s p c = (Board, nat_le (boards_in h) b) ∷ (Root, (b == 0)) ∷ (BadRecord, is_no_record k s p c) ∷ []

-- board b has the record of these numbers, and every other board its own
pub record Plants {V : Type 0} (k : Kind V) (before : Hall V) (b s p c : ℕ) (after : Hall V) : Type 0 where
  pub planted : Numbered k s p c (records_in k after b)
  pub others : (o : ℕ) → (o ≢ b) → records_in k after o ≡ records_in k before o

abbrev pub Planted : {V : Type 0} → Kind V → Hall V → ℕ → ℕ → ℕ → ℕ → Result (Unit {0}) Fault → Hall V → Type 0
Planted k before b s p c (Ok _) after = (refusal (plant_checks k before b s p c) ≡ None) × Anew before after × SameCables before after × Plants k before b s p c after
Planted k before b s p c (Err f) after = (refusal (plant_checks k before b s p c) ≡ Some f) × (after ≡ before)

-- board b's verdict v
abbrev pub VerdictIn : {V : Type 0} → Kind V → Hall V → ℕ → Verdict → Type 0
VerdictIn k h = HasVerdict k (boards_in h) (far_in h) (records_in k h)

-- r is board b's verdict, or none where it has none
abbrev pub IsVerdict : {V : Type 0} → Kind V → Hall V → ℕ → Option Verdict → Type 0
IsVerdict k h b None = (v : Verdict) → VerdictIn k h b v → ⊥
IsVerdict k h b (Some v) = VerdictIn k h b v

-- r is board b's verdict on these cables and records, and next its record after moving by it
abbrev pub MoveOn : {V : Type 0} → Kind V → ℕ → (ℕ → ℕ → Option End) → (ℕ → Record V) → ℕ → Option Verdict → Record V → Type 0
MoveOn k n far rec b None next = ((v : Verdict) → HasVerdict k n far rec b v → ⊥) × (next ≡ rec b)
MoveOn k n far rec b (Some v) next = HasVerdict k n far rec b v × Effect k (rec b) (around far rec b) v next

-- board b's move: by its verdict, or none
abbrev pub MoveIn : {V : Type 0} → Kind V → Hall V → ℕ → Option Verdict → Record V → Type 0
MoveIn k h = MoveOn k (boards_in h) (far_in h) (records_in k h)

-- look: the record, the verdict and whether it is an alive abnormal root
abbrev pub Looks : {V : Type 0} → Kind V → Hall V → ℕ → Result (Look V) Fault → Type 0
Looks k h b (Ok l) = (b < boards_in h) × (l.record ≡ records_in k h b) × IsVerdict k h b l.verdict × (l.alive ≡ alive_root k (far_in h) (records_in k h) b)
Looks k h b (Err f) = (f ≡ Board) × (boards_in h ≤ b)

-- tally: the board's five counts
abbrev pub Tallies : {V : Type 0} → Hall V → ℕ → Result Tally Fault → Type 0
Tallies h b (Ok t) = (b < boards_in h) × ((v : Verdict) → count_of t v ≡ counts_in h b v)
Tallies h b (Err f) = (f ≡ Board) × (boards_in h ≤ b)

-- s is the set of enabled boards
pub record EnabledSet {V : Type 0} (k : Kind V) (h : Hall V) (s : ℕ) : Type 0 where
  pub small : s < 2 ^ 64
  pub all : (b : ℕ) (v : Verdict) → VerdictIn k h b v → has s b ≡ true
  pub only : (b : ℕ) → has s b ≡ true → (v : Verdict) × VerdictIn k h b v

-- whether board b is enabled
abbrev pub TellsEnabled : {V : Type 0} → Kind V → Hall V → ℕ → Bool → Type 0
TellsEnabled k h b true = (v : Verdict) × VerdictIn k h b v
TellsEnabled k h b false = (v : Verdict) → VerdictIn k h b v → ⊥

-- whether there is a board b
abbrev pub There : {V : Type 0} → Hall V → ℕ → Result (Unit {0}) Fault → Type 0
There h b (Ok _) = b < boards_in h
There h b (Err f) = (f ≡ Board) × (boards_in h ≤ b)

-- board b as the rules see it through the hall's tables, or nothing for board 0 and for what is no board
abbrev pub Sees : {V : Type 0} → Hall V → ℕ → Option (Around V) → Type 0
Sees h b r = MatchOption r ((b ≡ 0) ⊎ (boards_in h ≤ b)) (λ a. (b ≢ 0) × (b < boards_in h) × (a.cabling.now ≡ h.cabling) × (a.records.now ≡ h.ledger.records) × (a.board ≡ b))

-- how board b would move on these cables and records: by its verdict, and not at all where it has none
abbrev pub PlanOn : {V : Type 0} → Kind V → ℕ → (ℕ → ℕ → Option End) → (ℕ → Record V) → ℕ → Option Plan → Type 0
PlanOn k n far rec b None = (v : Verdict) → HasVerdict k n far rec b v → ⊥
PlanOn k n far rec b (Some p) = HasVerdict k n far rec b (rule_of p) × TakesLeast k (around far rec b) p

-- how board b would move in the hall
abbrev pub PlanIn : {V : Type 0} → Kind V → Hall V → ℕ → Option Plan → Type 0
PlanIn k h = PlanOn k (boards_in h) (far_in h) (records_in k h)

-- board b's plan
abbrev pub plan_of : Plans → ℕ → Option Plan
plan_of ps b = slice_index_or ps.of b None

-- board b after a judging: where it was in doubt, it has its plan, and t tells whether it is enabled; else all is as before
abbrev pub JudgedBoard : {V : Type 0} → Kind V → Hall V → (doubtful was : Bool) → ℕ → Option Plan → Bool → Option Plan → Type 0
JudgedBoard k h true was b before t after = PlanIn k h b after × (t ≡ is_some after)
JudgedBoard k h false was b before t after = (t ≡ was) × (after ≡ before)

-- the boards in doubt are judged again: r has the boards of s, but of those in doubt just the enabled ones
pub record JudgedAgain {V : Type 0} (k : Kind V) (h : Hall V) (s doubtful : ℕ) (before : Plans) (r : ℕ) (after : Plans) : Type 0 where
  pub small : r < 2 ^ 64
  pub each : (b : ℕ) → JudgedBoard k h (has doubtful b) (has s b) b (plan_of before b) (has r b) (plan_of after b)

-- every board of s is planned as it would move
abbrev pub AllPlanned : {V : Type 0} → Kind V → Hall V → Plans → ℕ → Type 0
AllPlanned k h ps s = (b : ℕ) → has s b ≡ true → PlanIn k h b (plan_of ps b)

-- a count after a turn: one more where the board moved by that rule, stopping at 2^64 - 1
abbrev pub counted : ℕ → Option Verdict → Verdict → ℕ
counted c by v = cond (used by v == 1) (min (c + 1) (2 ^ 64 - 1)) c

-- some board of s has no verdict
pub record SomeDisabled {V : Type 0} (k : Kind V) (h : Hall V) (s : ℕ) : Type 0 where
  pub board : ℕ
  pub chosen : has s board ≡ true
  pub idle : (v : Verdict) → VerdictIn k h board v → ⊥

-- what board b moves by, where `chosen` says whether it is to move: its verdict, or nothing
abbrev pub MovesBy : {V : Type 0} → Kind V → Hall V → Bool → ℕ → Option Verdict → Type 0
MovesBy k h true b r = IsVerdict k h b r
MovesBy k h false b r = r ≡ None

-- of the boards of s, those that have a verdict move together, each by its verdict on the records before, and the tallies count the moves
pub record Turned {V : Type 0} (k : Kind V) (before : Hall V) (s : ℕ) (after : Hall V) : Type 0 where
  pub by : ℕ → Option Verdict
  pub movers : (b : ℕ) → MovesBy k before (has s b) b (by b)
  pub moves : Turn k (boards_in before) (far_in before) (records_in k before) by (records_in k after)
  pub cabling : after.cabling ≡ before.cabling
  pub counts : (b : ℕ) (v : Verdict) → counts_in after b v ≡ counted (counts_in before b v) (by b) v

-- board b's record and tally are new, and nothing else
pub record Noted {V : Type 0} (before : Hall V) (b : ℕ) (next : Record V) (rule : Verdict) (after : Hall V) : Type 0 where
  pub cabling : after.cabling ≡ before.cabling
  pub records : after.ledger.records ≡ slice_set before.ledger.records b next
  pub whole : length before.ledger.records ≡ 64
  pub counts : (v : Verdict) → counts_in after b v ≡ counted (counts_in before b v) (Some rule) v
  pub others : (o : ℕ) → (o ≢ b) → slice_index_or after.tallies o nothing ≡ slice_index_or before.tallies o nothing

-- r has the boards of s, and the far boards of the first m ports of board b
pub record Reaches {V : Type 0} (h : Hall V) (s b m r : ℕ) : Type 0 where
  pub small : r < 2 ^ 64
  pub these : (c : ℕ) → has s c ≡ true → has r c ≡ true
  pub far : (p : ℕ) (e : End) → p < m → far_in h b p ≡ Some e → has r e.board ≡ true

-- r has the boards of s, and the neighbours of those below m
pub record NearAll {V : Type 0} (h : Hall V) (s m r : ℕ) : Type 0 where
  pub small : r < 2 ^ 64
  pub these : (c : ℕ) → has s c ≡ true → has r c ≡ true
  pub neighbours : (b p : ℕ) (e : End) → b < m → has s b ≡ true → far_in h b p ≡ Some e → has r e.board ≡ true

-- r is the set of enabled boards, where s was it before the boards of `moved` moved
abbrev pub EnabledAfter : {V : Type 0} → Kind V → Hall V → ℕ → ℕ → ℕ → Type 0
EnabledAfter {V} k h s moved r = (before : Hall V) → EnabledSet k before s → Turned k before moved h → EnabledSet k h r

-- every board of r is planned as it would move, where every board of s was before the boards of `moved` moved
abbrev pub PlannedAfter : {V : Type 0} → Kind V → Hall V → (s moved : ℕ) → Plans → ℕ → Plans → Type 0
PlannedAfter {V} k h s moved plans r after = (before : Hall V) → AllPlanned k before plans s → Turned k before moved h → AllPlanned k h after r

-- every board of s is enabled
abbrev pub AllEnabled : {V : Type 0} → Kind V → Hall V → ℕ → Type 0
AllEnabled k h s = (b : ℕ) → has s b ≡ true → (v : Verdict) × VerdictIn k h b v

-- every board of s is there
abbrev pub AllThere : {V : Type 0} → Hall V → ℕ → Type 0
AllThere h s = (b : ℕ) → has s b ≡ true → b < boards_in h

-- why a turn is refused: a board that is not there, then the empty set, then a board that is not enabled
pub data TurnFault {V : Type 0} (k : Kind V) (h : Hall V) (s : ℕ) : Fault → Type 0 where
  beyond : (b : ℕ) → has s b ≡ true → boards_in h ≤ b → TurnFault k h s Board
  nobody : s ≡ 0 → TurnFault k h s Empty
  disabled : AllThere h s → SomeDisabled k h s → TurnFault k h s Disabled

-- turn: the answer is how many moved
abbrev pub Turns : {V : Type 0} → Kind V → Hall V → ℕ → Result ℕ Fault → Hall V → Type 0
Turns k before s (Ok m) after = AllEnabled k before s × (s ≢ 0) × Turned k before s after × Count (λ b. has s b ≡ true) 64 m
Turns k before s (Err f) after = TurnFault k before s f × (after ≡ before)
