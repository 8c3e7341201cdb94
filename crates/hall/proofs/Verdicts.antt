-- From what the rules say of a neighbourhood to what a hall says of a board.
use Rattle.std.proofs.Common.{◌≡◌, ℕ, ◌^◌, ◌<◌, ◌≤◌, Bool, true, false, cond, ◌||◌, is_some, Some, None, Option, sym, refl, ap, ◌∙◌, subst, ⊎_elim, arith}
use mathlib.Core.Logic.{by_cases}
use native.Mathlib.Decide.{dec_lt}
use borrow.Author.Tests.{both_ways}
use Rattle.lengths.specs.Kind.{Kind}
use Rattle.rules.specs.Rules as Rules
use Rattle.rules.specs.Rules.{rule_of, Judged, Moves, Enabled, Effect, Takes, TakesLeast, LeastOffer, taken, followed, ruled, suits, offered}
use Rattle.rules.specs.declared.verdict.Plan.{Plan}
use Rattle.rules.specs.declared.verdict.Plan.TheVariants as plan
use Rattle.rules.specs.declared.neighbourhood.Seen.{Seen}
use Rattle.rules.specs.declared.record.Record.{Record}
use Rattle.rules.specs.declared.verdict.Verdict.{Verdict}
use Rattle.rules.specs.declared.verdict.Verdict.TheVariants.{RC, REB, REF, RI, RR}
use Rattle.network.specs.Cables.{around}
use Rattle.network.specs.declared.End.{End}
use Rattle.sets.specs.Sets.{has}
use Rattle.sets.proofs.Bits.{in_sixty_four}
use Rattle.hall.specs.Hall.{boards_in, far_in, records_in, VerdictIn, IsVerdict, TellsEnabled, EnabledSet, MoveOn, PlanOn, PlanIn, AllThere}
use Rattle.hall.specs.declared.tables.Hall.{Hall}

is_verdict : {V : Type 0} (k : Kind V) (h : Hall V) (b : ℕ) → b < boards_in h → (b ≡ 0 → ⊥) → (r : Option Verdict) → Judged k (records_in k h b) (around (far_in h) (records_in k h) b) r → IsVerdict k h b r
is_verdict k h b lt ne None j = λ v x. j v x.2
is_verdict k h b lt ne (Some v) j = (lt, ne, j)

pub verdict_of_board : {V : Type 0} (k : Kind V) (h : Hall V) (b : ℕ) → b < boards_in h → (b ≡ 0 → ⊥) → (own : Record V) → own ≡ records_in k h b → (r : Option Verdict) → Judged k own (around (far_in h) (records_in k h) b) r → IsVerdict k h b r
verdict_of_board k h b lt ne own e r j = is_verdict k h b lt ne r (subst (λ x. Judged k x (around (far_in h) (records_in k h) b) r) e j)

pub or_true : (x : Bool) → (x || true) ≡ true
or_true true = refl
or_true false = refl

pub or_false : (x : Bool) → (x || false) ≡ x
or_false true = refl
or_false false = refl

-- a set that tells of every board whether it is enabled
pub all_told : {V : Type 0} (k : Kind V) (h : Hall V) (s : ℕ) → s < 2 ^ 64 → ((b : ℕ) → b < 64 → TellsEnabled k h b (has s b)) → EnabledSet k h s
all_told k h s small tells = record {
  small = small;
  all = λ b v x. in-it b v x (has s b) (tells b (omega (arith, x.0, h.cabling.few)));
  only = λ b in-s. subst (TellsEnabled k h b) in-s (tells b (in_sixty_four s b small in-s));
}
  where
    in-it : (b : ℕ) (v : Verdict) → VerdictIn k h b v → (t : Bool) → TellsEnabled k h b t → t ≡ true
    in-it b v x true y = refl
    in-it b v x false y = absurd (y v x)

-- a plan tells whether its board is enabled
pub plan_tells : {V : Type 0} (k : Kind V) (h : Hall V) (b : ℕ) (r : Option Plan) (t : Bool) → t ≡ is_some r → PlanIn k h b r → TellsEnabled k h b t
plan_tells k h b None true e j = absurd (both_ways true e refl)
plan_tells k h b None false e j = j
plan_tells k h b (Some p) true e j = (rule_of p, j.0)
plan_tells k h b (Some p) false e j = absurd (both_ways false refl e)

pub plan_of_board : {V : Type 0} (k : Kind V) (h : Hall V) (b : ℕ) → b < boards_in h → (b ≡ 0 → ⊥) → (own : Record V) → own ≡ records_in k h b → (r : Option Plan) → Rules.Plans k own (around (far_in h) (records_in k h) b) r → PlanIn k h b r
plan_of_board k h b lt ne own e r j = go r (subst (λ x. Rules.Plans k x (around (far_in h) (records_in k h) b) r) e j)
  where
    go : (r : Option Plan) → Rules.Plans k (records_in k h b) (around (far_in h) (records_in k h) b) r → PlanIn k h b r
    go None x = λ v y. x v y.2
    go (Some p) x = ((lt, ne, x.0), x.1)

-- an enabled rule is for the board's status
suited : {V : Type 0} (k : Kind V) (own : Record V) (near : ℕ → Option (Seen V)) (v : Verdict) → Enabled k own near v → suits v own.status ≡ true
suited k own near RC x = ap (suits RC) x.0
suited k own near REB x = ap (suits REB) x.0
suited k own near REF x = ap (suits REF) x.0
suited k own near RI x = ap (suits RI) x.0
suited k own near RR x = ⊎_elim (λ i. ap (suits RR) i) (λ e. ap (suits RR) e.0) x.1

takes : {V : Type 0} (k : Kind V) (own : Record V) (near : ℕ → Option (Seen V)) (p : ℕ) (l : V) → LeastOffer k near p l → Takes k near (taken k own near p)
takes k own near p l least = subst (λ (r : Record _). Takes k near r) (sym (ap (Rules.taken_at own p) least.offers.offer)) (refl, least)

ruled_so : {V : Type 0} (k : Kind V) (own : Record V) (near : ℕ → Option (Seen V)) (p : Plan) → TakesLeast k near p → Effect k own near (rule_of p) (ruled k own near p)
ruled_so k own near (plan.RC p) t = takes k own near p t.length t.least
ruled_so k own near plan.REB t = refl
ruled_so k own near plan.REF t = refl
ruled_so k own near plan.RI t = refl
ruled_so k own near (plan.RR p) t = takes k own near p t.length t.least

-- who follows a plan moves by its verdict
pub follows_plan : {V : Type 0} (k : Kind V) (n : ℕ) (far : ℕ → ℕ → Option End) (rec : ℕ → Record V) (b : ℕ) (p : Plan) (next : Record V) → PlanOn k n far rec b (Some p) → next ≡ followed k (rec b) (around far rec b) (Some p) → MoveOn k n far rec b (Some (rule_of p)) next
follows_plan {V} k n far rec b p next plan e =
    let near = around far rec b in
    let so : next ≡ ruled k (rec b) near p = e ∙ ap (λ t. cond t (ruled k (rec b) near p) (rec b)) (suited k (rec b) near (rule_of p) plan.0.2) in
    (plan.0, subst (λ (r : Record V). Effect k (rec b) near (rule_of p) r) (sym so) (ruled_so k (rec b) near p plan.1))

on_these : {V : Type 0} (k : Kind V) (n : ℕ) (far : ℕ → ℕ → Option End) (rec : ℕ → Record V) (b : ℕ) → b < n → (b ≡ 0 → ⊥) → (r : Option Verdict) (next : Record V) → Moves k (rec b) (around far rec b) r next → MoveOn k n far rec b r next
on_these k n far rec b lt ne None next m = (λ v x. m.0 v x.2, m.1)
on_these k n far rec b lt ne (Some v) next m = ((lt, ne, m.0), m.1)

pub move_of : {V : Type 0} (k : Kind V) (n : ℕ) (far : ℕ → ℕ → Option End) (rec : ℕ → Record V) (b : ℕ) → b < n → (b ≡ 0 → ⊥) → (own : Record V) → own ≡ rec b → (r : Option Verdict) (next : Record V) → Moves k own (around far rec b) r next → MoveOn k n far rec b r next
move_of k n far rec b lt ne own e r next m = on_these k n far rec b lt ne r next (subst (λ x. Moves k x (around far rec b) r next) e m)

-- nothing of s from n on: every board of it is there
pub all_there : {V : Type 0} (h : Hall V) (s m : ℕ) → m ≡ boards_in h → ((b : ℕ) → m ≤ b → has s b ≡ false) → AllThere h s
all_there h s m e none b in-s = by_cases (dec_lt b (boards_in h)) (λ lt. lt) (λ ge. absurd (both_ways (has s b) (none b (omega arith)) in-s))
