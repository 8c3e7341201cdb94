-- Judging the boards in doubt one after another.
use Rattle.std.proofs.Common.{◌≡◌, ℕ, ◌+◌, ◌^◌, ◌<◌, ◌≤◌, Bool, true, false, not, ◌&&◌, ◌||◌, eqb, ltb, length, set, is_some, None, MatchBool, Option, sym, refl, ap, ◌∙◌, subst, ap₂, arith, get_or-set_other, get_or-set_same, lt-ltb, eq-eqb, ne_eqb, eqb-true}
use mathlib.Core.Logic.{by_cases}
use native.Mathlib.Decide.{ℕ_discrete, dec_lt}
use borrow.Author.Tests.{eqb-false}
use Rattle.lengths.specs.Kind.{Kind}
use Rattle.rules.specs.declared.verdict.Plan.{Plan}
use Rattle.sets.specs.Sets.{has, LeastFrom}
use Rattle.sets.proofs.Bits.{has_zero, has_all, in_sixty_four, differs}
use Rattle.hall.specs.Hall.{JudgedBoard, JudgedAgain, PlanIn, plan_of, AllPlanned, AllEnabled, SomeDisabled, TellsEnabled, EnabledSet}
use Rattle.hall.specs.declared.plans.Plans.{Plans}
use Rattle.hall.specs.declared.tables.Hall.{Hall}
use Rattle.hall.proofs.Verdicts.{or_true, or_false, plan_tells, all_told}

-- the boards below m are judged; in e are those of them that are enabled, and of all boards those that are in no doubt
pub record Judging {V : Type 0} (k : Kind V) (h : Hall V) (s doubtful : ℕ) (before : Plans) (m e : ℕ) (now : Plans) : Type 0 where
  pub small : e < 2 ^ 64
  pub done : (b : ℕ) → b < m → JudgedBoard k h (has doubtful b) (has s b) b (plan_of before b) (has e b) (plan_of now b)
  pub later : (b : ℕ) → m ≤ b → has e b ≡ (has s b && not (has doubtful b))
  pub unplanned : (b : ℕ) → m ≤ b → plan_of now b ≡ plan_of before b

sure : (x y : Bool) → y ≡ false → (x && not y) ≡ x
sure true y e = ap not e
sure false y e = refl

module _ {V : Type 0} (k : Kind V) (h : Hall V) (s doubtful : ℕ) (before : Plans) where
  -- a board in no doubt is left as it is
  left_so : (e b : ℕ) (now : Plans) → has doubtful b ≡ false → has e b ≡ (has s b && not (has doubtful b)) → plan_of now b ≡ plan_of before b → JudgedBoard k h (has doubtful b) (has s b) b (plan_of before b) (has e b) (plan_of now b)
  left_so e b now out is same = subst (λ d. JudgedBoard k h d (has s b) b (plan_of before b) (has e b) (plan_of now b)) (sym out) (is ∙ sure (has s b) (has doubtful b) out, same)

  -- the next board is judged
  pub judged : (from m e r : ℕ) (old new : Plans) (plan : Option Plan) → Judging k h s doubtful before from e old → LeastFrom doubtful from m → PlanIn k h m plan → plan_of new m ≡ plan → ((b : ℕ) → (b ≡ m → ⊥) → plan_of new b ≡ plan_of old b) → r < 2 ^ 64 → ((b : ℕ) → (b ≡ m → ⊥) → has r b ≡ has e b) → has r m ≡ is_some plan → Judging k h s doubtful before (m + 1) r new
  judged from m e r old new plan i l right put kept small others is = record {
    small = small;
    done = λ b lt. by_cases (ℕ_discrete b m)
        (λ same. subst (λ x. JudgedBoard k h (has doubtful x) (has s x) x (plan_of before x) (has r x) (plan_of new x)) (sym same)
        (subst (λ d. JudgedBoard k h d (has s m) m (plan_of before m) (has r m) (plan_of new m)) (sym l.there) (subst (PlanIn k h m) (sym put) right, is ∙ ap is_some (sym put))))
        (λ ne. subst (λ (p : Option Plan). JudgedBoard k h (has doubtful b) (has s b) b (plan_of before b) (has r b) p) (sym (kept b ne))
        (subst (λ t. JudgedBoard k h (has doubtful b) (has s b) b (plan_of before b) t (plan_of old b)) (sym (others b ne))
        (by_cases (dec_lt b from) (λ earlier. i.done b earlier) (λ on. left_so e b old (l.least b (omega arith) (omega arith)) (i.later b (omega arith)) (i.unplanned b (omega arith))))));
    later = λ b on. others b (λ same. omega arith) ∙ i.later b (omega (arith, l.onward));
    unplanned = λ b on. kept b (λ same. omega arith) ∙ i.unplanned b (omega (arith, l.onward));
  }

  pub all_judged : (from e : ℕ) (now : Plans) → Judging k h s doubtful before from e now → ((b : ℕ) → from ≤ b → has doubtful b ≡ false) → JudgedAgain k h s doubtful before e now
  all_judged from e now i none = record {
    small = i.small;
    each = λ b. by_cases (dec_lt b from) (λ earlier. i.done b earlier) (λ on. left_so e b now (none b (omega arith)) (i.later b (omega arith)) (i.unplanned b (omega arith)));
  }

-- a board in doubt is not in the set before it is judged
pub not_yet : {V : Type 0} {k : Kind V} {h : Hall V} {s doubtful from e m : ℕ} {before now : Plans} → Judging k h s doubtful before from e now → LeastFrom doubtful from m → has e m ≡ false
not_yet {s = s} {doubtful = doubtful} {m = m} i l = i.later m l.onward ∙ ap (λ x. has s m && not x) l.there ∙ never (has s m)
  where
    never : (x : Bool) → (x && false) ≡ false
    never true = refl
    never false = refl

-- a plan is overwritten
pub put_plan : (old : Plans) (m : ℕ) (p : Option Plan) → m < length old.of → plan_of (record { of = set old.of m p }) m ≡ p
put_plan old m p lt = get_or-set_same old.of m p None lt

pub other_plan : (old : Plans) (m : ℕ) (p : Option Plan) (b : ℕ) → (b ≡ m → ⊥) → plan_of (record { of = set old.of m p }) b ≡ plan_of old b
other_plan old m p b ne = get_or-set_other old.of m b p None ne

module _ {V : Type 0} (k : Kind V) (h : Hall V) (s r : ℕ) (before after : Plans) (j : JudgedAgain k h 0 s before r after) where
  -- a board of s that is missing in what was found has no verdict
  one_disabled : s < 2 ^ 64 → (r ≡ s → ⊥) → SomeDisabled k h s
  one_disabled small ne = let d = differs 64 r s j.small small ne in go d.0 (has s d.0) (has r d.0) refl d.1 (j.each d.0)
    where
      go : (b : ℕ) (t u : Bool) → has s b ≡ t → (u ≡ has s b → ⊥) → JudgedBoard k h t (has 0 b) b (plan_of before b) u (plan_of after b) → SomeDisabled k h s
      go b true true is other x = absurd (other (sym is))
      go b true false is other x = record { board = b; chosen = is; idle = plan_tells k h b (plan_of after b) false x.1 x.0 }
      go b false u is other x = absurd (other (x.0 ∙ has_zero b ∙ sym is))

  -- where nobody is missing, each has its plan and is enabled
  all_planned : r ≡ s → (b : ℕ) → has s b ≡ true → PlanIn k h b (plan_of after b) × TellsEnabled k h b true
  all_planned same b in-s =
      let x = subst (λ d. JudgedBoard k h d (has 0 b) b (plan_of before b) (has r b) (plan_of after b)) in-s (j.each b) in
      (x.0, plan_tells k h b (plan_of after b) true (sym (ap (λ y. has y b) same ∙ in-s) ∙ x.1) x.0)

  -- whether what was found is the set
  pub found_all : s < 2 ^ 64 → (t : Bool) → eqb r s ≡ t → MatchBool t (AllEnabled k h s × AllPlanned k h after s) (SomeDisabled k h s)
  found_all small true e = let same = eqb-true r s e in (λ b in-s. (all_planned same b in-s).1, λ b in-s. (all_planned same b in-s).0)
  found_all small false e = one_disabled small (eqb-false r s e)

-- judging everybody finds the enabled boards
pub all_found : {V : Type 0} (k : Kind V) (h : Hall V) (r : ℕ) (before after : Plans) → JudgedAgain k h 0 18446744073709551615 before r after → EnabledSet k h r × AllPlanned k h after r
all_found k h r before after j = (all_told k h r j.small (λ b lt. plan_tells k h b (plan_of after b) (has r b) (each b lt).1 (each b lt).0), λ b in-r. (each b (in_sixty_four r b j.small in-r)).0)
  where
    each : (b : ℕ) → b < 64 → PlanIn k h b (plan_of after b) × (has r b ≡ is_some (plan_of after b))
    each b lt = subst (λ d. JudgedBoard k h d (has 0 b) b (plan_of before b) (has r b) (plan_of after b)) (has_all b lt) (j.each b)

-- a board more in a set changes nothing for the others
pub with_others : (e r m : ℕ) → ((b : ℕ) → has r b ≡ (has e b || (eqb b m && ltb m 64))) → (b : ℕ) → (b ≡ m → ⊥) → has r b ≡ has e b
with_others e r m w b ne = w b ∙ ap (λ x. has e b || (x && ltb m 64)) (ne_eqb b m ne) ∙ or_false (has e b)

pub with_itself : (e r m : ℕ) → m < 64 → ((b : ℕ) → has r b ≡ (has e b || (eqb b m && ltb m 64))) → has r m ≡ true
with_itself e r m lt w = w m ∙ ap (λ y. has e m || y) (ap₂ ◌&&◌ (eq-eqb m m refl) (lt-ltb m 64 lt)) ∙ or_true (has e m)
