-- Grade keeps the laws of lengths.
use Rattle.std.specs.Prelude.{◌≡◌, ℕ, suc, ◌+◌, ◌*◌, ◌/◌, ◌%◌, ◌^◌, ◌<◌, ◌≤◌, max, Bool, true, false, cond, ◌&&◌, ◌||◌, List, [], ◌∷◌, length, Some, None, Option, ◌==◌, nat_le, nat_lt, refl}
use Rattle.std.proofs.Common.{sym, ap, ◌∙◌, arith, leb-true, le-leb, ltb-true, ltb-false, eqb-true, lt-ltb, le-ltb}
use mathlib.Core.HLevel.{is_prop→PathP}
use Rattle.std.proofs.Math.Bridge.{le_prop}
use Rattle.std.proofs.Math.Decide.{dec_lt}
use Rattle.std.proofs.lemmas.Bool.{eqb-false}
use Rattle.std.specs.Ordering.{is_lt, nat_cmp, ordering_then}
use Rattle.lengths.specs.Codes.{ByCode, from_below, not_below, from_not_below, chain, no_tie, below}
use Rattle.std.specs.declared.cmp.Ordering.TheVariants.{Less, Equal, Greater}
use Rattle.lengths.specs.Kind.{Laws, onward, along, AllAdmitted}
use Rattle.lengths.specs.Grade.{grade, in_grade, up_to}
use Rattle.lengths.specs.declared.grade.Grade.{Grade}

-- grades are compared by their hops, and by the worst grade where those are equal
hops_first : (s t u v : Bool) → is_lt (ordering_then (cond s Less (cond t Equal Greater)) (cond u Less (cond v Equal Greater))) ≡ (s || (t && u))
hops_first true t u v = refl
hops_first false true true v = refl
hops_first false true false true = refl
hops_first false true false false = refl
hops_first false false u v = refl

pub grade_ordered : (a b : Grade) → is_lt (ordering_then (nat_cmp a.hops b.hops) (nat_cmp a.worst b.worst)) ≡ grade.less a b
grade_ordered a b = hops_first _ _ _ _

pub same : (a b : Grade) → a.hops ≡ b.hops → a.worst ≡ b.worst → a ≡ b
same a b e f = λ i. record {
  hops = e i;
  worst = f i;
  few = is_prop→PathP (λ (j : 𝕀). suc (e j) ≤ 2 ^ 16) (λ (j : 𝕀). le_prop) a.few b.few i;
  graded = is_prop→PathP (λ (j : 𝕀). suc (f j) ≤ 2 ^ 8) (λ (j : 𝕀). le_prop) a.graded b.graded i;
}

-- hops first, then the worst grade: that is the order of the codes
lexical : (a b : Grade) (s t u : Bool) → nat_lt a.hops b.hops ≡ s → (a.hops == b.hops) ≡ t → nat_lt a.worst b.worst ≡ u → (s || (t && u)) ≡ nat_lt (a.hops * 256 + a.worst) (b.hops * 256 + b.worst)
lexical a b true t u p q r = let h = ltb-true _ _ p in sym (lt-ltb _ _ (omega (arith, a.graded)))
lexical a b false true true p q r = let e = eqb-true _ _ q in let h = ltb-true _ _ r in sym (lt-ltb _ _ (omega arith))
lexical a b false true false p q r = let e = eqb-true _ _ q in let h = ltb-false _ _ r in sym (le-ltb _ _ (omega arith))
lexical a b false false u p q r =
    let h = ltb-false _ _ p in
    let n : a.hops ≡ b.hops → ⊥ = eqb-false _ _ q in
    let m : b.hops < a.hops = omega arith in
    sym (le-ltb _ _ (omega (arith, b.graded)))

by_code : ByCode grade
by_code = record {
  compares = λ a b. lexical a b _ _ _ refl refl refl;
  apart = λ a b e. same a b (omega (arith, a.graded, b.graded)) (omega (arith, a.graded, b.graded));
}

abbrev hops_or : ℕ → Option Grade → ℕ
hops_or d (Some a) = a.hops
hops_or d None = d

abbrev worst_or : ℕ → Option Grade → ℕ
worst_or d (Some a) = a.worst
worst_or d None = d

-- what was given are the two numbers, and numbers below the bounds are given
given : (h w : ℕ) (p : Dec (h < 2 ^ 16)) (q : Dec (w < 2 ^ 8)) (b : Grade) → up_to h w p q ≡ Some b → (b.hops ≡ h) × (b.worst ≡ w)
given h w (yes p) (yes q) b e = (sym (ap (hops_or h) e), sym (ap (worst_or w) e))
given h w (yes p) (no q) b e = let z : ◌≡◌ {A = ℕ} 0 1 = cc in absurd (omega arith)
given h w (no p) (yes q) b e = let z : ◌≡◌ {A = ℕ} 0 1 = cc in absurd (omega arith)
given h w (no p) (no q) b e = let z : ◌≡◌ {A = ℕ} 0 1 = cc in absurd (omega arith)

pub gives : (a : Grade) (h w : ℕ) (p : Dec (h < 2 ^ 16)) (q : Dec (w < 2 ^ 8)) → a.hops ≡ h → a.worst ≡ w → up_to h w p q ≡ Some a
gives a h w (yes p) (yes q) e f = ap Some (same _ a (sym e) (sym f))
gives a h w (yes p) (no q) e f = absurd (q (rw f at a.graded))
gives a h w (no p) (yes q) e f = absurd (p (rw e at a.few))
gives a h w (no p) (no q) e f = absurd (p (rw e at a.few))

-- an extension is one hop more, and the worse of the two grades
step : (a b : Grade) (w : ℕ) (t : Bool) → cond t (in_grade (a.hops + 1) (max a.worst w)) None ≡ Some b → (t ≡ true) × (b.hops ≡ a.hops + 1) × (b.worst ≡ max a.worst w)
step a b w true e = let g = given (a.hops + 1) (max a.worst w) (dec_lt (a.hops + 1) (2 ^ 16)) (dec_lt (max a.worst w) (2 ^ 8)) b e in (refl, g.0, g.1)
step a b w false e = let z : ◌≡◌ {A = ℕ} 0 1 = cc in absurd (omega arith)

pub steps_to : (a b : Grade) (w : ℕ) (t : Bool) → t ≡ true → b.hops ≡ a.hops + 1 → b.worst ≡ max a.worst w → cond t (in_grade (a.hops + 1) (max a.worst w)) None ≡ Some b
steps_to a b w true e h g = gives b _ _ (dec_lt (a.hops + 1) (2 ^ 16)) (dec_lt (max a.worst w) (2 ^ 8)) h g
steps_to a b w false e h g = let z : ◌≡◌ {A = ℕ} 0 1 = cc in absurd (omega arith)

no_more : (a : Grade) (w : ℕ) (t : Bool) → t ≡ false → cond t (in_grade (a.hops + 1) (max a.worst w)) None ≡ None
no_more a w true e = let z : ◌≡◌ {A = ℕ} 0 1 = cc in absurd (omega arith)
no_more a w false e = refl

admits : (w : ℕ) (s t : Bool) → nat_le 1 w ≡ s → nat_le w 255 ≡ t → (s && t) ≡ true → (1 ≤ w) × (w ≤ 255)
admits w true true p q e = (leb-true _ _ p, leb-true _ _ q)
admits w true false p q e = let z : ◌≡◌ {A = ℕ} 0 1 = cc in absurd (omega arith)
admits w false t p q e = let z : ◌≡◌ {A = ℕ} 0 1 = cc in absurd (omega arith)

pub admitted_from : (w : ℕ) → 1 ≤ w → w ≤ 255 → grade.admitted w ≡ true
admitted_from w p q = rw (le-leb 1 w p) (le-leb w 255 q)

reach : (ws : List ℕ) (a : Grade) (v : Option Grade) → v ≡ Some a → a.hops + length ws < 2 ^ 16 → AllAdmitted grade ws → (b : Grade) × (along grade v ws ≡ Some b)
reach [] a v e room h = (a, e)
reach (w ∷ ws) a v e room h =
    let ok = admits w _ _ refl refl h.0 in
    let b : Grade = record { hops = a.hops + 1; worst = max a.worst w; few = omega arith; graded = omega (arith, a.graded) } in
    reach ws b _ (ap (λ x. onward grade x w) e ∙ steps_to a b w _ h.0 refl refl) (omega arith) h.1

pub grade_laws : Laws grade
grade_laws = record {
  irreflexive = λ a. from_not_below by_code a a (omega arith);
  transitive = chain by_code;
  untied = no_tie by_code;
  topped = λ a. from_not_below by_code grade.ceiling a (omega (arith, a.few, a.graded));
  longer = λ a b w e. let s = step a b w _ e in from_below by_code a b (omega (arith, a.graded));
  unadmitted = λ a w e. no_more a w _ e;
  monotone = λ a b limit w le e.
      let s = step b limit w _ e in
      let ok = admits w _ _ refl refl s.0 in
      let short = not_below by_code b a le in
      let r : Grade = record { hops = a.hops + 1; worst = max a.worst w; few = omega (arith, limit.few, a.graded, b.graded); graded = omega (arith, a.graded) } in
      record { reached = r; extends = steps_to a r w _ s.0 refl refl; short = from_not_below by_code limit r (omega (arith, a.graded, b.graded, limit.graded)) };
  reaches = λ ws few h.
      let r = reach ws grade.start _ refl (omega arith) h in
      record { value = r.0; is = r.1 };
  bounded = λ a. omega (arith, a.few, a.graded);
  ordered = below by_code;
  read_back = λ a. gives a _ _ (dec_lt _ _) (dec_lt _ _) (omega (arith, a.graded)) (omega (arith, a.graded));
  own_code = λ c a e. let g = given (c / 256) (c % 256) (dec_lt (c / 256) (2 ^ 16)) (dec_lt (c % 256) (2 ^ 8)) a e in omega (arith, g);
}
