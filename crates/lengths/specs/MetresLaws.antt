-- Metres keep the laws of lengths.
use Rattle.std.specs.Prelude.{◌≡◌, ℕ, suc, ◌+◌, ◌*◌, ◌^◌, ◌<◌, ◌≤◌, Bool, true, false, cond, ◌&&◌, List, [], ◌∷◌, length, Some, None, Option, nat_le, refl}
use Rattle.std.proofs.Common.{sym, ap, ◌∙◌, arith, leb-true, le-leb}
use mathlib.Core.HLevel.{is_prop→PathP}
use Rattle.std.proofs.Math.Bridge.{le_prop}
use Rattle.std.proofs.Math.Decide.{dec_lt}
use Rattle.std.specs.Ordering.{is_lt, nat_cmp}
use Rattle.lengths.specs.Codes.{ByCode, from_below, not_below, from_not_below, chain, no_tie, below}
use Rattle.std.specs.declared.cmp.Ordering.TheVariants.{Less, Equal, Greater}
use Rattle.lengths.specs.Kind.{Laws, onward, along, AllAdmitted}
use Rattle.lengths.specs.Metres.{metres, in_metres, up_to}
use Rattle.lengths.specs.declared.metres.Metres.{Metres}

-- metres are compared by their number
number_lt : (s t : Bool) → is_lt (cond s Less (cond t Equal Greater)) ≡ s
number_lt true t = refl
number_lt false true = refl
number_lt false false = refl

pub metres_ordered : (a b : Metres) → is_lt (nat_cmp a.value b.value) ≡ metres.less a b
metres_ordered a b = number_lt _ _

pub same : (a b : Metres) → a.value ≡ b.value → a ≡ b
same a b e = λ i. record { value = e i; fits = is_prop→PathP (λ (j : 𝕀). suc (e j) ≤ 2 ^ 32) (λ (j : 𝕀). le_prop) a.fits b.fits i }

by_code : ByCode metres
by_code = record { compares = λ a b. refl; apart = same }

abbrev number_or : ℕ → Option Metres → ℕ
number_or d (Some a) = a.value
number_or d None = d

-- what was given is the number, and a number below the bound is given
given : (n : ℕ) (d : Dec (n < 2 ^ 32)) (b : Metres) → up_to n d ≡ Some b → b.value ≡ n
given n (yes h) b e = sym (ap (number_or n) e)
given n (no h) b e = let z : ◌≡◌ {A = ℕ} 0 1 = cc in absurd (omega arith)

pub gives : (a : Metres) (n : ℕ) (d : Dec (n < 2 ^ 32)) → a.value ≡ n → up_to n d ≡ Some a
gives a n (yes h) e = ap Some (same _ a (sym e))
gives a n (no h) e = absurd (h (rw e at a.fits))

-- an extension adds an admitted weight
sum : (a b : Metres) (w : ℕ) (t : Bool) → cond t (in_metres (a.value + w)) None ≡ Some b → (t ≡ true) × (b.value ≡ a.value + w)
sum a b w true e = (refl, given (a.value + w) (dec_lt (a.value + w) (2 ^ 32)) b e)
sum a b w false e = let z : ◌≡◌ {A = ℕ} 0 1 = cc in absurd (omega arith)

admits : (w : ℕ) (s t : Bool) → nat_le 1 w ≡ s → nat_le w 65535 ≡ t → (s && t) ≡ true → (1 ≤ w) × (w ≤ 65535)
admits w true true p q e = (leb-true _ _ p, leb-true _ _ q)
admits w true false p q e = let z : ◌≡◌ {A = ℕ} 0 1 = cc in absurd (omega arith)
admits w false t p q e = let z : ◌≡◌ {A = ℕ} 0 1 = cc in absurd (omega arith)

-- an admitted weight is added where the sum is a value
pub adds : (a b : Metres) (w : ℕ) (t : Bool) → t ≡ true → b.value ≡ a.value + w → cond t (in_metres (a.value + w)) None ≡ Some b
adds a b w true e s = gives b (a.value + w) (dec_lt (a.value + w) (2 ^ 32)) s
adds a b w false e s = let z : ◌≡◌ {A = ℕ} 0 1 = cc in absurd (omega arith)

pub admitted_from : (w : ℕ) → 1 ≤ w → w ≤ 65535 → metres.admitted w ≡ true
admitted_from w p q = rw (le-leb 1 w p) (le-leb w 65535 q)

no_more : (a : Metres) (w : ℕ) (t : Bool) → t ≡ false → cond t (in_metres (a.value + w)) None ≡ None
no_more a w true e = let z : ◌≡◌ {A = ℕ} 0 1 = cc in absurd (omega arith)
no_more a w false e = refl

-- from a value with room for each weight there is a value at the end
reach : (ws : List ℕ) (a : Metres) (v : Option Metres) → v ≡ Some a → a.value + 65535 * length ws < 2 ^ 32 → AllAdmitted metres ws → (b : Metres) × (along metres v ws ≡ Some b)
reach [] a v e room h = (a, e)
reach (w ∷ ws) a v e room h =
    let ok = admits w _ _ refl refl h.0 in
    let fits : a.value + w < 2 ^ 32 = omega arith in
    let b : Metres = record { value = a.value + w; fits = fits } in
    reach ws b _ (ap (λ x. onward metres x w) e ∙ adds a b w _ h.0 refl) (omega arith) h.1

pub metres_laws : Laws metres
metres_laws = record {
  irreflexive = λ a. from_not_below by_code a a (omega arith);
  transitive = chain by_code;
  untied = no_tie by_code;
  topped = λ a. from_not_below by_code metres.ceiling a (omega (arith, a.fits));
  longer = λ a b w e. let s = sum a b w _ e in let ok = admits w _ _ refl refl s.0 in from_below by_code a b (omega arith);
  unadmitted = λ a w e. no_more a w _ e;
  monotone = λ a b limit w le e.
      let s = sum b limit w _ e in
      let short = not_below by_code b a le in
      let fits : a.value + w < 2 ^ 32 = omega (arith, limit.fits) in
      let r : Metres = record { value = a.value + w; fits = fits } in
      record { reached = r; extends = adds a r w _ s.0 refl; short = from_not_below by_code limit r (omega arith) };
  reaches = λ ws few h.
      let r = reach ws metres.start _ refl (omega arith) h in
      record { value = r.0; is = r.1 };
  bounded = λ a. omega (arith, a.fits);
  ordered = below by_code;
  read_back = λ a. gives a _ _ refl;
  own_code = λ c a e. given c (dec_lt c (2 ^ 32)) a e;
}
