-- What the operations on bits do to membership.
use Rattle.std.proofs.Common.{⊎_elim, ◌≡◌, ℕ, zero, suc, ◌+◌, ◌-◌, ◌*◌, ◌/◌, ◌%◌, ◌^◌, ◌<◌, ◌≤◌, min, max, Bool, true, false, not, ◌&&◌, ◌||◌, eqb, ltb, sym, refl, ap, ◌∙◌, subst, ap₂, one-mul, zero-add, div-one, add-one, one-add, arith, pow_mono, lt-ltb, eq-eqb, ne_eqb, eqb-true}
use mathlib.Core.Logic.{by_cases}
use native.Mathlib.Decide.{ℕ_discrete, dec_lt}
use native.Mathlib.Nat.{pow-succ', pow-zero, mod-one}
use lib.Bits.{bit_and, bit_or, and_step, or_shr, or_step}
use lib.Count.{ones, ones_cat, count_trailing_zeros, under as above}
use lib.Pow.{pow-lt}
use borrow.Author.Tests.{eqb-false, both_ways}
use Rattle.std.proofs.lemmas.Bool.{cases_eq}
use Rattle.std.proofs.lemmas.Nat.{and_shr, shr_below, pow_pos, pow-add, shl-shr, shr-shr, div_below, mod_below, mod-pow-add}
use Rattle.sets.specs.Counts.{Count}
use Rattle.sets.specs.Counts.Count.{nobody, one_such, not_such}
use Rattle.sets.specs.Sets.{has, LeastFrom}

-- a quotient by more than the number
under : (n k : ℕ) → n < k → n / k ≡ 0
under n k h = let q : n / k < 1 = div_below n k 1 (omega arith) (omega arith) in omega arith

-- no number from 64 on has a bit in a u64
pub none_past : (s b : ℕ) → s < 2 ^ 64 → 64 ≤ b → has s b ≡ false
none_past s b small far =
    let more : 2 ^ 64 ≤ 2 ^ b = pow_mono far in
    let none : s / 2 ^ b ≡ 0 = under s (2 ^ b) (omega arith) in
    ap (λ q. eqb (q % 2) 1) none

-- the bits of a power of two
low : (b c j : ℕ) → b ≡ suc j + c → 2 ^ b / 2 ^ c % 2 ≡ 0
low b c j e =
    let split : 2 ^ b / 2 ^ c ≡ 2 ^ suc j = ap (λ x. 2 ^ x / 2 ^ c) e ∙ ap (λ x. x / 2 ^ c) (pow-add 2 (suc j) c) ∙ shl-shr (2 ^ suc j) c in
    let even : 2 ^ suc j ≡ 2 * 2 ^ j = pow-succ' 2 j in
    omega arith

pub own_bit : (b : ℕ) → has (2 ^ b) b ≡ true
own_bit b = let e : 2 ^ b / 2 ^ b ≡ 1 = ap (λ x. x / 2 ^ b) (sym (one-mul (2 ^ b))) ∙ shl-shr 1 b in ap (λ q. eqb (q % 2) 1) e

pub other_bit : (b c : ℕ) → (c ≡ b → ⊥) → has (2 ^ b) c ≡ false
other_bit b c ne =
    by_cases
    (dec_lt c b)
    (λ (lt : c < b). let e : 2 ^ b / 2 ^ c % 2 ≡ 0 = low b c (b - c - 1) (omega arith) in ap (λ q. eqb q 1) e)
    (λ (ge : c < b → ⊥). let lt : b < c = omega arith in let e = under (2 ^ b) (2 ^ c) (pow-lt lt) in ap (λ q. eqb (q % 2) 1) e)

-- a digit of `or` is the greater of the two digits
or_digit : (a b : ℕ) → bit_or a b % 2 ≡ max (a % 2) (b % 2)
or_digit a b = let s = or_step a b in omega arith

either : (x y : ℕ) → x < 2 → y < 2 → eqb (max x y) 1 ≡ (eqb x 1 || eqb y 1)
either zero zero p q = refl
either zero (suc zero) p q = refl
either zero (suc (suc y)) p q = absurd (omega arith)
either (suc zero) zero p q = refl
either (suc zero) (suc zero) p q = refl
either (suc zero) (suc (suc y)) p q = absurd (omega arith)
either (suc (suc x)) y p q = absurd (omega arith)

pub has_or : (s t b : ℕ) → has (bit_or s t) b ≡ (has s b || has t b)
has_or s t b =
    let d : bit_or s t / 2 ^ b % 2 ≡ max (s / 2 ^ b % 2) (t / 2 ^ b % 2) = ap (λ x. x % 2) (or_shr s t b) ∙ or_digit (s / 2 ^ b) (t / 2 ^ b) in
    ap (λ x. eqb x 1) d ∙ either _ _ (omega arith) (omega arith)

-- one board more
pub has_with : (s b : ℕ) → b < 64 → (c : ℕ) → has (bit_or s (2 ^ b)) c ≡ (has s c || (eqb c b && ltb b 64))
has_with s b small c =
    let one : has (2 ^ b) c ≡ (eqb c b && ltb b 64) = by_cases (ℕ_discrete c b)
    (λ e. ap (λ x. has (2 ^ b) x) e ∙ own_bit b ∙ sym (ap₂ ◌&&◌ (eq-eqb c b e) (lt-ltb b 64 small)))
    (λ ne. other_bit b c ne ∙ sym (ap (λ x. x && ltb b 64) (ne_eqb c b ne))) in
    has_or s (2 ^ b) c ∙ ap (λ x. has s c || x) one

-- the ones of a number are its members
top : (s m a : ℕ) (t : Bool) → s / 2 ^ m % 2 ≡ a → eqb a 1 ≡ t → a < 2 → Count (λ b. has s b ≡ true) m (ones (s % 2 ^ m)) → Count (λ b. has s b ≡ true) (suc m) (ones a + ones (s % 2 ^ m))
unfolding ones
top s m zero t e is small c = subst (λ x. Count (λ b. has s b ≡ true) (suc m) x) (sym (zero-add _)) (not_such c (λ h. both_ways _ (ap (λ x. eqb x 1) e) h))
top s m (suc zero) t e is small c = subst (λ x. Count (λ b. has s b ≡ true) (suc m) x) (sym (one-add _)) (one_such c (ap (λ x. eqb x 1) e))
top s m (suc (suc a)) t e is small c = absurd (omega arith)

members : (s m : ℕ) → Count (λ b. has s b ≡ true) m (ones (s % 2 ^ m))
unfolding ones
members s zero = subst (λ x. Count (λ b. has s b ≡ true) 0 x) (sym (ap ones (mod-one s))) nobody
members s (suc m) =
    let split : s % 2 ^ suc m ≡ (s / 2 ^ m % 2) * 2 ^ m + s % 2 ^ m = ap (λ x. s % 2 ^ x) (sym (one-add m)) ∙ mod-pow-add s 1 m in
    let below : s % 2 ^ m < 2 ^ m = mod_below s (2 ^ m) (pow_pos m) in
    subst (λ x. Count (λ b. has s b ≡ true) (suc m) x) (sym (ap ones split ∙ ones_cat m (s / 2 ^ m % 2) (s % 2 ^ m) below))
    (top s m (s / 2 ^ m % 2) _ refl refl (omega arith) (members s m))

pub counted : (s : ℕ) → s < 2 ^ 64 → Count (λ b. has s b ≡ true) 64 (ones s)
counted s small = subst (λ x. Count (λ b. has s b ≡ true) 64 (ones x)) (let e : s % 2 ^ 64 ≡ s = omega arith in e) (members s 64)

pub has_zero : (b : ℕ) → has 0 b ≡ false
has_zero b = ap (λ q. eqb (q % 2) 1) (under 0 (2 ^ b) (pow_pos b))

-- the set of all 64 boards
all_in : ℕ → Bool
all_in zero = true
all_in (suc b) = has 18446744073709551615 b && all_in b

both : (x y : Bool) → (x && y) ≡ true → (x ≡ true) × (y ≡ true)
both true y e = (refl, e)
both false y e = absurd (both_ways false refl e)

below_all : (n b : ℕ) → all_in n ≡ true → b < n → has 18446744073709551615 b ≡ true
unfolding all_in
below_all zero b e lt = absurd (omega arith)
below_all (suc n) b e lt = let s = both _ _ e in by_cases (ℕ_discrete b n) (λ same. ap (has 18446744073709551615) same ∙ s.0) (λ ne. below_all n b s.1 (omega arith))

pub has_all : (b : ℕ) → b < 64 → has 18446744073709551615 b ≡ true
unfolding all_in
has_all b lt = below_all 64 b refl lt

-- the bits of a quotient are the bits further up
pub has_shr : (s from b : ℕ) → has (s / 2 ^ from) b ≡ has s (from + b)
has_shr s from b = ap (λ q. eqb (q % 2) 1) (shr-shr s from b)

halved : (x c : ℕ) → has (x / 2) c ≡ has x (suc c)
halved x c = has_shr x 1 c ∙ ap (has x) (one-add c)

lowest : (x : ℕ) → has x 0 ≡ eqb (x % 2) 1
lowest x = ap (λ q. eqb (q % 2) 1) (div-one x)

-- a digit of `and` is the lesser of the two digits
and_digit : (a b : ℕ) → bit_and a b % 2 ≡ min (a % 2) (b % 2)
and_digit a b = let s = and_step a b in omega arith

two : (x y : ℕ) → x < 2 → y < 2 → eqb (min x y) 1 ≡ (eqb x 1 && eqb y 1)
two zero zero p q = refl
two zero (suc zero) p q = refl
two zero (suc (suc y)) p q = absurd (omega arith)
two (suc zero) zero p q = refl
two (suc zero) (suc zero) p q = refl
two (suc zero) (suc (suc y)) p q = absurd (omega arith)
two (suc (suc x)) y p q = absurd (omega arith)

has_and : (s t b : ℕ) → has (bit_and s t) b ≡ (has s b && has t b)
has_and s t b =
    let d : bit_and s t / 2 ^ b % 2 ≡ min (s / 2 ^ b % 2) (t / 2 ^ b % 2) = ap (λ x. x % 2) (and_shr s t b) ∙ and_digit (s / 2 ^ b) (t / 2 ^ b) in
    ap (λ x. eqb x 1) d ∙ two _ _ (omega arith) (omega arith)

-- the boards that are not in a set
flipped : (u v : ℕ) → u + v ≡ 1 → eqb u 1 ≡ not (eqb v 1)
flipped u zero e = eq-eqb u 1 (omega arith)
flipped u (suc zero) e = ne_eqb u 1 (λ one. omega arith)
flipped u (suc (suc v)) e = absurd (omega arith)

rest_of : (k d b : ℕ) → d < 2 ^ k → b < k → has (2 ^ k - 1 - d) b ≡ not (has d b)
rest_of zero d b small lt = absurd (omega arith)
rest_of (suc k) d zero small lt =
    let twice : 2 ^ suc k ≡ 2 * 2 ^ k = pow-succ' 2 k in
    lowest (2 ^ suc k - 1 - d) ∙ flipped ((2 ^ suc k - 1 - d) % 2) (d % 2) (omega arith) ∙ ap not (sym (lowest d))
rest_of (suc k) d (suc b) small lt =
    let twice : 2 ^ suc k ≡ 2 * 2 ^ k = pow-succ' 2 k in
    let half : (2 ^ suc k - 1 - d) / 2 ≡ 2 ^ k - 1 - d / 2 = omega arith in
    sym (halved (2 ^ suc k - 1 - d) b) ∙ ap (λ x. has x b) half ∙ rest_of k (d / 2) b (omega arith) (omega arith) ∙ ap not (halved d b)

pub has_without : (s d b : ℕ) → s < 2 ^ 64 → d < 2 ^ 64 → has (bit_and s (2 ^ 64 - 1 - d)) b ≡ (has s b && not (has d b))
has_without s d b whole small =
    by_cases (dec_lt b 64)
    (λ lt. has_and s (2 ^ 64 - 1 - d) b ∙ ap (λ x. has s b && x) (rest_of 64 d b small lt))
    (λ far. let none = none_past s b whole (omega arith) in has_and s (2 ^ 64 - 1 - d) b ∙ ap (λ x. x && has (2 ^ 64 - 1 - d) b) none ∙ sym (ap (λ x. x && not (has d b)) none))

-- the trailing zeros of a number lead to its lowest bit
pub record Lowest (x t : ℕ) : Type 0 where
  pub there : has x t ≡ true
  pub least : (c : ℕ) → c < t → has x c ≡ false

trail : (x d t : ℕ) → x % 2 ≡ d → d < 2 → (d ≡ 0 → Lowest (x / 2) t) → Lowest x (above d t)
trail x zero t e small rest =
    let r = rest refl in
    record {
      there = sym (halved x t) ∙ r.there;
      least = λ c lt. first c lt;
    }
  where
    first : (c : ℕ) → c < suc t → has x c ≡ false
    first zero lt = lowest x ∙ ap (λ q. eqb q 1) e
    first (suc c) lt = sym (halved x c) ∙ (rest refl).least c (omega arith)
trail x (suc zero) t e small rest = record { there = lowest x ∙ ap (λ q. eqb q 1) e; least = λ c lt. absurd (omega arith) }
trail x (suc (suc d)) t e small rest = absurd (omega arith)

pub trailing : (k x : ℕ) → x < 2 ^ k → (x ≡ 0 → ⊥) → Lowest x (count_trailing_zeros k x)
unfolding count_trailing_zeros
trailing zero x small ne = absurd (ne (omega (arith, pow-zero 2)))
trailing (suc k) x small ne = trail x (x % 2) (count_trailing_zeros k (x / 2)) refl (omega arith) (λ e. trailing k (x / 2) (omega (arith, pow-succ' 2 k)) (λ z. ne (omega arith)))

-- a board of a set has its bit in a u64
pub in_sixty_four : (s b : ℕ) → s < 2 ^ 64 → has s b ≡ true → b < 64
in_sixty_four s b small in-s = by_cases (dec_lt b 64) (λ lt. lt) (λ ge. absurd (both_ways (has s b) (none_past s b small (omega arith)) in-s))

pub least_from : (s from : ℕ) → s / 2 ^ from < 2 ^ 64 → (s / 2 ^ from ≡ 0 → ⊥) → LeastFrom s from (from + count_trailing_zeros 64 (s / 2 ^ from))
least_from s from small ne =
    let t = trailing 64 (s / 2 ^ from) small ne in
    record {
      there = sym (has_shr s from _) ∙ t.there;
      onward = omega arith;
      least = λ c on lt. ap (has s) (let e : c ≡ from + (c - from) = omega arith in e) ∙ sym (has_shr s from (c - from)) ∙ t.least (c - from) (omega arith);
    }

pub none_from : (s from : ℕ) → s / 2 ^ from ≡ 0 → (b : ℕ) → from ≤ b → has s b ≡ false
none_from s from e b on = ap (has s) (let e : b ≡ from + (b - from) = omega arith in e) ∙ sym (has_shr s from (b - from)) ∙ ap (λ x. has x (b - from)) e ∙ has_zero (b - from)

-- a set that is not empty has a board
pub some_board : (s : ℕ) → s < 2 ^ 64 → (s ≡ 0 → ⊥) → (b : ℕ) × (has s b ≡ true)
some_board s small ne = (count_trailing_zeros 64 s, (trailing 64 s small ne).there)

-- sets with the same members are the same
half_below : (a k : ℕ) → a < 2 ^ suc k → a / 2 < 2 ^ k
half_below a k h = shr_below a k 1 (subst (λ j. a < 2 ^ j) (sym (add-one k)) h)

same_digit : (x y : ℕ) → x < 2 → y < 2 → eqb x 1 ≡ eqb y 1 → x ≡ y
same_digit x y lx ly e =
    ⊎_elim
    (λ one. one ∙ sym (eqb-true y 1 (sym e ∙ eq-eqb x 1 one)))
    (λ other. let no = eqb-false y 1 (sym e ∙ ne_eqb x 1 other) in omega arith)
    (cases_eq x 1)

pub same_members : (k a b : ℕ) → a < 2 ^ k → b < 2 ^ k → ((i : ℕ) → i < k → has a i ≡ has b i) → a ≡ b
same_members zero a b la lb h = omega arith
same_members (suc k) a b la lb h =
    let low = same_digit (a / 1 % 2) (b / 1 % 2) (omega arith) (omega arith) (h 0 (omega arith)) in
    let high = same_members k (a / 2) (b / 2) (half_below a k la) (half_below b k lb) (λ i lt. halved a i ∙ h (suc i) (omega arith) ∙ sym (halved b i)) in
    omega arith

-- sets that are not the same differ at a board
pub differs : (k a b : ℕ) → a < 2 ^ k → b < 2 ^ k → (a ≡ b → ⊥) → (i : ℕ) × (has a i ≡ has b i → ⊥)
differs zero a b la lb ne = absurd (ne (omega arith))
differs (suc k) a b la lb ne =
    by_cases (ℕ_discrete (a % 2) (b % 2))
    (λ low. let d = differs k (a / 2) (b / 2) (half_below a k la) (half_below b k lb) (λ high. ne (omega arith)) in (suc d.0, λ e. d.1 (halved a d.0 ∙ e ∙ sym (halved b d.0))))
    (λ low. (0, λ e. low (same_digit (a % 2) (b % 2) (omega arith) (omega arith) (sym (lowest a) ∙ e ∙ lowest b))))

pub same_test : (x y : Bool) → (x ≡ true → y ≡ true) → (y ≡ true → x ≡ true) → x ≡ y
same_test true y to from = sym (to refl)
same_test false true to from = from refl
same_test false false to from = refl
