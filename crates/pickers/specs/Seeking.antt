-- What the search for the next board finds.
use Rattle.std.specs.Prelude.{◌≡◌, ℕ, zero, suc, ◌+◌, ◌^◌, ◌<◌, ◌≤◌, min, Bool, true, false, Some, None, Option, MatchOption, refl}
use Rattle.std.proofs.Common.{sym, ap, subst, ◌∙◌, arith, pow_pos}
use Rattle.std.proofs.Math.Logic.{by_cases}
use Rattle.std.proofs.Math.Decide.{ℕ_discrete}
use Rattle.std.proofs.Math.Pow.{pow-lt}
use Rattle.std.proofs.lemmas.Bool.{both_ways}
use Rattle.sets.specs.Sets.{has, LeastFrom}
use Rattle.sets.proofs.Bits.{has_zero, other_bit, in_sixty_four, some_board}
use Rattle.pickers.specs.Choices.{Chooses, or_else, if_there, least_of, following, choose_one, pick_ring}
use Rattle.pickers.specs.declared.ring.Ring.{Ring}

pub seeks : (n s from b : ℕ) → LeastFrom s from b → b < from + n → least_of n s from ≡ Some b
seeks zero s from b l lt = let on = l.onward in absurd (omega arith)
seeks (suc n) s from b l lt = go (has s from) refl (λ m far. seeks n s (suc from) b m far)
  where
    go : (t : Bool) → has s from ≡ t → (LeastFrom s (suc from) b → b < suc from + n → least_of n s (suc from) ≡ Some b) → or_else (if_there t from) (least_of n s (suc from)) ≡ Some b
    go true e later = ap Some (by_cases (ℕ_discrete from b) (λ same. same) (λ ne. let on = l.onward in absurd (both_ways (has s from) (l.least from (omega arith) (omega arith)) e)))
    go false e later =
        let ne : from ≡ b → ⊥ = λ same. both_ways (has s from) e (ap (has s) same ∙ l.there) in
        let on = l.onward in
        later (record { there = l.there; onward = omega arith; least = λ c on lt. l.least c (omega arith) lt }) (omega arith)

pub seeks_none : (n s from : ℕ) → ((b : ℕ) → from ≤ b → has s b ≡ false) → least_of n s from ≡ None
seeks_none zero s from none = refl
seeks_none (suc n) s from none = ap (λ t. or_else (if_there t from) (least_of n s (suc from))) (none from (omega arith)) ∙ seeks_none n s (suc from) (λ b on. none b (omega arith))

-- what was found is there, and nothing found is nothing there
there : (n s from b : ℕ) → least_of n s from ≡ Some b → has s b ≡ true
there zero s from b e = let z : ◌≡◌ {A = ℕ} 0 1 = cc in absurd (omega arith)
there (suc n) s from b e = go (has s from) refl e (there n s (suc from) b)
  where
    go : (t : Bool) → has s from ≡ t → or_else (if_there t from) (least_of n s (suc from)) ≡ Some b → (least_of n s (suc from) ≡ Some b → has s b ≡ true) → has s b ≡ true
    go true h f later = let same : from ≡ b = cc in ap (has s) (sym same) ∙ h
    go false h f later = later f

nowhere : (n s from : ℕ) → least_of n s from ≡ None → (b : ℕ) → from ≤ b → b < from + n → has s b ≡ false
nowhere zero s from e b on lt = absurd (omega arith)
nowhere (suc n) s from e b on lt = go (has s from) refl e (λ f. nowhere n s (suc from) f b)
  where
    go : (t : Bool) → has s from ≡ t → or_else (if_there t from) (least_of n s (suc from)) ≡ None → (least_of n s (suc from) ≡ None → suc from ≤ b → b < suc from + n → has s b ≡ false) → has s b ≡ false
    go true h f later = let z : ◌≡◌ {A = ℕ} 0 1 = cc in absurd (omega arith)
    go false h f later = by_cases (ℕ_discrete b from) (λ same. ap (has s) same ∙ h) (λ ne. later f (omega arith) (omega arith))

found : (s : ℕ) (x y : Option ℕ) (b : ℕ) → ((c : ℕ) → x ≡ Some c → has s c ≡ true) → ((c : ℕ) → y ≡ Some c → has s c ≡ true) → or_else x y ≡ Some b → has s b ≡ true
found s (Some c) y b p q e = p b e
found s None y b p q e = q b e

empty : (x y : Option ℕ) → or_else x y ≡ None → y ≡ None
empty (Some c) y e = let z : ◌≡◌ {A = ℕ} 0 1 = cc in absurd (omega arith)
empty None y e = e

pub follows : (s last b : ℕ) → following s last ≡ Some b → has s b ≡ true
follows s last b e = found s (least_of 64 s (last + 1)) (least_of 64 s 0) b (λ c. there 64 s (last + 1) c) (λ c. there 64 s 0 c) e

-- one board of the set is a choice of it
pub one_board : (s b : ℕ) → s < 2 ^ 64 → has s b ≡ true → Chooses (2 ^ b) s
one_board s b small in-s = record {
  small = pow-lt (in_sixty_four s b small in-s);
  within = λ c in_b. by_cases (ℕ_discrete c b) (λ same. ap (has s) same ∙ in-s) (λ ne. absurd (both_ways (has (2 ^ b) c) (other_bit b c ne) in_b));
  some = λ e. let pos = pow_pos b in absurd (omega arith);
}

pub ring_chooses : (p : Ring) (s : ℕ) → s < 2 ^ 64 → Chooses (pick_ring p s).0 s
ring_chooses p s small = go (following s p.last) refl
  where
    go : (o : Option ℕ) → following s p.last ≡ o → Chooses (choose_one p o).0 s
    go (Some b) e = one_board s b small (follows s p.last b e)
    go None e = record {
      small = pow_pos 64;
      within = λ c in-0. absurd (both_ways (has 0 c) (has_zero c) in-0);
      some = λ _. by_cases (ℕ_discrete s 0) (λ z. z) (λ ne. let b = some_board s small ne in absurd (both_ways (has s b.0) (nowhere 64 s 0 (empty _ _ e) b.0 (omega arith) (omega (arith, in_sixty_four s b.0 small b.1))) b.1));
    }

-- the search above the last board, which a u32 may cut short, and the search from the start
pub above : (s last from b : ℕ) → s < 2 ^ 64 → from ≡ min (last + 1) 4294967295 → LeastFrom s from b → following s last ≡ Some b
above s last from b small e l =
    let lt = in_sixty_four s b small l.there in
    let on = l.onward in
    let same : from ≡ last + 1 = omega arith in
    ap (λ x. or_else x (least_of 64 s 0)) (seeks 64 s (last + 1) b (subst (λ x. LeastFrom s x b) same l) (omega arith))

pub over_again : (s last from : ℕ) (r : Option ℕ) → s < 2 ^ 64 → from ≡ min (last + 1) 4294967295 → ((b : ℕ) → from ≤ b → has s b ≡ false) → MatchOption r ((b : ℕ) → 0 ≤ b → has s b ≡ false) (LeastFrom s 0) → r ≡ following s last
over_again s last from None small e none c = sym (ap (λ x. or_else x (least_of 64 s 0)) (seeks_none 64 s (last + 1) (λ b on. none b (omega arith))) ∙ seeks_none 64 s 0 c)
over_again s last from (Some b) small e none c = sym (ap (λ x. or_else x (least_of 64 s 0)) (seeks_none 64 s (last + 1) (λ b on. none b (omega arith))) ∙ seeks 64 s 0 b c (omega (arith, in_sixty_four s b small c.there)))
