-- Sums and counts over the boards below n.
use Rattle.std.proofs.Common.{◌≡◌, ℕ, zero, suc, ◌+◌, ◌<◌, ◌≤◌, Bool, true, false, cond, ◌⊎◌, refl, ap, inl, inr, ⊎_elim, arith}
use native.Mathlib.Decide.{dec_lt}
use borrow.Author.Tests.{both_ways}
use Rattle.network.specs.Toil.{total}
use Rattle.sets.specs.Counts.{Count, nobody, one_such, not_such}

-- what holds below n + 1 holds below n
pub fewer : {P : ℕ → Type 0} (n : ℕ) → ((u : ℕ) → u < suc n → P u) → (u : ℕ) → u < n → P u
fewer n h u l = h u (omega arith)

-- what holds below n and at n
pub one_more_board : (P : ℕ → Type 0) (n : ℕ) → ((u : ℕ) → u < n → P u) → P n → (u : ℕ) → u < suc n → P u
one_more_board P n h e u l = go (dec_lt u n)
  where
    go : Dec (u < n) → P u
    go (yes m) = h u m
    go (no m) = let i : n ≡ u = omega arith in rw i at e

-- a sum over lesser parts is not greater
pub total_most : (f g : ℕ → ℕ) (n : ℕ) → ((u : ℕ) → u < n → f u ≤ g u) → total f n ≤ total g n
unfolding total
total_most f g zero h = omega arith
total_most f g (suc n) h = omega (arith, total_most f g n (fewer n h), h n (omega arith))

-- it is less if one part is
pub total_less : (f g : ℕ → ℕ) (n : ℕ) → ((u : ℕ) → u < n → f u ≤ g u) → (b : ℕ) → b < n → f b < g b → total f n < total g n
unfolding total
total_less f g zero h b l m = absurd (omega arith)
total_less f g (suc n) h b l m = go (dec_lt b n) (λ i. total_less f g n (fewer n h) b i m)
  where
    last : f n ≤ g n
    last = h n (omega arith)

    go : Dec (b < n) → (b < n → total f n < total g n) → total f n + f n < total g n + g n
    go (yes i) less = omega (arith, less i)
    go (no i) less =
        let e : b ≡ n = omega arith in
        let j : f n < g n = rw e at m in
        omega (arith, total_most f g n (fewer n h))

-- it is less, or every part is the same
pub total_either : (f g : ℕ → ℕ) (n : ℕ) → ((u : ℕ) → u < n → f u ≤ g u) → (total f n < total g n) ⊎ ((u : ℕ) → u < n → f u ≡ g u)
unfolding total
total_either f g zero h = inr (λ u l. absurd (omega arith))
total_either f g (suc n) h = go (dec_lt (f n) (g n)) (total_either f g n (fewer n h))
  where
    last : f n ≤ g n
    last = h n (omega arith)

    go : Dec (f n < g n) → (total f n < total g n) ⊎ ((u : ℕ) → u < n → f u ≡ g u) → (total f n + f n < total g n + g n) ⊎ ((u : ℕ) → u < suc n → f u ≡ g u)
    go (yes m) e = inl (omega (arith, total_most f g n (fewer n h)))
    go (no m) (inl e) = inl (omega arith)
    go (no m) (inr e) = inr (one_more_board (λ u. f u ≡ g u) n e (omega arith))

-- a sum of ones
pub total_ones : (n : ℕ) → total (λ u. 1) n ≡ n
unfolding total
total_ones zero = refl
total_ones (suc n) = omega (arith, total_ones n)

-- bits: one that is not greater, and one that stays 1
pub bit_most : (s t : Bool) → (s ≡ true → t ≡ true) → cond {A = ℕ} s 1 0 ≤ cond t 1 0
bit_most true t h = rw (h refl) (omega arith)
bit_most false t h = omega arith

pub bit_stays : (s t : Bool) → cond {A = ℕ} s 1 0 ≡ cond t 1 0 → t ≡ true → s ≡ true
bit_stays true t h e = refl
bit_stays false true h e = absurd (omega arith)
bit_stays false false h e = absurd (both_ways false refl e)

-- what is decided can be counted, and there is one count
pub counted : (P : ℕ → Type 0) (n : ℕ) → ((u : ℕ) → Dec (P u)) → (c : ℕ) × Count P n c
counted P zero d = (0, nobody)
counted P (suc n) d = go (d n) (counted P n d)
  where
    go : Dec (P n) → (c : ℕ) × Count P n c → (c : ℕ) × Count P (suc n) c
    go (yes h) s = (suc s.0, one_such s.1 h)
    go (no h) s = (s.0, not_such s.1 h)

pub one_count : {P : ℕ → Type 0} {n c d : ℕ} → Count P n c → Count P n d → c ≡ d
one_count nobody nobody = refl
one_count (one_such x p) (one_such y q) = ap suc (one_count x y)
one_count (one_such x p) (not_such y q) = absurd (q p)
one_count (not_such x p) (one_such y q) = absurd (p q)
one_count (not_such x p) (not_such y q) = one_count x y

-- fewer such boards: their count is less, or it is the same and they are the same
pub count_either : {P Q : ℕ → Type 0} {n c d : ℕ} → ((u : ℕ) → Q u → P u) → Count P n c → Count Q n d → (d < c) ⊎ ((d ≡ c) × ((u : ℕ) → u < n → P u → Q u))
count_either h nobody nobody = inr (refl, λ u l. absurd (omega arith))
count_either {P} {Q} h (one_such {n = n} {c = c} x p) (one_such {c = d} y q) = ⊎_elim
    (λ (l : d < c). inl (omega arith))
    (λ (e : (d ≡ c) × ((u : ℕ) → u < n → P u → Q u)). inr (ap suc e.0, one_more_board (λ u. P u → Q u) n e.1 (λ p. q)))
    (count_either h x y)
count_either {P} {Q} h (one_such {n = n} {c = c} x p) (not_such {c = d} y q) = ⊎_elim
    (λ (l : d < c). inl (omega arith))
    (λ (e : (d ≡ c) × ((u : ℕ) → u < n → P u → Q u)). inl (omega arith))
    (count_either h x y)
count_either h (not_such x p) (one_such y q) = absurd (p (h _ q))
count_either {P} {Q} h (not_such {n = n} {c = c} x p) (not_such {c = d} y q) = ⊎_elim
    (λ (l : d < c). inl l)
    (λ (e : (d ≡ c) × ((u : ℕ) → u < n → P u → Q u)). inr (e.0, one_more_board (λ u. P u → Q u) n e.1 (λ z. absurd (p z))))
    (count_either h x y)
