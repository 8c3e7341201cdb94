-- Components: the boards that a board reaches, layer by layer. After n - 1 cables there is nothing more to reach.
use Rattle.std.proofs.Common.{◌≡◌, ℕ, zero, suc, ◌<◌, ◌≤◌, Bool, true, false, cond, ◌||◌, eqb, ◌⊎◌, Some, None, Option, refl, inl, inr, ⊎_elim, arith, eq-eqb, eqb-true}
use native.Mathlib.Decide.{dec_lt}
use borrow.Author.Tests.{both_ways}
use Rattle.network.specs.Cables.{Cabled, end_at}
use Rattle.network.specs.Toil.{total, at_end}
use Rattle.network.specs.Ways.{Joined, here, along}
use Rattle.network.specs.declared.End.{End}
use Rattle.network.proofs.Counts.{bit_most, bit_stays, total_ones, total_less, total_either}
use Rattle.network.proofs.Views.{tell, either}

-- whether one of the numbers below n passes the test
some_below : (ℕ → Bool) → ℕ → Bool
some_below test zero = false
some_below test (suc n) = test n || some_below test n

or_left : (s t : Bool) → s ≡ true → (s || t) ≡ true
or_left true t e = refl
or_left false t e = absurd (both_ways false refl e)

or_right : (s t : Bool) → t ≡ true → (s || t) ≡ true
or_right true t e = refl
or_right false t e = e

which : (test : ℕ → Bool) (n : ℕ) → some_below test n ≡ true → (p : ℕ) × (test p ≡ true)
unfolding some_below
which test zero e = absurd (both_ways false refl e)
which test (suc n) e = ⊎_elim (λ h. (n, h)) (λ h. which test n h) (either (test n) _ e)

this : (test : ℕ → Bool) (n p : ℕ) → p < n → test p ≡ true → some_below test n ≡ true
unfolding some_below
this test zero p l e = absurd (omega arith)
this test (suc n) p l e = go (dec_lt p n) (λ m. this test n p m e)
  where
    go : Dec (p < n) → (p < n → some_below test n ≡ true) → (test n || some_below test n) ≡ true
    go (yes m) h = or_right (test n) _ (h m)
    go (no m) h = let i : p ≡ n = omega arith in or_left (test n) _ (rw i at e)

-- the boards that at most j cables lead to from board a
layer : (ℕ → ℕ → Option End) → ℕ → ℕ → ℕ → Bool
layer far a zero u = eqb u a
layer far a (suc j) u = layer far a j u || some_below (λ p. at_end (layer far a j) (far u p)) 8

-- how many of the boards below n they are
size : (ℕ → ℕ → Option End) → ℕ → ℕ → ℕ → ℕ
size far a n j = total (λ u. cond (layer far a j u) 1 0) n

-- a walk along at most j cables
pub data Walk (far : ℕ → ℕ → Option End) (a : ℕ) : ℕ → ℕ → Type 0 where
  none : {j : ℕ} → Walk far a j a
  more : {j b : ℕ} → Walk far a j b → (p : ℕ) (e : End) → far b p ≡ Some e → Walk far a (suc j) e.board

longer_walk : {far : ℕ → ℕ → Option End} {a j b : ℕ} → Walk far a j b → Walk far a (suc j) b
longer_walk none = none
longer_walk (more w p e f) = more (longer_walk w) p e f

pub walk_joined : {far : ℕ → ℕ → Option End} {a j b : ℕ} → Walk far a j b → Joined far a b
walk_joined none = here
walk_joined (more w p e f) = along (walk_joined w) p e f

module _ {n : ℕ} {far : ℕ → ℕ → Option End} (cabled : Cabled n far) (a : ℕ) (start : a < n) where
  -- cables lead both ways
  turned : (u p : ℕ) (e : End) → far u p ≡ Some e → {j : ℕ} → Walk far a j e.board → Walk far a (suc j) u
  turned u p e f w = more w e.port (end_at u p e.weight) (cabled.back u p e f)

  walked : (j u : ℕ) → layer far a j u ≡ true → Walk far a j u
  unfolding layer
  walked zero u h = let e = eqb-true u a h in rw e none
  walked (suc j) u h = ⊎_elim (λ i. longer_walk (walked j u i)) (λ i. step (which _ 8 i) (λ v. walked j v)) (either (layer far a j u) _ h)
    where
      step : (p : ℕ) × (at_end (layer far a j) (far u p) ≡ true) → ((v : ℕ) → layer far a j v ≡ true → Walk far a j v) → Walk far a (suc j) u
      step s ih = go (far u s.0) refl s.1
        where
          go : (o : Option End) → far u s.0 ≡ o → at_end (layer far a j) o ≡ true → Walk far a (suc j) u
          go None f h = absurd (both_ways false refl h)
          go (Some e) f h = turned u s.0 e f (ih e.board h)

  pub joined_below : {b : ℕ} → Joined far a b → b < n
  joined_below here = start
  joined_below (along w p e f) = (cabled.there _ p e f).0

  more_layers : (j u : ℕ) → layer far a j u ≡ true → layer far a (suc j) u ≡ true
  unfolding layer
  more_layers j u h = or_left _ _ h

  reaches : (j b p : ℕ) (e : End) → far b p ≡ Some e → layer far a j b ≡ true → layer far a (suc j) e.board ≡ true
  unfolding layer
  reaches j b p e f h =
      or_right (layer far a j e.board) _ (this (λ q. at_end (layer far a j) (far e.board q)) 8 e.port (cabled.there b p e f).1 (rw (cabled.back b p e f) h))

  at_start : (j : ℕ) → layer far a j a ≡ true
  unfolding layer
  at_start zero = eq-eqb a a refl
  at_start (suc j) = or_left _ _ (at_start j)

  -- a layer that the next does not exceed holds the whole component
  closed_full : (j : ℕ) → ((u : ℕ) → u < n → layer far a (suc j) u ≡ true → layer far a j u ≡ true) → {b : ℕ} → Joined far a b → layer far a j b ≡ true
  closed_full j h here = at_start j
  closed_full j h (along {b = b} w p e f) = h e.board (cabled.there b p e f).0 (reaches j b p e f (closed_full j h w))

  abbrev Full : ℕ → Type 0
  Full j = (b : ℕ) → Joined far a b → layer far a j b ≡ true

  -- each layer has a board more than the one before, until one is full
  grows : (j : ℕ) → (j < size far a n j) ⊎ Full j
  unfolding size
  grows zero = inl (omega (arith, total_less (λ u. 0) (λ u. cond (layer far a 0 u) 1 0) n (λ u i. omega arith) a start (rw (at_start 0) (omega arith))))
  grows (suc j) = go (grows j) (total_either _ _ n (λ u i. bit_most _ _ (more_layers j u)))
    where
      go : (j < size far a n j) ⊎ Full j → (size far a n j < size far a n (suc j)) ⊎ ((u : ℕ) → u < n → cond {A = ℕ} (layer far a j u) 1 0 ≡ cond (layer far a (suc j) u) 1 0) → (suc j < size far a n (suc j)) ⊎ Full (suc j)
      go (inr f) t = inr (λ b w. more_layers j b (f b w))
      go (inl l) (inl m) = inl (omega arith)
      go (inl l) (inr same) = inr (λ b w. more_layers j b (closed_full j (λ u i. bit_stays _ _ (same u i)) w))

  -- n boards are all there are
  full : (j : ℕ) → n ≤ suc j → Full j
  unfolding size
  full j l = go (grows j) (total_either _ _ n (λ u i. bit_most (layer far a j u) true (λ e. refl)))
    where
      go : (j < size far a n j) ⊎ Full j → (size far a n j < total (λ u. 1) n) ⊎ ((u : ℕ) → u < n → cond {A = ℕ} (layer far a j u) 1 0 ≡ 1) → Full j
      go (inr f) t = f
      go (inl m) (inl i) = absurd (omega (arith, total_ones n))
      go (inl m) (inr same) = λ b w. bit_stays _ true (same b (joined_below w)) refl

  -- what is joined at all is joined by fewer than n cables
  pub short_walk : (j : ℕ) → n ≤ suc j → (b : ℕ) → Joined far a b → Walk far a j b
  short_walk j l b w = walked j b (full j l b w)

-- whether two boards are joined is decided
pub joined_dec : {n : ℕ} {far : ℕ → ℕ → Option End} → Cabled n far → (a b : ℕ) → a < n → Dec (Joined far a b)
joined_dec {n} {far} cabled a b start = ⊎_elim
    (λ (e : layer far a n b ≡ true). yes (walk_joined (walked cabled a start n b e)))
    (λ (e : layer far a n b ≡ false). no (λ w. both_ways _ e (full cabled a start n (omega arith) b w)))
    (tell (layer far a n b))
