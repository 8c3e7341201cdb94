-- What holds of every board of a set once it was gone through, board by board, in ascending order.
use Rattle.std.proofs.Common.{◌≡◌, ℕ, ◌+◌, ◌<◌, ◌≤◌, true, false, sym, subst, arith}
use mathlib.Core.Logic.{by_cases}
use native.Mathlib.Decide.{ℕ_discrete, dec_lt}
use borrow.Author.Tests.{both_ways}
use Rattle.sets.specs.Sets.{has, LeastFrom}

module _ (P : ℕ → Type 0) (s from : ℕ) (below : (b : ℕ) → b < from → has s b ≡ true → P b) where
  -- one board more: the next one of the set
  pub one_further : (m : ℕ) → LeastFrom s from m → P m → (b : ℕ) → b < m + 1 → has s b ≡ true → P b
  one_further m l here b lt in-s =
      by_cases (ℕ_discrete b m)
      (λ same. subst P (sym same) here)
      (λ ne. by_cases (dec_lt b from) (λ before. below b before in-s) (λ on. absurd (both_ways (has s b) (l.least b (omega arith) (omega arith)) in-s)))

  -- no board is left
  pub all_passed : ((b : ℕ) → from ≤ b → has s b ≡ false) → (b : ℕ) → has s b ≡ true → P b
  all_passed none b in-s = by_cases (dec_lt b from) (λ before. below b before in-s) (λ on. absurd (both_ways (has s b) (none b (omega arith)) in-s))
