-- A set of boards as a number: board b is in it where bit b is 1.
use Rattle.std.specs.Prelude.{◌≡◌, ℕ, ◌/◌, ◌%◌, ◌^◌, ◌<◌, ◌≤◌, Bool, true, false, ◌==◌}

abbrev pub has : ℕ → ℕ → Bool
has s b = s / 2 ^ b % 2 == 1

-- b is the least board of s from `from` on
pub record LeastFrom (s from b : ℕ) : Type 0 where
  pub there : has s b ≡ true
  pub onward : from ≤ b
  pub least : (c : ℕ) → from ≤ c → c < b → has s c ≡ false
