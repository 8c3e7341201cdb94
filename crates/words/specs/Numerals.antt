-- Decimal numerals.
use Rattle.std.specs.Prelude.{◌≡◌, ℕ, ◌+◌, ◌-◌, ◌*◌, ◌^◌, ◌<◌, ◌≤◌, List, length, fold}
use Rattle.std.specs.List.{AllByRecursion}

-- a decimal digit
abbrev pub Digit : ℕ → Type 0
Digit b = (48 ≤ b) × (b ≤ 57)

-- the number that digits write, the first the most significant
abbrev pub value : List ℕ → ℕ
value bytes = fold (λ n b. n * 10 + (b - 48)) 0 bytes

-- the bytes are one to ten digits, and write n, which is below 2 ^ 32
pub record Numeral (bytes : List ℕ) (n : ℕ) : Type 0 where
  pub some : 0 < length bytes
  pub few : length bytes ≤ 10
  pub digits : AllByRecursion Digit bytes
  pub writes : value bytes ≡ n
  pub small : n < 2 ^ 32
