-- How many of the first numbers are such.
use Rattle.std.specs.Prelude.{ℕ, suc}

-- c of the numbers below n are such that P
pub data Count (P : ℕ → Type 0) : ℕ → ℕ → Type 0 where
  nobody : Count P 0 0
  one_such : {n c : ℕ} → Count P n c → P n → Count P (suc n) (suc c)
  not_such : {n c : ℕ} → Count P n c → (P n → ⊥) → Count P (suc n) c
