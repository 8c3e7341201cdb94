-- The law of cables, out of the struct that keeps it.
use Rattle.std.proofs.Common.{◌≡◌, ℕ, zero, suc, ◌<◌, ◌≤◌, [], length, get_or, replicate, Some, None, Option, refl, ap, arith}
use mathlib.Core.HLevel.{Π_prop, ×_prop, hedberg, ⊥_prop}
use mathlib.Core.Logic.{∥∥₁_elim}
use native.Mathlib.Bridge.{le_prop}
use native.Mathlib.Decide.{ℕ_discrete}
use lib.ListN.{get_or-replicate}
use Rattle.network.specs.Cables.{Cabled}
use Rattle.network.specs.declared.End.{End}
use Rattle.hall.specs.Tables.{far_of, Rows}

end_discrete : (x y : End) → Dec (x ≡ y)
end_discrete x y = go (ℕ_discrete x.board y.board) (ℕ_discrete x.port y.port) (ℕ_discrete x.weight y.weight)
  where
    go : Dec (x.board ≡ y.board) → Dec (x.port ≡ y.port) → Dec (x.weight ≡ y.weight) → Dec (x ≡ y)
    go (yes p) (yes q) (yes r) = yes (λ i. record { board = p i; port = q i; weight = r i })
    go (yes p) (yes q) (no r) = no (λ e. r (ap (λ (z : End). z.weight) e))
    go (yes p) (no q) r = no (λ e. q (ap (λ (z : End). z.port) e))
    go (no p) q r = no (λ e. p (ap (λ (z : End). z.board) e))

far_discrete : (x y : Option End) → Dec (x ≡ y)
far_discrete None None = yes refl
far_discrete None (Some y) = no (λ e. let z : ◌≡◌ {A = ℕ} 0 1 = cc in absurd (omega arith))
far_discrete (Some x) None = no (λ e. let z : ◌≡◌ {A = ℕ} 0 1 = cc in absurd (omega arith))
far_discrete (Some x) (Some y) = go (end_discrete x y)
  where
    go : Dec (x ≡ y) → Dec (Some x ≡ Some y)
    go (yes e) = yes (ap Some e)
    go (no n) = no (λ e. n (cc))

cabled_prop : (n : ℕ) (far : ℕ → ℕ → Option End) → IsProp (Cabled n far)
cabled_prop n far x y = λ i. record {
  near = Π_prop (λ b. Π_prop (λ p. Π_prop (λ e. Π_prop (λ h. ×_prop le_prop le_prop)))) x.near y.near i;
  there = Π_prop (λ b. Π_prop (λ p. Π_prop (λ e. Π_prop (λ h. ×_prop le_prop le_prop)))) x.there y.there i;
  back = Π_prop (λ b. Π_prop (λ p. Π_prop (λ e. Π_prop (λ h. hedberg far_discrete _ _)))) x.back y.back i;
  apart = Π_prop (λ b. Π_prop (λ p. Π_prop (λ e. Π_prop (λ h. Π_prop (λ s. ⊥_prop))))) x.apart y.apart i;
}

pub cabled : {n : ℕ} {far : ℕ → ℕ → Option End} → ∥ Cabled n far ∥₁ → Cabled n far
cabled {n} {far} w = ∥∥₁_elim w (cabled_prop n far) (λ c. c)

-- ports without cables
pub empty_rows : Rows (replicate 64 (replicate 8 None))
empty_rows b h = ap length (get_or-replicate 64 b (replicate 8 None) [] h)

-- the default of a read is what stands everywhere
pub all_same : {X : Type 0} (x : X) (n i : ℕ) → get_or (replicate n x) i x ≡ x
all_same x zero i = refl
all_same x (suc n) zero = refl
all_same x (suc n) (suc i) = all_same x n i

-- each row of a table is free, and past its end there is none
free_rows : (n : ℕ) (b p : ℕ) → far_of (replicate n (replicate 8 None)) b p ≡ None
free_rows zero b p = refl
free_rows (suc n) zero p = all_same None 8 p
free_rows (suc n) (suc b) p = free_rows n b p

pub empty_free : (b p : ℕ) → far_of (replicate 64 (replicate 8 None)) b p ≡ None
empty_free = free_rows 64

-- both ends of a cable are in the table, at different boards
pub record InTable (a p : ℕ) (e : End) : Type 0 where
  pub board : a < 64
  pub port : p < 8
  pub far_board : e.board < 64
  pub far_port : e.port < 8
  pub apart : e.board ≡ a → ⊥

pub in_table : {n : ℕ} {far : ℕ → ℕ → Option End} → ∥ Cabled n far ∥₁ → n ≤ 64 → (a p : ℕ) (e : End) → far a p ≡ Some e → InTable a p e
in_table w few a p e h =
    let c = cabled w in
    let near = c.near a p e h in
    let there = c.there a p e h in
    record { board = omega arith; port = near.1; far_board = omega arith; far_port = there.1; apart = c.apart a p e h }
