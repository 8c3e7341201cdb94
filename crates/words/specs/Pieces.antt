-- Bytes that are parted by a byte `stop`.
use Rattle.std.specs.Prelude.{◌≡◌, ℕ, ◌⊎◌, List, [], ◌∷◌, ◌++◌, ◌≢◌}
use Rattle.std.specs.List.{AllByRecursion}

-- none of the bytes is `stop`
abbrev pub Lacks : ℕ → List ℕ → Type 0
Lacks stop bytes = AllByRecursion (λ b. b ≢ stop) bytes

-- `front` lacks `stop`; the bytes are `front`, `stop` and the rest, or `front` alone, and then the rest is empty
abbrev pub First : ℕ → List ℕ → List ℕ → List ℕ → Type 0
First stop front rest bytes = Lacks stop front × ((bytes ≡ front ++ stop ∷ rest) ⊎ ((bytes ≡ front) × (rest ≡ [])))
