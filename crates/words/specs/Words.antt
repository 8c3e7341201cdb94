-- The words of a line.
use Rattle.std.specs.Prelude.{◌≡◌, ℕ, ◌<◌, ◌≤◌, List, [], ◌∷◌, ◌++◌, length, Some, None, Option}
use Rattle.std.specs.List.{AllByRecursion}

-- a word is one or more bytes from 33 to 126
abbrev pub Word : List ℕ → Type 0
Word bytes = (0 < length bytes) × AllByRecursion (λ b. (33 ≤ b) × (b ≤ 126)) bytes

-- words joined by one byte 32
abbrev pub spaced : List (List ℕ) → List ℕ
spaced [] = []
spaced (w ∷ []) = w
spaced (w ∷ v ∷ ws) = w ++ 32 ∷ spaced (v ∷ ws)

-- the bytes are these words, any number of them, parted by single spaces
abbrev pub Spaced : List (List ℕ) → List ℕ → Type 0
Spaced ws bytes = (spaced ws ≡ bytes) × AllByRecursion Word ws

-- the words of a line, at least one
abbrev pub Words : List (List ℕ) → List ℕ → Type 0
Words ws line = (0 < length ws) × Spaced ws line

-- how many words the line has; none is the answer where it is no words at all
abbrev pub Counted : List ℕ → Option ℕ → Type 0
Counted line None = (ws : List (List ℕ)) → Words ws line → ⊥
Counted line (Some n) = (ws : List (List ℕ)) × Words ws line × (length ws ≡ n)
