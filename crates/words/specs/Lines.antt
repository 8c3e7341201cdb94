-- The lines of a script.
use Rattle.std.specs.Prelude.{◌≡◌, ℕ, ◌<◌, List, [], ◌∷◌, length}
use Rattle.words.specs.Pieces.{First}

-- a script that is not empty begins with this line, ended by a byte 10 or by the script's end, and goes on with the rest
abbrev pub FirstLine : List ℕ → List ℕ → List ℕ → Type 0
FirstLine line rest script = (0 < length script) × First 10 line rest script

-- The script is these lines, none of which holds a byte 10, each followed by a byte 10; the last, if it is not empty, may lack its byte 10.
abbrev pub Lines : List (List ℕ) → List ℕ → Type 0
Lines [] script = script ≡ []
Lines (line ∷ lines) script = (rest : List ℕ) × FirstLine line rest script × Lines lines rest
