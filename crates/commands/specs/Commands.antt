-- What a line says.
use Rattle.std.specs.Prelude.{◌≡◌, ℕ, ◌+◌, ◌<◌, ◌≤◌, ◌⊎◌, List, [], ◌∷◌, length, Ok, Err, Result, ◌≢◌}
use Rattle.words.specs.Numerals.{Numeral}
use Rattle.words.specs.Words.{Words}
use Rattle.commands.specs.declared.command.Command.{Command}
use Rattle.commands.specs.declared.command.Command.TheVariants as command
use Rattle.commands.specs.declared.misread.Misread.{Misread}
use Rattle.commands.specs.declared.misread.Misread.TheVariants.{Malformed, Unknown, Count, Field}
use Rattle.commands.specs.declared.verb.Verb.{Verb}
use Rattle.commands.specs.declared.verb.Verb.TheVariants as verb
use Rattle.commands.specs.Fields.{Counts, sorts, name_of, kind_name, picker_name, Misfit, Numerals}
use Rattle.commands.specs.Sets.{SetOf}

-- the verb of a command
abbrev pub verb_of : Command → Verb
verb_of (command.New n k) = verb.New
verb_of (command.Wire a p b q w) = verb.Wire
verb_of (command.Cut a p) = verb.Cut
verb_of (command.Plant b s p code) = verb.Plant
verb_of (command.Turn boards) = verb.Turn
verb_of (command.Settle p) = verb.Settle
verb_of (command.Tally b) = verb.Tally
verb_of command.Show = verb.Show

-- the fields give the values of the command, in their order
abbrev pub Says : Command → List (List ℕ) → Type 0
Says (command.New n k) fields = (f : List ℕ) × (fields ≡ f ∷ kind_name k ∷ []) × Numeral f n
Says (command.Wire a p b q w) fields = Numerals (a ∷ p ∷ b ∷ q ∷ w ∷ []) fields
Says (command.Cut a p) fields = Numerals (a ∷ p ∷ []) fields
Says (command.Plant b s p code) fields = Numerals (b ∷ s ∷ p ∷ code ∷ []) fields
Says (command.Turn boards) fields = (ns : List ℕ) × Numerals ns fields × SetOf boards ns
Says (command.Settle p) fields = fields ≡ picker_name p ∷ []
Says (command.Tally b) fields = Numerals (b ∷ []) fields
Says command.Show fields = Numerals [] fields

-- the line has at most 200 bytes, and its words are a first word and these fields
abbrev pub Written : List ℕ → List ℕ → List (List ℕ) → Type 0
Written line word fields = (length line ≤ 200) × Words (word ∷ fields) line

-- The command of a line, or why it has none. A later refusal stands only where no earlier one does.
abbrev pub Reading : List ℕ → Result Command Misread → Type 0
Reading line (Err Malformed) = (200 < length line) ⊎ ((ws : List (List ℕ)) → Words ws line → ⊥)
Reading line (Err Unknown) = (word : List ℕ) × (fields : List (List ℕ)) × Written line word fields × ((v : Verb) → word ≢ name_of v)
Reading line (Err Count) = (v : Verb) × (fields : List (List ℕ)) × Written line (name_of v) fields × (Counts v (length fields) → ⊥)
Reading line (Err (Field byte)) = (v : Verb) × (fields : List (List ℕ)) × Written line (name_of v) fields × Counts v (length fields) × Misfit (sorts v (length fields)) fields (length (name_of v) + 2) byte
Reading line (Ok c) = (fields : List (List ℕ)) × Written line (name_of (verb_of c)) fields × Says c fields
