-- The fields of a command, and which of them is the first that does not fit.
use Rattle.std.specs.Prelude.{◌≡◌, ℕ, ◌+◌, ◌⊎◌, List, [], ◌∷◌, length, replicate, codes}
use Rattle.words.specs.Numerals.{Numeral}
use Rattle.commands.specs.declared.command.Kind.{Kind}
use Rattle.commands.specs.declared.command.Kind.TheVariants.{Metres, Grade}
use Rattle.commands.specs.declared.command.PickerName.{PickerName}
use Rattle.commands.specs.declared.command.PickerName.TheVariants.{All, Ring}
use Rattle.commands.specs.declared.verb.Verb.{Verb}
use Rattle.commands.specs.declared.verb.Verb.TheVariants.{New, Wire, Cut, Plant, Turn, Settle, Tally, Show}

-- the word of a verb
abbrev pub name_of : Verb → List ℕ
name_of New = codes "new"
name_of Wire = codes "wire"
name_of Cut = codes "cut"
name_of Plant = codes "plant"
name_of Turn = codes "turn"
name_of Settle = codes "settle"
name_of Tally = codes "tally"
name_of Show = codes "show"

-- the word of a kind of length
abbrev pub kind_name : Kind → List ℕ
kind_name Metres = codes "metres"
kind_name Grade = codes "grade"

-- the word of a picker
abbrev pub picker_name : PickerName → List ℕ
picker_name All = codes "all"
picker_name Ring = codes "ring"

-- what a field may be: a number, a kind of length, or a picker
pub data Sort : Type 0 where
  numeral : Sort
  kind_word : Sort
  picker_word : Sort

abbrev pub Fits : Sort → List ℕ → Type 0
Fits numeral field = (n : ℕ) × Numeral field n
Fits kind_word field = (k : Kind) × (field ≡ kind_name k)
Fits picker_word field = (p : PickerName) × (field ≡ picker_name p)

-- how many fields a verb takes; a turn takes any number
abbrev pub Counts : Verb → ℕ → Type 0
Counts New n = n ≡ 2
Counts Wire n = n ≡ 5
Counts Cut n = n ≡ 2
Counts Plant n = n ≡ 4
Counts Turn n = Unit {0}
Counts Settle n = n ≡ 1
Counts Tally n = n ≡ 1
Counts Show n = n ≡ 0

-- the sorts of the n fields of a verb
abbrev pub sorts : Verb → ℕ → List Sort
sorts New n = numeral ∷ kind_word ∷ []
sorts Wire n = replicate n numeral
sorts Cut n = replicate n numeral
sorts Plant n = replicate n numeral
sorts Turn n = replicate n numeral
sorts Settle n = picker_word ∷ []
sorts Tally n = replicate n numeral
sorts Show n = replicate n numeral

-- Where the first field begins at the byte `here`, the first that is not of its sort begins at `byte`. A space follows each field but the last.
abbrev pub Misfit : List Sort → List (List ℕ) → ℕ → ℕ → Type 0
Misfit [] fields here byte = ⊥
Misfit (s ∷ ss) [] here byte = ⊥
Misfit (s ∷ ss) (f ∷ fs) here byte = ((Fits s f → ⊥) × (byte ≡ here)) ⊎ (Fits s f × Misfit ss fs (here + length f + 1) byte)

-- each field is the numeral of the number at its place
abbrev pub Numerals : List ℕ → List (List ℕ) → Type 0
Numerals [] [] = Unit {0}
Numerals [] (f ∷ fs) = ⊥
Numerals (n ∷ ns) [] = ⊥
Numerals (n ∷ ns) (f ∷ fs) = Numeral f n × Numerals ns fs
