-- What the steps of reading a command promise one another, of fields that are words parted by single spaces.
use Rattle.std.specs.Prelude.{◌≡◌, ℕ, ◌<◌, ◌⊎◌, List, [], ◌∷◌, length, replicate, IfSome, Ok, Err, Option, Result, MatchOption}
use Rattle.std.specs.Borrow.{Bor}
use Rattle.words.specs.Numerals.{Numeral}
use Rattle.words.specs.Words.{spaced, Spaced}
use Rattle.commands.specs.declared.boards.Boards.{Boards}
use Rattle.commands.specs.declared.command.Command.{Command}
use Rattle.commands.specs.declared.command.Kind.{Kind}
use Rattle.commands.specs.declared.verb.Verb.{Verb}
use Rattle.commands.specs.Commands.{verb_of, Says}
use Rattle.commands.specs.Fields.{Sort, numeral, kind_word, Fits, Counts, sorts, Numerals, kind_name}
use Rattle.commands.specs.Sets.{SetOf}

-- the fields from the first that is not of its sort on take `left` bytes
abbrev pub Left : List Sort → List (List ℕ) → ℕ → Type 0
Left [] fields left = ⊥
Left (s ∷ ss) [] left = ⊥
Left (s ∷ ss) (f ∷ fs) left = ((Fits s f → ⊥) × (left ≡ length (spaced (f ∷ fs)))) ⊎ (Fits s f × Left ss fs left)

-- the number that the first field is, with the fields after it
abbrev pub TakesNumber : List ℕ → Option (ℕ × Bor (List ℕ)) → Type 0
TakesNumber bytes r = (f : List ℕ) (fs : List (List ℕ)) → Spaced (f ∷ fs) bytes → MatchOption r (Fits numeral f → ⊥) (λ p. Numeral f p.0 × Spaced fs p.1.now)

-- fewer bytes are left, if there were any
abbrev pub Shorter : List ℕ → Option (ℕ × Bor (List ℕ)) → Type 0
Shorter bytes r = 0 < length bytes → IfSome r (λ p. length p.1.now < length bytes)

-- the numbers that all n fields are
abbrev pub Listed : ℕ → List ℕ → Result (List ℕ) ℕ → Type 0
Listed n bytes (Ok ns) = (fs : List (List ℕ)) → Spaced fs bytes → length fs ≡ n → Numerals ns fs
Listed n bytes (Err left) = (fs : List (List ℕ)) → Spaced fs bytes → length fs ≡ n → Left (replicate (length fs) numeral) fs left

-- the boards that the fields name
abbrev pub Named : List ℕ → Result Boards ℕ → Type 0
Named bytes (Ok boards) = (fs : List (List ℕ)) → Spaced fs bytes → (ns : List ℕ) × Numerals ns fs × SetOf boards ns
Named bytes (Err left) = (fs : List (List ℕ)) → Spaced fs bytes → Left (replicate (length fs) numeral) fs left

-- the number and the kind of length that two fields are
abbrev pub Opened : List ℕ → Result (ℕ × Kind) ℕ → Type 0
Opened bytes (Ok p) = (fs : List (List ℕ)) → Spaced fs bytes → length fs ≡ 2 → (f : List ℕ) × (fs ≡ f ∷ kind_name p.1 ∷ []) × Numeral f p.0
Opened bytes (Err left) = (fs : List (List ℕ)) → Spaced fs bytes → length fs ≡ 2 → Left (numeral ∷ kind_word ∷ []) fs left

-- the command of a verb and its fields, of which there are as many as it takes
abbrev pub Answered : Verb → List ℕ → Result Command ℕ → Type 0
Answered v bytes (Ok c) = (verb_of c ≡ v) × ((fs : List (List ℕ)) → Spaced fs bytes → Counts v (length fs) → Says c fs)
Answered v bytes (Err left) = (fs : List (List ℕ)) → Spaced fs bytes → Counts v (length fs) → Left (sorts v (length fs)) fs left
