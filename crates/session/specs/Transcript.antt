-- The transcript of a script.
use Rattle.std.specs.Prelude.{◌≡◌, ℕ, ◌+◌, ◌<◌, ◌≤◌, ◌⊎◌, List, [], ◌∷◌, ◌++◌, length, None, codes, Option}
use Rattle.words.specs.Lines.{Lines}
use Rattle.session.specs.Answers.{Answered}
use Rattle.session.specs.Texts.{text_line}
use Rattle.session.specs.declared.halls.AnyHall.{AnyHall}

-- the answers to these lines, the first of which has this number and finds this hall, one after another
pub data Answers : ℕ → Option AnyHall → List (List ℕ) → List ℕ → Type 0 where
  nothing : {number : ℕ} {hall : Option AnyHall} → Answers number hall [] []
  answer : {number : ℕ} {before : Option AnyHall} (after : Option AnyHall) {line : List ℕ} {lines : List (List ℕ)} (text : List ℕ) {more : List ℕ} → Answered number line before after text → Answers (number + 1) after lines more → Answers number before (line ∷ lines) (text ++ more)

-- what answers a script of more than 65,536 bytes
abbrev pub too_long : List ℕ
too_long = text_line (codes "no" ∷ codes "35" ∷ codes "0" ∷ codes "0" ∷ [])

-- a script is answered line by line, from line 1 on, where at first there is no hall
abbrev pub Answering : List ℕ → List ℕ → Type 0
Answering script text = (lines : List (List ℕ)) × Lines lines script × Answers 1 None lines text

-- the transcript of a script: one refusal where it is too long, and else its answers
abbrev pub Transcript : List ℕ → List ℕ → Type 0
Transcript script text = ((65536 < length script) × (text ≡ too_long)) ⊎ ((length script ≤ 65536) × Answering script text)
