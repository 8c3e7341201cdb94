-- The lines of a transcript.
use Rattle.std.specs.Prelude.{◌≡◌, ℕ, ◌+◌, ◌≤◌, List, [], ◌∷◌, ◌++◌, Ok, codes, decimal}
use Rattle.lengths.specs.Kind.{Kind}
use Rattle.rules.specs.Texts.{status_name, verdict_name}
use Rattle.rules.specs.declared.verdict.Verdict.TheVariants.{RC, REB, REF, RI, RR}
use Rattle.hall.specs.Hall.{boards_in, count_of, Looks}
use Rattle.hall.specs.declared.questions.Look.{Look}
use Rattle.hall.specs.declared.tables.Hall.{Hall}
use Rattle.hall.specs.declared.tables.Tally.{Tally}
use Rattle.session.specs.Faults.{script_number, script_byte}
use Rattle.session.specs.declared.fault.ScriptFault.{ScriptFault}

-- words parted by single spaces, ended by a byte 10
abbrev pub text_line : List (List ℕ) → List ℕ
text_line [] = 10 ∷ []
text_line (w ∷ []) = w ++ 10 ∷ []
text_line (w ∷ v ∷ ws) = w ++ 32 ∷ text_line (v ∷ ws)

-- a board: its number, status, par, the code of its length, and its verdict
abbrev pub board_text : {V : Type 0} → Kind V → ℕ → Look V → List ℕ
board_text k b look = text_line (decimal b ∷ status_name look.record.status ∷ decimal look.record.par ∷ decimal (k.coded look.record.length) ∷ verdict_name look.verdict ∷ [])

-- the text has a line for each board from b on
pub data ShownFrom {V : Type 0} (k : Kind V) (h : Hall V) : ℕ → List ℕ → Type 0 where
  past : {b : ℕ} → boards_in h ≤ b → ShownFrom k h b []
  board : {b : ℕ} (look : Look V) {more : List ℕ} → Looks k h b (Ok look) → ShownFrom k h (b + 1) more → ShownFrom k h b (board_text k b look ++ more)

-- the five counts of a board
abbrev pub counts_text : Tally → List ℕ
counts_text t = text_line (decimal (count_of t RC) ∷ decimal (count_of t REB) ∷ decimal (count_of t REF) ∷ decimal (count_of t RI) ∷ decimal (count_of t RR) ∷ [])

-- a refusal: its number, the line and the byte
abbrev pub refusal_text : ℕ → ScriptFault → List ℕ
refusal_text line f = text_line (codes "no" ∷ decimal (script_number f) ∷ decimal line ∷ decimal (script_byte f) ∷ [])

-- `after` is `before` and a text that P tells of
abbrev pub Appends : (List ℕ → Type 0) → List ℕ → List ℕ → Type 0
Appends P before after = (text : List ℕ) × P text × (after ≡ before ++ text)
