-- How tallies and looks are written.
use Rattle.std.specs.Prelude.{ℕ, List, ◌∷◌, ◌++◌, decimal}
use Rattle.lengths.specs.Kind.{Kind}
use Rattle.rules.specs.Texts.{record_text, verdict_name}
use Rattle.hall.specs.declared.questions.Look.{Look}
use Rattle.hall.specs.declared.tables.Tally.{Tally}

-- a tally: its counts in the order RC REB REF RI RR, parted by single spaces
abbrev pub tally_text : Tally → List ℕ
tally_text t = decimal t.corrected ++ 32 ∷ decimal t.broadcast ++ 32 ∷ decimal t.fedback ++ 32 ∷ decimal t.isolated ++ 32 ∷ decimal t.rejoined

-- a look at a board: its record and its verdict
abbrev pub look_text : {V : Type 0} → Kind V → Look V → List ℕ
look_text k look = record_text k look.record ++ 32 ∷ verdict_name look.verdict
