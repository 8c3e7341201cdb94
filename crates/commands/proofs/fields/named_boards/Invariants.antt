use Rattle.std.proofs.Common.{ℕ, List, length}
use Rattle.words.specs.Words.{Spaced}
use Rattle.commands.specs.Sets.{SetOf}
use Rattle.commands.proofs.Taking.{Reads}
use Rattle.commands.proofs.fields.named_boards.Given as goal

abbrev pub invariant-loop-rest : goal.invariant-loop-rest
invariant-loop-rest l = (fs : List (List ℕ)) → Spaced fs l.fields → (ns : List ℕ) × Reads fs l.rest ns × SetOf l.named ns

abbrev pub decreases-loop-rest : goal.decreases-loop-rest
decreases-loop-rest l = length l.rest
