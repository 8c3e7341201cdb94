use Rattle.std.proofs.Common.{◌≡◌, ℕ, List, length, take}
use Rattle.words.specs.Words.{Spaced}
use Rattle.commands.proofs.Taking.{Reads}
use Rattle.commands.proofs.fields.numbers.Given as goal

abbrev pub invariant-loop-slot : goal.invariant-loop-slot
invariant-loop-slot g l = (length l.slot-items ≡ g.row.N) × ((fs : List (List ℕ)) → Spaced fs l.fields → length fs ≡ g.row.N → Reads fs l.rest (take l.slot-index l.slot-items))
