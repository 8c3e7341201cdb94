use Rattle.std.proofs.Common.{sym, ◌∙◌, le-ltb}
use Rattle.sets.proofs.Bits.{none_past}
use Rattle.sets.proofs.contains.Goals as goal

pub returns-else-board-lt64 : goal.returns-else-board-lt64
returns-else-board-lt64 c = le-ltb _ 64 c.if-board-lt64.false ∙ sym (none_past c.args.set c.args.board c.ranges.set.fits c.if-board-lt64.false)
