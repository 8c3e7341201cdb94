use Rattle.std.proofs.Common.{ap, ◌∙◌}
use lib.Bits.{bit_or}
use Rattle.std.proofs.lemmas.Nat.{one_shl}
use Rattle.sets.specs.Sets.{has}
use Rattle.sets.proofs.Bits.{has_with}
use Rattle.sets.proofs.with.Goals as goal

pub returns-then-board-lt64 : goal.returns-then-board-lt64
returns-then-board-lt64 c b = ap (λ x. has (bit_or c.args.set x) b) (one_shl c.args.board 64 c.if-board-lt64.true) ∙ has_with c.args.set c.args.board c.if-board-lt64.true b
