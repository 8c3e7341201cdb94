use Rattle.std.proofs.Common.{◌/◌, ◌∙◌, ap, length, get_or, [], arith}
use Rattle.board.proofs.Slots.{chunk_at}
use Rattle.board.proofs.ready.slots.Goals as goal

pub returns-clause-each : goal.returns-clause-each
returns-clause-each c = λ p h. ap (λ xs. get_or xs p []) c.as_chunks.ensures.front ∙ chunk_at (length c.args.ear.now / 16) p c.args.ear.now (omega arith)
