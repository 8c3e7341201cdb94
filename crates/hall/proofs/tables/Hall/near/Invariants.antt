use Rattle.std.proofs.Common.{◌≡◌}
use Rattle.hall.proofs.Nearby.{NearBelow}
use Rattle.hall.proofs.tables.Hall.near.Given as goal

abbrev pub invariant-loop-board : goal.invariant-loop-board
invariant-loop-board g l = (l.board-iterator.set ≡ l.moved) × NearBelow l.self l.moved l.board-iterator.from l.near
