use Rattle.hall.specs.Hall.{Reaches}
use Rattle.hall.proofs.tables.Hall.with_neighbours.Given as goal

abbrev pub invariant-loop-port : goal.invariant-loop-port
invariant-loop-port g l = Reaches l.self l.set l.board l.port l.near
