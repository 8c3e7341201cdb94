use Rattle.board.specs.Ready.{FramesBelow}
use Rattle.board.proofs.ready.check_slots.Given as goal

abbrev pub invariant-loop-port : goal.invariant-loop-port
invariant-loop-port g l = FramesBelow g.L.Length.meaning l.ports l.ear l.port
