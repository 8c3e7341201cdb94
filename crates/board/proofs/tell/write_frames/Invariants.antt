use Rattle.std.proofs.Common.{◌≡◌, ◌*◌, ◌++◌, drop}
use Rattle.board.specs.Tell.{wired_below, frames_below}
use Rattle.board.proofs.tell.write_frames.Given as goal

abbrev pub invariant-loop-port : goal.invariant-loop-port
invariant-loop-port g l = (l.size ≡ 16 * wired_below l.ports l.port) × (l.out ≡ frames_below g.L.Length.meaning l.own l.ports l.port ++ drop l.size l.initial.out)
