use Rattle.std.proofs.Common.{◌≡◌}
use Rattle.hall.proofs.Judging.{Judging}
use Rattle.hall.proofs.tables.Hall.judge_again.Given as goal

abbrev pub invariant-loop-board : goal.invariant-loop-board
invariant-loop-board g l = (l.board-iterator.set ≡ l.doubtful) × Judging g.L.Length.meaning l.self l.set l.doubtful l.initial.plans l.board-iterator.from l.enabled l.plans
