use Rattle.std.proofs.Common.{◌≡◌}
use Rattle.hall.proofs.Midway.{Midway}
use Rattle.hall.proofs.tables.Hall.advance.Given as goal

abbrev pub invariant-loop-board : goal.invariant-loop-board
invariant-loop-board g l = (l.board-iterator.set ≡ l.set) × (l.self.cabling ≡ l.initial.self.cabling) × Midway g.L.Length.meaning l.initial.self l.set l.board-iterator.from l.self.ledger.records l.self.tallies
