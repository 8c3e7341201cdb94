use Rattle.std.proofs.Common.{◌≡◌, ℕ, ◌<◌, true, Some}
use Rattle.rules.specs.Rules.{child}
use Rattle.rules.specs.declared.neighbourhood.Seen.{Seen}
use Rattle.rules.specs.declared.status.Status.TheVariants.{EF}
use Rattle.rules.proofs.board.Board.children_ef.Given as goal

abbrev pub invariant-loop-port : goal.invariant-loop-port
invariant-loop-port g l = (p : ℕ) (s : Seen _) → p < l.port → g.N.Neighbourhood.seen l.self.near.now p ≡ Some s → child g.L.Length.meaning l.self.own s ≡ true → s.status ≡ EF
