use Rattle.std.proofs.Common.{refl, rules}
use Rattle.hall.proofs.Beginning.{anew}
use Rattle.hall.proofs.tables.Hall.wire.Goals as goal

pub returns : goal.returns
returns g c = (search rules, anew _ _ c.join.ensures.boards c.no_moves-self.ensures, λ b. refl, c.join.ensures.cables)
