use Rattle.std.proofs.Common.{sym, refl, ◌∙◌, rules}
use Rattle.hall.proofs.Beginning.{anew}
use Rattle.hall.proofs.tables.Hall.cut.Goals as goal

pub returns : goal.returns
returns g c = (search rules, anew _ _ c.cut.ensures.boards c.no_moves-self.ensures, λ b. refl, (c.in_ok-end.end, (sym c.far.ensures ∙ c.in_ok-end.ensures.ok_part), c.cut.ensures.cables))
