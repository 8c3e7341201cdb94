use Rattle.std.proofs.Common.{refl}
use Rattle.session.proofs.halls.AnyHall.obey.Goals as goal

pub returns-in-Metres : goal.returns-in-Metres
returns-in-Metres c = rw c.in-Metres.is (c.obey.new.hall, refl, c.obey.ensures)

pub returns-in-Grade : goal.returns-in-Grade
returns-in-Grade c = rw c.in-Grade.is (c.obey-in-Grade.new.hall, refl, c.obey-in-Grade.ensures)
