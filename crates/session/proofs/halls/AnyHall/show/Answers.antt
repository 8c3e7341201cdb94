use Rattle.session.proofs.halls.AnyHall.show.Goals as goal

pub returns-in-Metres : goal.returns-in-Metres
returns-in-Metres c = rw c.in-Metres.is c.show.ensures

pub returns-in-Grade : goal.returns-in-Grade
returns-in-Grade c = rw c.in-Grade.is c.show-in-Grade.ensures
