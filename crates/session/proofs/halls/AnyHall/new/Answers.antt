use Rattle.lengths.specs.Grade.{grade}
use Rattle.lengths.specs.Metres.{metres}
use Rattle.session.specs.declared.halls.AnyHall.TheVariants.{Metres, Grade}
use Rattle.session.proofs.Making.{made_as}
use Rattle.session.proofs.halls.AnyHall.new.Goals as goal

pub returns-in-Metres : goal.returns-in-Metres
returns-in-Metres c = rw c.in-Metres.is (made_as metres Metres c.args.boards (λ h x e. e) c.new.result c.map.result c.map.ensures.cases c.new.ensures)

pub returns-in-Grade : goal.returns-in-Grade
returns-in-Grade c = rw c.in-Grade.is (made_as grade Grade c.args.boards (λ h x e. e) c.new-in-Grade.result c.map-in-Grade.result c.map-in-Grade.ensures.cases c.new-in-Grade.ensures)
