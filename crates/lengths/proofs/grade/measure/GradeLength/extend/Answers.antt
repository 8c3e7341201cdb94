use Rattle.std.proofs.Common.{◌≡◌, true, rules, sym}
use Rattle.lengths.specs.Grade.{grade}
use Rattle.lengths.specs.GradeLaws.{steps_to}
use Rattle.lengths.proofs.grade.measure.GradeLength.extend.Goals as goal

pub returns : goal.returns
returns c = let admitted : grade.admitted c.args.weight ≡ true = search rules in sym (steps_to c.args.self _ c.args.weight _ admitted c.in_ok-hops.ensures.1 c.max-worst.ensures)
