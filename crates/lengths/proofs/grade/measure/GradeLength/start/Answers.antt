use Rattle.std.proofs.Common.{refl}
use Rattle.lengths.specs.GradeLaws.{same}
use Rattle.lengths.proofs.grade.measure.GradeLength.start.Goals as goal

pub returns : goal.returns
returns c = same _ _ refl refl
