use Rattle.std.proofs.Common.{rules, sym, refl}
use native.Mathlib.Decide.{dec_lt}
use Rattle.lengths.specs.GradeLaws.{gives}
use Rattle.lengths.proofs.grade.measure.GradeLength.read.Goals as goal

pub returns : goal.returns
returns c = sym (gives _ _ _ (dec_lt _ _) (dec_lt _ _) (search rules) refl)
