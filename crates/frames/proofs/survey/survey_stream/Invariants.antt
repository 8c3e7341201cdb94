use Rattle.std.proofs.Common.{◌-◌, length}
use Rattle.frames.proofs.Surveys.{Counting}
use Rattle.frames.proofs.survey.survey_stream.Given as goal

abbrev pub invariant-loop-step : goal.invariant-loop-step
invariant-loop-step g l = Counting g.L.Length.meaning l.bytes l.reader l.survey

abbrev pub decreases-loop-step : goal.decreases-loop-step
decreases-loop-step g l = length l.reader.input.now - l.reader.place
