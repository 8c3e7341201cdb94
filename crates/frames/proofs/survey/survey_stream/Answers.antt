use Rattle.std.proofs.Common.{◌≡◌, Some, refl, ap, subst, arith}
use Rattle.frames.specs.Reading.{Steps, one_record, one_unknown}
use Rattle.frames.specs.Stream.{ended, stopped, told_of}
use Rattle.frames.proofs.Surveys.{counting_more, counted_to_end}
use Rattle.frames.proofs.survey.survey_stream.Goals as goal

pub loop-step-preserved-in-Ok-Record : goal.loop-step-preserved-in-Ok-Record
loop-step-preserved-in-Ok-Record g c =
    let h = subst (λ s. Steps g.L.Length.meaning c.loop-step.reader (Some s) c.next.new.self) c.in-Ok-Record.is c.in-Some.ensures.step in
    let item = rw c.in-Ok-Record.is at c.in-Ok-Record.field-0-is in
    let records : one_record (told_of c.in-Ok-Record.field-0) ≡ 1 = ap (λ i. one_record (told_of i)) item in
    let unknown : one_unknown (told_of c.in-Ok-Record.field-0) ≡ 0 = ap (λ i. one_unknown (told_of i)) item in
    counting_more g.L.Length.lawful _ _ _ _ c.loop-step.survey _ c.loop-step.invariant h (omega arith) (omega arith) refl

pub loop-step-preserved : goal.loop-step-preserved
loop-step-preserved g c =
    let h = subst (λ s. Steps g.L.Length.meaning c.loop-step.reader (Some s) c.next.new.self) c.in-Ok-Unknown.is c.in-Some.ensures.step in
    let item = rw c.in-Ok-Unknown.is at c.in-Ok-Unknown.field-0-is in
    let records : one_record (told_of c.in-Ok-Unknown.field-0) ≡ 0 = ap (λ i. one_record (told_of i)) item in
    let unknown : one_unknown (told_of c.in-Ok-Unknown.field-0) ≡ 1 = ap (λ i. one_unknown (told_of i)) item in
    counting_more g.L.Length.lawful _ _ _ _ c.loop-step.survey _ c.loop-step.invariant h (omega arith) (omega arith) refl

pub returns-in-Err : goal.returns-in-Err
returns-in-Err g c =
    let f = c.in-Err.fault in
    let h = subst (λ s. Steps g.L.Length.meaning c.loop-step.reader (Some s) c.next.new.self) c.in-Err.is c.in-Some.ensures.step in
    counted_to_end g.L.Length.lawful _ c.loop-step.reader (stopped f.fault f.place) c.loop-step.survey _ c.loop-step.invariant (h.place_is, h.more, h.why) refl

pub returns-in_default : goal.returns-in_default
returns-in_default g c =
    counted_to_end g.L.Length.lawful _ c.loop-step.reader ended c.loop-step.survey _ c.loop-step.invariant c.in_default.ensures.step.0 c.loop-step.invariant.none
