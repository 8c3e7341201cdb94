use Rattle.std.proofs.Common.{◌+◌, string_bytes, sym, subst, arith, rules}
use Rattle.std.specs.Iterator.Adapters.{enumerate_source, enumerate_count}
use Rattle.session.specs.Answers.{Answered}
use Rattle.session.specs.Texts.{Appends}
use Rattle.session.proofs.Answering.{GoesOn, next, end}
use Rattle.session.proofs.session.answers.Goals as goal

pub loop-index-preserved : goal.loop-index-preserved
loop-index-preserved c =
    let left = enumerate_source c.loop-index.index-iterator in
    let after = enumerate_source c.next.new.self in
    let count = enumerate_count c.loop-index.index-iterator in
    let old = c.loop-index.session.hall in
    let new = c.answer.new.self.hall in
    let out = string_bytes c.loop-index.out in
    let written = string_bytes c.answer.new.out in
    let step = c.in-Some.ensures.steps in
    let said : Appends (Answered (count + 1) c.in-Some.line.now old new) out written =
    subst (λ n. Appends (Answered n c.in-Some.line.now old new) out written) (omega (arith, step.1)) c.in_ok-answer.ensures in (
      search rules,
      search rules,
      subst (λ n. GoesOn c.args.script.now after.rest.now (n + 1) new written) (sym step.2)
          (next c.args.script.now left.rest.now c.in-Some.line.now after.rest.now (count + 1) old new out written step.0 said c.loop-index.invariant.2),
    )

pub returns : goal.returns
returns c =
    let left = enumerate_source c.loop-index.index-iterator in
    end c.args.script.now left.rest.now (enumerate_count c.loop-index.index-iterator + 1) c.loop-index.session.hall (string_bytes c.loop-index.out)
    c.in-None.ensures.steps.0.0 c.loop-index.invariant.2
