use Rattle.std.proofs.Common.{◌≡◌, ◌<◌, length, set, sym, refl, ◌∙◌, subst, arith, rules}
use Rattle.sets.specs.Sets.{LeastFrom}
use Rattle.hall.specs.declared.plans.Plans.{Plans}
use Rattle.hall.proofs.Judging.{Judging, judged, not_yet, put_plan, other_plan, with_others, with_itself}
use Rattle.hall.proofs.tables.Hall.judge_again.Goals as goal

pub loop-board-preserved : goal.loop-board-preserved
loop-board-preserved g c =
    let k = g.L.Length.meaning in
    let h = c.args.self.now in
    let s = c.args.set in
    let d = c.args.doubtful in
    let first = c.args.plans.now in
    let m = c.in-Some.board in
    let e = c.loop-board.enabled in
    let old = c.loop-board.plans in
    let plan = c.plan_at-plan.result in
    let new : Plans = record { of = set old.of m plan } in
    let from = c.loop-board.board-iterator.from in
    let inv = c.loop-board.invariant in
    let step = c.in-Some.ensures.steps in
    let found = subst (λ x. LeastFrom x from m) inv.0 step.0 in
    let whole : length old.of ≡ 64 = search rules in
    let inside : m < length old.of = omega (arith, step.3) in
    let next = judged k h s d first from m e e old new plan inv.1 found c.plan_at-plan.ensures (put_plan old m plan inside) (other_plan old m plan) inv.1.small (λ b ne. refl) (not_yet inv.1 found ∙ c.if-is_some.ensures) in
    (step.1 ∙ inv.0, subst (λ x. Judging k h s d first x e new) (sym step.2) next)

pub loop-board-preserved-then-is_some : goal.loop-board-preserved-then-is_some
loop-board-preserved-then-is_some g c =
    let k = g.L.Length.meaning in
    let h = c.args.self.now in
    let s = c.args.set in
    let d = c.args.doubtful in
    let first = c.args.plans.now in
    let m = c.in-Some.board in
    let e = c.loop-board.enabled in
    let r = c.with-enabled.result in
    let old = c.loop-board.plans in
    let plan = c.plan_at-plan.result in
    let new : Plans = record { of = set old.of m plan } in
    let from = c.loop-board.board-iterator.from in
    let inv = c.loop-board.invariant in
    let step = c.in-Some.ensures.steps in
    let found = subst (λ x. LeastFrom x from m) inv.0 step.0 in
    let whole : length old.of ≡ 64 = search rules in
    let inside : m < length old.of = omega (arith, step.3) in
    let next = judged k h s d first from m e r old new plan inv.1 found c.plan_at-plan.ensures (put_plan old m plan inside) (other_plan old m plan) c.with-enabled.type_inv (with_others e r m c.with-enabled.ensures) (with_itself e r m step.3 c.with-enabled.ensures ∙ c.if-is_some.ensures) in
    (step.1 ∙ inv.0, subst (λ x. Judging k h s d first x r new) (sym step.2) next)
