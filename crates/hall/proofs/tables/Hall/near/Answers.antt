use Rattle.std.proofs.Common.{sym, ◌∙◌, subst}
use Rattle.sets.specs.Sets.{LeastFrom}
use Rattle.hall.proofs.Nearby.{NearBelow, near_more}
use Rattle.hall.proofs.tables.Hall.near.Goals as goal

pub loop-board-preserved : goal.loop-board-preserved
loop-board-preserved g c =
    let h = c.args.self.now in
    let inv = c.loop-board.invariant in
    let step = c.in-Some.ensures.steps in
    let from = c.loop-board.board-iterator.from in
    let next = subst (λ s. LeastFrom s from c.in-Some.board) inv.0 step.0 in
    (step.1 ∙ inv.0, subst (λ m. NearBelow h c.args.moved m c.with_neighbours-near.result) (sym step.2) (near_more h c.args.moved from c.in-Some.board c.loop-board.near c.with_neighbours-near.result inv.1 next c.with_neighbours-near.ensures))
