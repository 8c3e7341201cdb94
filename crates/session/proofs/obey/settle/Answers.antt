use Rattle.std.proofs.Common.{◌≡◌, subst}
use Rattle.pickers.specs.Choices.{pick_ring}
use Rattle.pickers.specs.declared.ring.Ring.{Ring}
use Rattle.hall.specs.Runs.{Settles}
use Rattle.session.proofs.obey.settle.Goals as goal

pub returns-in-Ring : goal.returns-in-Ring
returns-in-Ring g c =
    let k = g.L.Length.meaning in
    let start : c.new.result ≡ record { last = 0 } = λ i. record { last = c.new.ensures i } in
    rw c.in-Ring.is (c.settle-in-Ring.new.picker, subst (λ (p : Ring). Settles k pick_ring p c.args.hall.now c.settle-in-Ring.new.picker c.settle-in-Ring.new.self) start c.settle-in-Ring.ensures.steps)
