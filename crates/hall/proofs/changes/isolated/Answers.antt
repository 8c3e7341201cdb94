use Rattle.std.proofs.Common.{ap, ◌∙◌}
use Rattle.rules.specs.declared.record.Record.{Record}
use Rattle.rules.specs.declared.status.Status.TheVariants.{I}
use Rattle.hall.proofs.Beginning.{all_alike}
use Rattle.hall.proofs.changes.isolated.Goals as goal

pub returns : goal.returns
returns g c b pos lt =
    let own : Record g.row.L.Denot → Record g.row.L.Denot = λ r. record { status = I; par = r.par; length = r.length } in
    all_alike g.L.Length.meaning (own c.root.result) b pos lt ∙ ap own c.root.ensures
