use Rattle.hall.proofs.Judging.{all_found}
use Rattle.hall.proofs.tables.Hall.judge_all.Goals as goal

pub returns : goal.returns
returns g c =
    let found = all_found g.L.Length.meaning c.args.self.now c.judge_again.result c.args.plans.now c.judge_again.new.plans c.judge_again.ensures in
    record { enabled = found.0; planned = found.1 }
