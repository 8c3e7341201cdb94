use Rattle.std.proofs.Common.{refl}
use Rattle.hall.proofs.Judging.{found_all}
use Rattle.hall.proofs.tables.Hall.all_enabled.Goals as goal

pub returns : goal.returns
returns g c = found_all g.L.Length.meaning c.args.self.now c.args.set c.judge_again.result c.args.plans.now c.judge_again.new.plans c.judge_again.ensures c.ranges.set.fits _ refl
