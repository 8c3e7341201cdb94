use Rattle.hall.proofs.Nearby.{enabled_anew, planned_anew}
use Rattle.hall.proofs.tables.Hall.enabled_after.Goals as goal

pub returns : goal.returns
returns g c =
    let k = g.L.Length.meaning in
    let new = c.args.self.now in
    let s = c.args.before in
    let r = c.judge_again.result in
    let plans = c.args.plans.now in
    let after = c.judge_again.new.plans in
    record {
      enabled = λ old e turned. enabled_anew k old new c.args.moved c.near-near.result turned c.near-near.ensures s r plans after e c.judge_again.ensures;
      planned = λ old p turned. planned_anew k old new c.args.moved c.near-near.result turned c.near-near.ensures s r plans after p c.judge_again.ensures;
    }
