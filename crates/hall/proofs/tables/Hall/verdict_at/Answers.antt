use Rattle.std.proofs.Common.{◌≡◌, rules}
use Rattle.rules.specs.Rules.{Judged}
use Rattle.network.specs.Cables.{around}
use Rattle.hall.specs.Hall.{far_in, records_in}
use Rattle.hall.proofs.Verdicts.{verdict_of_board}
use Rattle.hall.proofs.tables.Hall.verdict_at.Goals as goal

pub returns : goal.returns
returns g c =
    let k = g.L.Length.meaning in
    let h = c.args.self.now in
    let own : c.board.result.own ≡ records_in k h c.args.board = search rules in
    let judged : Judged k c.board.result.own (around (far_in h) (records_in k h) c.args.board) c.verdict.result = search rules in
    verdict_of_board k h c.args.board (search rules) (search rules) c.board.result.own own c.verdict.result judged
