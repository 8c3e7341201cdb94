use Rattle.std.proofs.Common.{sym, arith}
use Rattle.hall.proofs.CableLaw.{in_table}
use Rattle.hall.proofs.view.AroundNeighbourhood.at.Goals as goal

pub record_at-record-requires : goal.record_at-record-requires
record_at-record-requires g c =
    let self = c.args.self.now in
    let cab = self.cabling.now in
    let i = in_table cab.wired cab.few self.board c.from.result c.in_ok-end.end (sym c.in_ok-end.ensures) in
    omega (arith, i, self.whole)
