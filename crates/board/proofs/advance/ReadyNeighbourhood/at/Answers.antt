use Rattle.std.proofs.Common.{◌≡◌, Some, rules, ap, ◌∙◌}
use Rattle.board.specs.Hear.{slot_at}
use Rattle.board.specs.Station.{weight_at}
use Rattle.board.proofs.Sights.{seen_told}
use Rattle.board.proofs.advance.ReadyNeighbourhood.at.Goals as goal

pub returns : goal.returns
returns g c =
    let me = c.args.self.now in
    let wired : weight_at me.station.ports c.args.port ≡ Some c.in_ok-weight.weight = search rules in
    let same : c.in_ok-fields.fields.now ≡ slot_at me.ear.now c.args.port = search rules in
    ap Some c.of.ensures ∙ seen_told g.L.Length.lawful me.station.ports me.ear.now _ c.args.port _ _ c.in_ok-sent.sent wired same c.read_record.ensures c.in_ok-sent.ensures.value
