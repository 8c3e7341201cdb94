use Rattle.std.proofs.Common.{◌≡◌, ℕ, ◌<◌, get_or, rules}
use Rattle.frames.specs.Stream.{RecordHead}
use Rattle.board.specs.Hear.{Sole}
use Rattle.board.proofs.Slots.{is_frame}
use Rattle.board.proofs.hear.check_frame.Goals as goal

pub returns : goal.returns
returns g c =
    let bytes = c.args.bytes.now in
    let h = c.in_ok-size.ensures in
    let same : c.in_ok-fields.fields.now ≡ bytes = search rules in
    let small : (i : ℕ) → get_or bytes i 0 < 256 = λ i. (c.type_inv.bytes i).fits in
    let head : RecordHead bytes = search rules in
    let sole : Sole bytes = search rules in
    let read = c.in_ok-read_record.ensures in
    is_frame g.L.Length.meaning bytes _ _ _ same small head sole read.own_port read.body
