use Rattle.std.proofs.Common.{arith}
use Rattle.frames.proofs.Records.{writes}
use Rattle.frames.proofs.sent.write_frame.Goals as goal

pub returns : goal.returns
returns g c =
    let n = c.from-status.ensures in
    let d = c.code.ensures in
    let b = c.to_le_bytes.ensures in
    writes g.L.Length.lawful c.args.record c.args.port _ (omega arith) (grind arith)
