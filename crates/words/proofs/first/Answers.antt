use Rattle.std.proofs.Common.{◌-◌, ◌+◌, length, take, drop, inl, rules}
use Rattle.words.specs.Pieces.{First}
use Rattle.words.proofs.Cutting.{at_stop}
use Rattle.words.proofs.first.Goals as goal

pub returns-in-Some : goal.returns-in-Some
returns-in-Some c =
    let bytes = c.args.bytes.now in
    let at = c.in-Some.at in
    let parts = at_stop bytes at c.args.stop (search rules) (search rules) (search rules) in
    let cut : First c.args.stop (take at bytes) (take (length bytes - (at + 1)) (drop (at + 1) bytes)) bytes = (parts.0, inl parts.1) in
    search cut
