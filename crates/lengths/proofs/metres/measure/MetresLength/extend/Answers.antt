use Rattle.std.proofs.Common.{◌≡◌, true, rules, sym}
use Rattle.lengths.specs.Metres.{metres}
use Rattle.lengths.specs.MetresLaws.{adds}
use Rattle.lengths.proofs.metres.measure.MetresLength.extend.Goals as goal

pub returns : goal.returns
returns c = let admitted : metres.admitted c.args.weight ≡ true = search rules in sym (adds c.args.self _ c.args.weight _ admitted c.in_ok-value.ensures.1)
