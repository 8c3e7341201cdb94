use Rattle.std.proofs.Common.{refl}
use Rattle.lengths.specs.MetresLaws.{same}
use Rattle.lengths.proofs.metres.measure.MetresLength.ceiling.Goals as goal

pub returns : goal.returns
returns c = same _ _ refl
