use Rattle.sets.proofs.Bits.{has_without}
use Rattle.sets.proofs.without.Goals as goal

pub returns : goal.returns
returns c b = has_without c.args.set c.args.other b c.ranges.set.fits c.ranges.other.fits
