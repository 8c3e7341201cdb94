use Rattle.sets.proofs.Bits.{counted}
use Rattle.sets.proofs.size.Goals as goal

pub returns : goal.returns
returns c = counted c.args.set c.ranges.set.fits
