use Rattle.sets.proofs.Bits.{has_or}
use Rattle.sets.proofs.union.Goals as goal

pub returns : goal.returns
returns c = has_or c.args.set c.args.other
