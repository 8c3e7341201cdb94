use Rattle.std.proofs.Common.{rules}
use Rattle.std.proofs.lemmas.Nat.{shr_le}
use Rattle.sets.proofs.Bits.{least_from}
use Rattle.sets.proofs.least_from.Goals as goal

pub returns : goal.returns
returns c = search (rules, least_from c.args.set c.args.from, shr_le c.args.set c.args.from)
