use Rattle.rules.proofs.Least.{LeastBelow}
use Rattle.rules.proofs.offers.least_offer.Given as goal

abbrev pub invariant-loop-port : goal.invariant-loop-port
invariant-loop-port g l = LeastBelow g.L.Length.meaning (g.N.Neighbourhood.seen l.near) l.port l.best
