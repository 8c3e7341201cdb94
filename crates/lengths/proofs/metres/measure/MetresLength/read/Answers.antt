use Rattle.std.proofs.Common.{rules, sym}
use native.Mathlib.Decide.{dec_lt}
use Rattle.lengths.specs.MetresLaws.{gives}
use Rattle.lengths.proofs.metres.measure.MetresLength.read.Goals as goal

pub returns : goal.returns
returns c = sym (gives _ c.args.code (dec_lt _ _) (search rules))
