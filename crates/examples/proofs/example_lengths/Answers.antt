use Rattle.std.proofs.Common.{refl}
use Rattle.examples.proofs.Examples.{examples}
use Rattle.examples.proofs.example_lengths.Goals as goal

pub returns : goal.returns
returns c = record { settled = refl; examples = examples }
