use Rattle.std.proofs.Common.{◌+◌, string_bytes}
use Rattle.std.specs.Iterator.Adapters.{enumerate_source, enumerate_count}
use Rattle.session.proofs.Answering.{GoesOn}
use Rattle.session.proofs.session.answers.Given as goal

abbrev pub invariant-loop-index : goal.invariant-loop-index
invariant-loop-index l = (goal.iterator-loop-index).can_next l.index-iterator × (goal.iterator-loop-index).is_finite l.index-iterator × GoesOn l.script (enumerate_source l.index-iterator).rest.now (enumerate_count l.index-iterator + 1) l.session.hall (string_bytes l.out)
