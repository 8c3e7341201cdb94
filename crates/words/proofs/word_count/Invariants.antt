use Rattle.std.proofs.Common.{◌≡◌, length, map}
use Rattle.std.specs.List.{AllByRecursion}
use Rattle.words.specs.Words.{Word}
use Rattle.words.proofs.word_count.Given as goal

abbrev pub invariant-loop-word : goal.invariant-loop-word
invariant-loop-word l = (l.count ≡ length l.yielded) × AllByRecursion Word (map (λ w. w.now) l.yielded)
