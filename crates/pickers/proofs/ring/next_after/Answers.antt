use Rattle.std.proofs.Common.{◌≡◌, ℕ, ◌+◌, ◌^◌, ◌<◌, ◌≤◌, min, false, Some, None, Option, MatchOption, sym, ◌∙◌, arith, rules}
use Rattle.sets.specs.Sets.{has, LeastFrom}
use Rattle.pickers.specs.Choices.{following}
use Rattle.pickers.specs.Seeking.{above, over_again}
use Rattle.pickers.proofs.ring.next_after.Goals as goal

-- what the search above the last board found, or else the search from the start
found : (s last from : ℕ) (first r : Option ℕ) (Else : Type 0) → s < 2 ^ 64 → from ≡ min (last + 1) 4294967295 → MatchOption first ((b : ℕ) → from ≤ b → has s b ≡ false) (LeastFrom s from) → MatchOption first Else (λ b. r ≡ Some b) → (Else → MatchOption r ((b : ℕ) → 0 ≤ b → has s b ≡ false) (LeastFrom s 0)) → r ≡ following s last
found s last from None r Else small onward none c over = over_again s last from r small onward none (over c)
found s last from (Some b) r Else small onward l c over = c ∙ sym (above s last from b small onward l)

pub returns : goal.returns
returns c = found c.args.set c.args.last _ c.least_from.result c.or_else.result _ c.ranges.set.fits (omega arith) c.least_from.ensures c.or_else.ensures (λ anew. search rules)
