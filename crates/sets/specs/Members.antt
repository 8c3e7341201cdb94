-- Going through the boards of a set.
use Rattle.std.specs.Prelude.{◌≡◌, ℕ, ◌+◌, ◌<◌, ◌≤◌, false, Some, None, Option}
use Rattle.sets.specs.Sets.{has, LeastFrom}
use Rattle.sets.specs.declared.members.Members.{Members}

-- a step gives the least board that is left, one of the 64, and what is left then lies above it; nothing is given once no board is left
abbrev pub StepsOn : Members → Option ℕ → Members → Type 0
StepsOn before None after = (b : ℕ) → before.from ≤ b → has before.set b ≡ false
StepsOn before (Some b) after = LeastFrom before.set before.from b × (after.set ≡ before.set) × (after.from ≡ b + 1) × (b < 64)
