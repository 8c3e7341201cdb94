-- The boards that a turn names.
use Rattle.std.specs.Prelude.{◌≡◌, ℕ, ◌^◌, ◌<◌, ◌≤◌, true, List, Decides}
use Rattle.std.specs.List.{ContainsAt as Has}
use Rattle.sets.specs.Sets.{has}
use Rattle.commands.specs.declared.boards.Boards.{Boards}

-- the set is just those of the numbers that are below 64, and `beyond` tells whether any other is among them
pub record SetOf (boards : Boards) (ns : List ℕ) : Type 0 where
  pub small : boards.set < 2 ^ 64
  pub named : (i : ℕ) → i < 64 → has boards.set i ≡ true → Has ns i
  pub held : (i : ℕ) → i < 64 → Has ns i → has boards.set i ≡ true
  pub others : Decides boards.beyond ((n : ℕ) × (64 ≤ n) × Has ns n)
