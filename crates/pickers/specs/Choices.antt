-- What a picker may choose, and what All and Ring choose.
use Rattle.std.specs.Prelude.{◌≡◌, ℕ, zero, suc, ◌+◌, ◌^◌, ◌<◌, Bool, true, false, Some, None, Option}
use Rattle.sets.specs.Sets.{has}
use Rattle.pickers.specs.declared.all.All.{All}
use Rattle.pickers.specs.declared.ring.Ring.{Ring}

-- the choice holds only boards of the set, and is empty only when the set is
pub record Chooses (choice s : ℕ) : Type 0 where
  pub small : choice < 2 ^ 64
  pub within : (b : ℕ) → has choice b ≡ true → has s b ≡ true
  pub some : choice ≡ 0 → s ≡ 0

-- All chooses the whole set
abbrev pub pick_all : All → ℕ → ℕ × All
pick_all p s = (s, p)

-- the first, or else the later
abbrev pub or_else : Option ℕ → Option ℕ → Option ℕ
or_else (Some b) later = Some b
or_else None later = later

-- board b where it is in the set
abbrev pub if_there : Bool → ℕ → Option ℕ
if_there true b = Some b
if_there false b = None

-- the least board of s among the n from `from` on
abbrev pub least_of : ℕ → ℕ → ℕ → Option ℕ
least_of zero s from = None
least_of (suc n) s from = or_else (if_there (has s from) from) (least_of n s (suc from))

-- the least board of s above the last one, else the least
abbrev pub following : ℕ → ℕ → Option ℕ
following s last = or_else (least_of 64 s (last + 1)) (least_of 64 s 0)

-- Ring chooses that board alone and remembers it; of the empty set it chooses nobody and stays as it was
abbrev pub choose_one : Ring → Option ℕ → ℕ × Ring
choose_one p (Some b) = (2 ^ b, record { last = b })
choose_one p None = (0, p)

abbrev pub pick_ring : Ring → ℕ → ℕ × Ring
pick_ring p s = choose_one p (following s p.last)
