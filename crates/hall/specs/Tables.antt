-- The hall's tables, read as functions of boards and ports.
use Rattle.std.specs.Prelude.{◌≡◌, ℕ, ◌<◌, cond, List, [], length, None, Option, ◌==◌, slice_index_or}
use Rattle.lengths.specs.Kind.{Kind}
use Rattle.rules.specs.declared.record.Record.{Record}
use Rattle.rules.specs.Records.{root_of}
use Rattle.network.specs.declared.End.{End}

-- the far end of the cable at port p of board b
abbrev pub far_of : List (List (Option End)) → ℕ → ℕ → Option End
far_of ends b p = slice_index_or (slice_index_or ends b []) p None

-- a row of eight ports for each of 64 boards
abbrev pub Rows : List (List (Option End)) → Type 0
Rows ends = (b : ℕ) → b < 64 → length (slice_index_or ends b []) ≡ 8

-- board b's record; board 0's is always the root's
abbrev pub rec_of : {V : Type 0} → Kind V → List (Record V) → ℕ → Record V
rec_of k rs b = cond (b == 0) (root_of k) (slice_index_or rs b (root_of k))
