-- What a board end sees through its ear, and its move.
use Rattle.std.specs.Prelude.{◌≡◌, ℕ, ◌<◌, Bool, true, false, cond, ◌&&◌, List, Some, None, Option, ◌==◌, nat_le, slice_index}
use Rattle.lengths.specs.Kind.{Kind}
use Rattle.rules.specs.Rules.{Moves}
use Rattle.rules.specs.declared.neighbourhood.Seen.{Seen}
use Rattle.rules.specs.declared.record.Record.{Record}
use Rattle.network.specs.declared.End.{End}
use Rattle.hall.specs.Hall.{MoveOn}
use Rattle.rules.specs.Status.{status_of}
use Rattle.frames.specs.Record.{frame_of, code_in}
use Rattle.board.specs.Hear.{slot_at}
use Rattle.board.specs.Station.{weight_at, own_of}
use Rattle.board.specs.declared.ports.Ports.{Ports}
use Rattle.board.specs.declared.states.Owing.{Owing}
use Rattle.board.specs.declared.states.Ready.{Ready}

-- whether a slot's status, port and byte 7 are those of a record's frame
abbrev pub legible : List ℕ → Bool
legible slot = nat_le (slice_index slot 4) 3 && (nat_le (slice_index slot 6) 7 && slice_index slot 7 == 0)

-- what a slot shows over a cable of this weight, where its code is that of this length: the neighbour's par names the
-- cable where it is the port that the neighbour sent from
abbrev pub shown_by : {V : Type 0} → List ℕ → ℕ → Option V → Option (Seen V)
shown_by slot w None = None
shown_by slot w (Some length) = Some (record { status = status_of (slice_index slot 4); length = length; weight = w; named = (slice_index slot 5 == slice_index slot 6) })

-- what a port of this weight shows through its slot; one that is not wired shows nothing
abbrev pub sight : {V : Type 0} → Kind V → Option ℕ → List ℕ → Option (Seen V)
sight k None slot = None
sight k (Some w) slot = cond (legible slot) (shown_by slot w (k.decoded (code_in slot))) None

-- what a board with these ports sees through its ear
abbrev pub seen_in : {V : Type 0} → Kind V → Ports → List ℕ → ℕ → Option (Seen V)
seen_in k s ear p = sight k (weight_at s p) (slot_at ear p)

-- a board that is not the root has moved by the rules, and is the same board otherwise
pub record ByRules {V : Type 0} (k : Kind V) (before : Ready V) (after : Owing V) : Type 0 where
  pub common : after.station.root ≡ false
  pub ports : after.station.ports ≡ before.station.ports
  pub moves : Moves k (own_of k before.station) (seen_in k before.station.ports before.ear.now) after.verdict (own_of k after.station)

-- the root stays as it is
abbrev pub MovesAs : {V : Type 0} → Kind V → Bool → Ready V → Owing V → Type 0
MovesAs k true before after = (after.verdict ≡ None) × (after.station ≡ before.station)
MovesAs k false before after = ByRules k before after

-- advance
abbrev pub Advances : {V : Type 0} → Kind V → Ready V → Owing V → Type 0
Advances k before after = MovesAs k before.station.root before after

-- a port, by the far end of its cable: it has the cable's weight, and its slot the frame in which the board there tells its present record
abbrev pub HearsEnd : {V : Type 0} → Kind V → (ℕ → Record V) → Option End → Option ℕ → List ℕ → Type 0
HearsEnd k rec None w slot = w ≡ None
HearsEnd k rec (Some e) w slot = (w ≡ Some e.weight) × (e.port < 8) × (slot ≡ frame_of k (rec e.board) e.port)

-- the board is board b of n boards with these cables and records, and has heard its neighbours' present records
pub record UpToDate {V : Type 0} (k : Kind V) (n : ℕ) (far : ℕ → ℕ → Option End) (rec : ℕ → Record V) (b : ℕ) (board : Ready V) : Type 0 where
  pub there : b < n
  pub root_is : board.station.root ≡ (b == 0)
  pub own : own_of k board.station ≡ rec b
  pub ports : (p : ℕ) → HearsEnd k rec (far b p) (weight_at board.station.ports p) (slot_at board.ear.now p)

-- in any hall a board that is up to date moves as the hall moves it in a turn, and stays where the hall has no verdict for it
abbrev pub AsInHall : {V : Type 0} → Kind V → Ready V → Owing V → Type 0
AsInHall {V} k before after = (n : ℕ) (far : ℕ → ℕ → Option End) (rec : ℕ → Record V) (b : ℕ) → UpToDate k n far rec b before → MoveOn k n far rec b after.verdict (own_of k after.station)
