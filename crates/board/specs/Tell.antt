-- How a board end tells its record.
use Rattle.std.specs.Prelude.{◌≡◌, ℕ, zero, suc, ◌+◌, ◌*◌, ◌<◌, ◌≤◌, cond, List, [], ◌++◌, length, drop, Ok, Err, Result}
use Rattle.lengths.specs.Kind.{Kind}
use Rattle.rules.specs.declared.record.Record.{Record}
use Rattle.frames.specs.Record.{frame_of}
use Rattle.board.specs.Station.{wired_at, own_of}
use Rattle.board.specs.declared.fault.EarFault.{EarFault}
use Rattle.board.specs.declared.fault.EarFault.TheVariants.{Room}
use Rattle.board.specs.declared.ports.Ports.{Ports}
use Rattle.board.specs.declared.states.Listening.{Listening}
use Rattle.board.specs.declared.states.Owing.{Owing}

-- how many ports below n are wired
abbrev pub wired_below : Ports → ℕ → ℕ
wired_below s zero = 0
wired_below s (suc p) = wired_below s p + cond (wired_at s p) 1 0

-- the frames of a record for the wired ports below n, each with its port as the sender's, in ascending order
abbrev pub frames_below : {V : Type 0} → Kind V → Record V → Ports → ℕ → List ℕ
frames_below k own s zero = []
frames_below k own s (suc p) = frames_below k own s p ++ cond (wired_at s p) (frame_of k own p) []

-- how many bytes a board with these ports tells: 16 for each wired port
abbrev pub tell_size : Ports → ℕ
tell_size s = 16 * wired_below s 8

-- the board's frames stand at the front of the output, what lies behind them is as it was, and the board listens again
pub record Told {V : Type 0} (k : Kind V) (before : Owing V) (out : List ℕ) (size : ℕ) (after : Listening V) (out' : List ℕ) : Type 0 where
  pub room : tell_size before.station.ports ≤ length out
  pub size_is : size ≡ tell_size before.station.ports
  pub out_is : out' ≡ frames_below k (own_of k before.station) before.station.ports 8 ++ drop size out
  pub same : after.station ≡ before.station
  pub silent : after.heard ≡ 0

-- tell
abbrev pub Tells : {V : Type 0} → Kind V → Owing V → List ℕ → Result (ℕ × Listening V) (Owing V × EarFault) → List ℕ → Type 0
Tells k before out (Ok r) out' = Told k before out r.0 r.1 out'
Tells k before out (Err r) out' = (r.1 ≡ Room) × (length out < tell_size before.station.ports) × (r.0 ≡ before) × (out' ≡ out)
