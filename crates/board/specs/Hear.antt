-- Hearing a frame: what an ear holds, which bytes are a record's frame, and what hear does.
use Rattle.std.specs.Prelude.{◌≡◌, ℕ, ◌*◌, ◌≤◌, true, false, ◌||◌, ◌≢◌, List, ◌++◌, length, take, drop, Ok, Err, Result, ◌==◌}
use Rattle.lengths.specs.Kind.{Kind}
use Rattle.rules.specs.declared.record.Record.{Record}
use Rattle.sets.specs.Sets.{has}
use Rattle.frames.specs.Record.{frame_of}
use Rattle.frames.specs.Head.{head_length, head_kind, Whole}
use Rattle.frames.specs.Stream.{Damage}
use Rattle.frames.specs.declared.fault.FrameFault.TheVariants.{Short, Extent, Size, Field, Code}
use Rattle.board.specs.Station.{wired_at}
use Rattle.board.specs.declared.fault.EarFault.{EarFault}
use Rattle.board.specs.declared.fault.EarFault.TheVariants.{Weight, Frame, Alien, Unwired, Unheard, Room, Ear}
use Rattle.board.specs.declared.fault.EarFault.TheVariants.{Record as BadRecord}
use Rattle.board.specs.declared.states.Listening.{Listening}

-- the slot of port p in an ear: 16 bytes from byte 16 p on
abbrev pub slot_at : List ℕ → ℕ → List ℕ
slot_at ear p = take 16 (drop (16 * p) ear)

-- the ear with these 16 bytes in the slot of port p, and every other byte as it was
abbrev pub put : List ℕ → ℕ → List ℕ → List ℕ
put ear p frame = take (16 * p) ear ++ (frame ++ drop 16 (drop (16 * p) ear))

-- the bytes are the frame of a record that left by a port, and nothing else
pub record IsFrame {V : Type 0} (k : Kind V) (bytes : List ℕ) : Type 0 where
  pub told : Record V
  pub port : ℕ
  pub own_port : port ≤ 7
  pub frame_is : bytes ≡ frame_of k told port

-- one frame of a record's kind, and nothing behind it
pub record Sole (bytes : List ℕ) : Type 0 where
  pub kind_is : head_kind bytes ≡ 1
  pub all : head_length bytes ≡ length bytes

-- what keeps bytes from being a record's frame: a fault has all that is looked at before it in order
abbrev pub Misframed : {V : Type 0} → Kind V → List ℕ → EarFault → Type 0
Misframed k bytes (Frame Short) = Damage k bytes Short
Misframed k bytes (Frame Extent) = Damage k bytes Extent
Misframed k bytes Alien = Whole bytes × (Sole bytes → ⊥)
Misframed k bytes (Frame Size) = Sole bytes × Damage k bytes Size
Misframed k bytes (Frame Field) = Sole bytes × Damage k bytes Field
Misframed k bytes (Frame Code) = Sole bytes × Damage k bytes Code
Misframed k bytes Weight = ⊥
Misframed k bytes BadRecord = ⊥
Misframed k bytes Unwired = ⊥
Misframed k bytes Unheard = ⊥
Misframed k bytes Room = ⊥
Misframed k bytes Ear = ⊥

-- the bytes are looked at: a record's frame, or what keeps them from being one
abbrev pub ChecksFrame : {V : Type 0} → Kind V → List ℕ → Result (Unit {0}) EarFault → Type 0
ChecksFrame k bytes (Ok _) = IsFrame k bytes
ChecksFrame k bytes (Err f) = Misframed k bytes f

-- one port more was heard, and nothing else is new
pub record HeardOne {V : Type 0} (before : Listening V) (port : ℕ) (after : Listening V) : Type 0 where
  pub same : after.station ≡ before.station
  pub heard : (p : ℕ) → has after.heard p ≡ (has before.heard p || p == port)

-- an ear has 128 bytes, and then the port is wired
abbrev pub Audible : {V : Type 0} → Listening V → List ℕ → ℕ → Type 0
Audible l ear port = (length ear ≡ 128) × (wired_at l.station.ports port ≡ true)

-- why a frame is not heard: the ear, then the port, then the frame
abbrev pub Unhearable : {V : Type 0} → Kind V → Listening V → List ℕ → ℕ → List ℕ → EarFault → Type 0
Unhearable k l ear port frame Ear = length ear ≢ 128
Unhearable k l ear port frame Unwired = (length ear ≡ 128) × (wired_at l.station.ports port ≡ false)
Unhearable k l ear port frame (Frame f) = Audible l ear port × Misframed k frame (Frame f)
Unhearable k l ear port frame Alien = Audible l ear port × Misframed k frame Alien
Unhearable k l ear port frame Weight = ⊥
Unhearable k l ear port frame BadRecord = ⊥
Unhearable k l ear port frame Unheard = ⊥
Unhearable k l ear port frame Room = ⊥

-- hear
abbrev pub Hears : {V : Type 0} → Kind V → Listening V → List ℕ → ℕ → List ℕ → Result (Listening V) (Listening V × EarFault) → List ℕ → Type 0
Hears k before ear port frame (Ok after) ear' = Audible before ear port × IsFrame k frame × HeardOne before port after × (ear' ≡ put ear port frame)
Hears k before ear port frame (Err r) ear' = Unhearable k before ear port frame r.1 × (r.0 ≡ before) × (ear' ≡ ear)
