-- When a board end is ready to move.
use Rattle.std.specs.Prelude.{◌≡◌, ℕ, ◌<◌, true, false, ◌≢◌, List, length, Ok, Err, Result}
use Rattle.std.specs.Borrow.{Bor}
use Rattle.lengths.specs.Kind.{Kind}
use Rattle.sets.specs.Sets.{has}
use Rattle.board.specs.Hear.{slot_at, IsFrame, Misframed}
use Rattle.board.specs.Station.{wired_at}
use Rattle.board.specs.declared.fault.EarFault.{EarFault}
use Rattle.board.specs.declared.fault.EarFault.TheVariants.{Weight, Frame, Alien, Unwired, Unheard, Room, Ear}
use Rattle.board.specs.declared.fault.EarFault.TheVariants.{Record as BadRecord}
use Rattle.board.specs.declared.ports.Ports.{Ports}
use Rattle.board.specs.declared.states.Listening.{Listening}
use Rattle.board.specs.declared.states.Ready.{Ready}

-- every wired port was heard
abbrev pub AllHeard : Ports → ℕ → Type 0
AllHeard s heard = (p : ℕ) → wired_at s p ≡ true → has heard p ≡ true

-- some wired port was not
pub record SomeUnheard (s : Ports) (heard : ℕ) : Type 0 where
  pub port : ℕ
  pub wired : wired_at s port ≡ true
  pub unheard : has heard port ≡ false

-- the slot of every wired port below n holds the frame of a record
abbrev pub FramesBelow : {V : Type 0} → Kind V → Ports → List ℕ → ℕ → Type 0
FramesBelow k s ear n = (p : ℕ) → p < n → wired_at s p ≡ true → IsFrame k (slot_at ear p)

-- this is wrong with the first wired slot that does not
pub record FirstMisframed {V : Type 0} (k : Kind V) (s : Ports) (ear : List ℕ) (f : EarFault) : Type 0 where
  pub port : ℕ
  pub wired : wired_at s port ≡ true
  pub before : FramesBelow k s ear port
  pub why : Misframed k (slot_at ear port) f

-- the wired slots are looked at: each holds the frame of a record, or this is wrong with the first that does not
abbrev pub ChecksSlots : {V : Type 0} → Kind V → Ports → List ℕ → Result (Unit {0}) EarFault → Type 0
ChecksSlots k s ear (Ok _) = FramesBelow k s ear 8
ChecksSlots k s ear (Err f) = FirstMisframed k s ear f

-- the ear is whole, every wired port was heard, and every wired slot holds a record's frame
pub record Complete {V : Type 0} (k : Kind V) (l : Listening V) (ear : List ℕ) : Type 0 where
  pub whole : length ear ≡ 128
  pub heard : AllHeard l.station.ports l.heard
  pub frames : FramesBelow k l.station.ports ear 8

-- a board over this ear, whose wired ports were all heard and whose wired slots all hold a record's frame
pub record IsReady {V : Type 0} (k : Kind V) (before : Listening V) (ear : List ℕ) (after : Ready V) : Type 0 where
  pub complete : Complete k before ear
  pub same : after.station ≡ before.station
  pub ear_is : after.ear.now ≡ ear

-- why a board is not ready: the ear, then a port that was not heard, then the first slot with no record's frame
abbrev pub Unready : {V : Type 0} → Kind V → Listening V → List ℕ → EarFault → Type 0
Unready k l ear Ear = length ear ≢ 128
Unready k l ear Unheard = (length ear ≡ 128) × SomeUnheard l.station.ports l.heard
Unready k l ear (Frame f) = (length ear ≡ 128) × AllHeard l.station.ports l.heard × FirstMisframed k l.station.ports ear (Frame f)
Unready k l ear Alien = (length ear ≡ 128) × AllHeard l.station.ports l.heard × FirstMisframed k l.station.ports ear Alien
Unready k l ear Weight = ⊥
Unready k l ear BadRecord = ⊥
Unready k l ear Unwired = ⊥
Unready k l ear Room = ⊥

-- the board and its ear are looked at: all is there, and the answer is the ear, or why the board is not ready
abbrev pub ChecksReady : {V : Type 0} → Kind V → Listening V → List ℕ → Result (Bor (List ℕ)) EarFault → Type 0
ChecksReady k l ear (Ok lent) = Complete k l ear × (lent.now ≡ ear)
ChecksReady k l ear (Err f) = Unready k l ear f

-- ready
abbrev pub Readies : {V : Type 0} → Kind V → Listening V → List ℕ → Result (Ready V) (Listening V × EarFault) → Type 0
Readies k before ear (Ok after) = IsReady k before ear after
Readies k before ear (Err r) = Unready k before ear r.1 × (r.0 ≡ before)
