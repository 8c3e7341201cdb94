-- What a frame of a record's kind is taken for, before its head is looked at again.
use Rattle.std.specs.Prelude.{◌≡◌, ℕ, ◌≤◌, ◌≢◌, List, length, drop, Ok, Err, Result}
use Rattle.lengths.specs.Kind.{Kind}
use Rattle.rules.specs.Status.{number_of}
use Rattle.rules.specs.declared.record.Record.{Record}
use Rattle.frames.specs.Record.{body_of, Unreadable}
use Rattle.frames.specs.Stream.{Told, recorded, unknown, told_of}
use Rattle.frames.specs.declared.fault.FrameFault.{FrameFault}
use Rattle.frames.specs.declared.fault.FrameFault.TheVariants.{Short, Extent, Size, Field, Code}
use Rattle.frames.specs.declared.item.Item.{Item}

-- after its head the frame has the body of some record and port, and these are their numbers
pub record Bodied {V : Type 0} (k : Kind V) (frame : List ℕ) (status par port code : ℕ) : Type 0 where
  pub told : Record V
  pub length_is : length frame ≡ 16
  pub own_port : port ≤ 7
  pub body : drop 4 frame ≡ body_of k told port
  pub status_is : status ≡ number_of told.status
  pub par_is : par ≡ told.par
  pub code_is : code ≡ k.coded told.length

abbrev pub TellsBody : {V : Type 0} → Kind V → List ℕ → Told → Type 0
TellsBody k frame (recorded status par port code) = Bodied k frame status par port code
TellsBody k frame (unknown kind bytes) = ⊥

-- why it has none: its length first
abbrev pub BodyDamage : {V : Type 0} → Kind V → List ℕ → FrameFault → Type 0
BodyDamage k frame Short = ⊥
BodyDamage k frame Extent = ⊥
BodyDamage k frame Size = length frame ≢ 16
BodyDamage k frame Field = (length frame ≡ 16) × Unreadable k frame Field
BodyDamage k frame Code = (length frame ≡ 16) × Unreadable k frame Code

abbrev pub RecordItem : {V : Type 0} → Kind V → List ℕ → Result Item FrameFault → Type 0
RecordItem k frame (Ok i) = TellsBody k frame (told_of i)
RecordItem k frame (Err f) = BodyDamage k frame f
