-- Streams of frames: what a frame tells, what is wrong with bytes that begin with none, and what a whole stream stands for.
use Rattle.std.specs.Prelude.{◌≡◌, ℕ, ◌+◌, ◌<◌, ◌≤◌, ◌≢◌, List, [], ◌∷◌, ◌++◌, length, take, drop, Ok, Err, Result, slice_index}
use Rattle.lengths.specs.Kind.{Kind}
use Rattle.rules.specs.Status.{number_of}
use Rattle.rules.specs.declared.record.Record.{Record}
use Rattle.frames.specs.Head.{head_length, head_kind, Whole}
use Rattle.frames.specs.Record.{frame_of, Unreadable}
use Rattle.frames.specs.declared.fault.FrameFault.{FrameFault}
use Rattle.frames.specs.declared.fault.FrameFault.TheVariants.{Short, Extent, Size, Field, Code}
use Rattle.frames.specs.declared.item.Framed.{Framed}
use Rattle.frames.specs.declared.item.Item.{Item}
use Rattle.frames.specs.declared.item.Item.TheVariants as item

-- what a frame tells: the numbers of a record and the sender's port, or the kind and the bytes of a frame of another kind
pub data Told : Type 0 where
  recorded : (status par port code : ℕ) → Told
  unknown : (kind : ℕ) (bytes : List ℕ) → Told

-- how a stream ends: after its last frame, or at a fault, with the place of the faulty frame's first byte
pub data End : Type 0 where
  ended : End
  stopped : (fault : FrameFault) (place : ℕ) → End

-- the frame is that of some record and port, and these are their numbers
pub record Recorded {V : Type 0} (k : Kind V) (frame : List ℕ) (status par port code : ℕ) : Type 0 where
  pub told : Record V
  pub own_port : port ≤ 7
  pub frame_is : frame ≡ frame_of k told port
  pub status_is : status ≡ number_of told.status
  pub par_is : par ≡ told.par
  pub code_is : code ≡ k.coded told.length

-- the bytes are the whole frame, whose length is the one in its head, and whose kind is this and not a record's
pub record OtherKind (frame : List ℕ) (kind : ℕ) (bytes : List ℕ) : Type 0 where
  pub whole : bytes ≡ frame
  pub long : 4 ≤ length frame
  pub length_is : head_length frame ≡ length frame
  pub kind_is : head_kind frame ≡ kind
  pub other : kind ≢ 1

-- what a frame tells
abbrev pub Tells : {V : Type 0} → Kind V → List ℕ → Told → Type 0
Tells k frame (recorded status par port code) = Recorded k frame status par port code
Tells k frame (unknown kind bytes) = OtherKind frame kind bytes

-- the bytes begin with a frame of a record's kind and length
pub record RecordHead (bytes : List ℕ) : Type 0 where
  pub whole : Whole bytes
  pub kind_is : head_kind bytes ≡ 1
  pub length_is : head_length bytes ≡ 16

-- what is wrong with bytes that begin with no frame: a fault has all that is looked at before it in order
abbrev pub Damage : {V : Type 0} → Kind V → List ℕ → FrameFault → Type 0
Damage k bytes Short = length bytes < 4
Damage k bytes Extent = (4 ≤ length bytes) × (Whole bytes → ⊥)
Damage k bytes Size = Whole bytes × (head_kind bytes ≡ 1) × (head_length bytes ≢ 16)
Damage k bytes Field = RecordHead bytes × Unreadable k bytes Field
Damage k bytes Code = RecordHead bytes × Unreadable k bytes Code

-- what the bytes from a place on, that have no frame at their front, end the stream with
abbrev pub Ends : {V : Type 0} → Kind V → ℕ → List ℕ → End → Type 0
Ends k place bytes ended = bytes ≡ []
Ends k place bytes (stopped fault at) = (at ≡ place) × (0 < length bytes) × Damage k bytes fault

-- the first n bytes are a frame, and this is what it tells
pub record First {V : Type 0} (k : Kind V) (bytes : List ℕ) (n : ℕ) (t : Told) : Type 0 where
  pub within : n ≤ length bytes
  pub tells : Tells k (take n bytes) t

-- what the bytes from a place on stand for: what each frame tells, one after the other, and how it ends
abbrev pub Stands : {V : Type 0} → Kind V → ℕ → List ℕ → List Told → End → Type 0
Stands k place bytes [] end = Ends k place bytes end
Stands k place bytes (t ∷ ts) end = (n : ℕ) × First k bytes n t × Stands k (place + n) (drop n bytes) ts end

-- each of them is a byte
abbrev pub Small : List ℕ → Type 0
Small bytes = (i : ℕ) → slice_index bytes i < 256

-- a whole stream stands for exactly one list of items and one end
pub record Meant {V : Type 0} (k : Kind V) (bytes : List ℕ) : Type 0 where
  pub items : List Told
  pub end : End
  pub stands : Stands k 0 bytes items end
  pub only : (ts : List Told) (e : End) → Stands k 0 bytes ts e → (ts ≡ items) × (e ≡ end)

-- an item as what it tells
abbrev pub told_of : Item → Told
told_of (item.Record status par port code) = recorded status par port code
told_of (item.Unknown kind bytes) = unknown kind bytes.now

-- the bytes begin with no frame, for this reason: with that of no record and port, whatever follows
pub record NoFrame {V : Type 0} (k : Kind V) (bytes : List ℕ) (f : FrameFault) : Type 0 where
  pub why : Damage k bytes f
  pub none : (q : Record V) (p : ℕ) (after : List ℕ) → p ≤ 7 → bytes ≢ frame_of k q p ++ after

-- what the bytes begin with
abbrev pub Begins : {V : Type 0} → Kind V → List ℕ → Result Framed FrameFault → Type 0
Begins k bytes (Ok f) = First k bytes f.size (told_of f.item)
Begins k bytes (Err f) = NoFrame k bytes f
