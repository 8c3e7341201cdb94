-- The frame of a record: which bytes it is, and what a record frame's bytes tell.
use Rattle.std.specs.Prelude.{◌≡◌, ℕ, ◌+◌, ◌*◌, ◌/◌, ◌%◌, ◌<◌, ◌≤◌, List, [], ◌∷◌, drop, Some, None, Ok, Err, Option, Result, ◌≢◌, slice_index, slice_index_or}
use Rattle.lengths.specs.Kind.{Kind}
use Rattle.rules.specs.Status.{number_of}
use Rattle.rules.specs.declared.record.Record.{Record}
use Rattle.frames.specs.declared.fault.FrameFault.{FrameFault}
use Rattle.frames.specs.declared.fault.FrameFault.TheVariants.{Short, Extent, Size, Field, Code}
use Rattle.frames.specs.declared.sent.Sent.{Sent}

-- the eight bytes of a number, the lowest first
abbrev pub eight_bytes : ℕ → List ℕ
eight_bytes n = (n % 256) ∷ (n / 256 % 256) ∷ (n / 65536 % 256) ∷ (n / 16777216 % 256) ∷ (n / 4294967296 % 256) ∷ (n / 1099511627776 % 256) ∷ (n / 281474976710656 % 256) ∷ (n / 72057594037927936 % 256) ∷ []

-- what a record frame has after its length and its kind: status, par, port, a byte 0, and the code of the length
abbrev pub body_of : {V : Type 0} → Kind V → Record V → ℕ → List ℕ
body_of k r port = number_of r.status ∷ r.par ∷ port ∷ 0 ∷ eight_bytes (k.coded r.length)

-- the frame of a record that leaves by a port: length 16, kind 1, and the body
abbrev pub frame_of : {V : Type 0} → Kind V → Record V → ℕ → List ℕ
frame_of k r port = 16 ∷ 0 ∷ 1 ∷ 0 ∷ body_of k r port

-- a status, a port and a byte 7 as a record frame may have them
pub record Fields (frame : List ℕ) : Type 0 where
  pub status : slice_index_or frame 4 0 ≤ 3
  pub port : slice_index_or frame 6 0 ≤ 7
  pub blank : slice_index_or frame 7 0 ≡ 0

-- the code that stands in a record frame, the lowest byte first
abbrev pub code_in : List ℕ → ℕ
code_in f = slice_index f 8 + slice_index f 9 * 256 + slice_index f 10 * 65536 + slice_index f 11 * 16777216 + slice_index f 12 * 4294967296 + slice_index f 13 * 1099511627776 + slice_index f 14 * 281474976710656 + slice_index f 15 * 72057594037927936

-- what is wrong with a record frame that tells no record: a field first, and only then the code
abbrev pub Unreadable : {V : Type 0} → Kind V → List ℕ → FrameFault → Type 0
Unreadable k frame Short = ⊥
Unreadable k frame Extent = ⊥
Unreadable k frame Size = ⊥
Unreadable k frame Field = Fields frame → ⊥
Unreadable k frame Code = Fields frame × (k.decoded (code_in frame) ≡ None)

-- the fields are those of this record and port, and of no other
pub record Accepted {V : Type 0} (k : Kind V) (frame : List ℕ) (r : Record V) (port : ℕ) : Type 0 where
  pub own_port : port ≤ 7
  pub body : drop 4 frame ≡ body_of k r port
  pub only : (q : Record V) (p : ℕ) → drop 4 frame ≡ body_of k q p → (q ≡ r) × (p ≡ port)

-- the fields are those of no record and port, for this reason
pub record Refused {V : Type 0} (k : Kind V) (frame : List ℕ) (f : FrameFault) : Type 0 where
  pub why : Unreadable k frame f
  pub none : (q : Record V) (p : ℕ) → p ≤ 7 → drop 4 frame ≢ body_of k q p

-- what the fields of a record frame tell
abbrev pub Reads : {V : Type 0} → Kind V → List ℕ → Result (Sent V) FrameFault → Type 0
Reads k frame (Ok s) = Accepted k frame s.«record» s.port
Reads k frame (Err f) = Refused k frame f

-- the bytes are the frame of this record and port, and are read as nothing else
pub record Written {V : Type 0} (k : Kind V) (r : Record V) (port : ℕ) (bytes : List ℕ) : Type 0 where
  pub own_port : port ≤ 7
  pub frame : bytes ≡ frame_of k r port
  pub back : (x : Result (Sent V) FrameFault) → Reads k bytes x → x ≡ Ok (record { «record» = r; port = port })

-- what is written for a record and a port: its frame, or nothing where a board has no such port
abbrev pub Writes : {V : Type 0} → Kind V → Record V → ℕ → Option (List ℕ) → Type 0
Writes k r port None = 7 < port
Writes k r port (Some bytes) = Written k r port bytes
