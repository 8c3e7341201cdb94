-- What the reader of a stream promises at each step, and what a survey of a stream finds.
use Rattle.std.specs.Prelude.{◌≡◌, ℕ, ◌+◌, ◌<◌, List, [], ◌∷◌, length, drop, Some, None, Ok, Err, Option, Result}
use Rattle.lengths.specs.Kind.{Kind}
use Rattle.frames.specs.Stream.{Told, recorded, unknown, End, ended, stopped, Damage, First, Stands, Small, Meant, told_of}
use Rattle.frames.specs.declared.item.Item.{Item}
use Rattle.frames.specs.declared.reader.Fault.{Fault}
use Rattle.frames.specs.declared.reader.Reader.{Reader}
use Rattle.frames.specs.declared.survey.Survey.{Survey}

-- the bytes that a reader has not read yet
abbrev pub left : {V : Type 0} → Reader V → List ℕ
left r = drop r.place r.input.now

-- a reader at the first of these, which are bytes and so stand for one list of items
pub record Opens {V : Type 0} (k : Kind V) (bytes : List ℕ) (r : Reader V) : Type 0 where
  pub input_is : r.input.now ≡ bytes
  pub place_is : r.place ≡ 0
  pub meant : Small bytes → Meant k bytes

-- a frame was read, and the reader stands behind it
pub record Passed {V : Type 0} (k : Kind V) (before : Reader V) (t : Told) (after : Reader V) : Type 0 where
  pub size : ℕ
  pub some : 0 < size
  pub first : First k (left before) size t
  pub same : after.input.now ≡ before.input.now
  pub moved : after.place ≡ before.place + size

-- a frame cannot be read, and the reader still stands before it
pub record Halted {V : Type 0} (k : Kind V) (before : Reader V) (f : Fault) (after : Reader V) : Type 0 where
  pub place_is : f.place ≡ before.place
  pub more : 0 < length (left before)
  pub why : Damage k (left before) f.fault
  pub stays : after ≡ before

-- one step of a reader
abbrev pub Steps : {V : Type 0} → Kind V → Reader V → Option (Result Item Fault) → Reader V → Type 0
Steps k before None after = (left before ≡ []) × (after ≡ before)
Steps k before (Some (Ok i)) after = Passed k before (told_of i) after
Steps k before (Some (Err f)) after = Halted k before f after

-- at the end and at a fault every later step gives the same and moves nothing
abbrev pub Repeats : {V : Type 0} → Kind V → Option (Result Item Fault) → Reader V → Type 0
Repeats {V} k None after = (next : Option (Result Item Fault)) (last : Reader V) → Steps k after next last → (next ≡ None) × (last ≡ after)
Repeats {V} k (Some (Ok i)) after = Unit {0}
Repeats {V} k (Some (Err f)) after = (next : Option (Result Item Fault)) (last : Reader V) → Steps k after next last → (next ≡ Some (Err f)) × (last ≡ after)

-- what the bytes that are left stand for begins with this item, and the rest is what is left then
pub record Headed {V : Type 0} (k : Kind V) (t : Told) (ts : List Told) (end : End) (after : Reader V) : Type 0 where
  pub rest : List Told
  pub begins : ts ≡ t ∷ rest
  pub stands : Stands k after.place (left after) rest end

-- an answer of the reader, where what is left stands for these items and this end
abbrev pub Gives : {V : Type 0} → Kind V → Option (Result Item Fault) → List Told → End → Reader V → Type 0
Gives k None ts end after = (ts ≡ []) × (end ≡ ended)
Gives k (Some (Ok i)) ts end after = Headed k (told_of i) ts end after
Gives k (Some (Err f)) ts end after = (ts ≡ []) × (end ≡ stopped f.fault f.place)

-- 1 for a record's frame, and 1 for a frame of another kind
abbrev pub one_record : Told → ℕ
one_record (recorded _ _ _ _) = 1
one_record (unknown _ _) = 0

abbrev pub one_unknown : Told → ℕ
one_unknown (recorded _ _ _ _) = 0
one_unknown (unknown _ _) = 1

-- how many are counted
abbrev pub count : (Told → ℕ) → List Told → ℕ
count one [] = 0
count one (t ∷ ts) = one t + count one ts

-- the fault that a stream ends with, if any
abbrev pub fault_at : End → Option Fault
fault_at ended = None
fault_at (stopped fault place) = Some (record { place = place; fault = fault })

-- the numbers of what the bytes stand for
pub record Surveyed {V : Type 0} (k : Kind V) (bytes : List ℕ) (s : Survey) : Type 0 where
  pub meant : Meant k bytes
  pub records_are : s.records ≡ count one_record meant.items
  pub unknown_are : s.unknown ≡ count one_unknown meant.items
  pub stop_is : s.stop ≡ fault_at meant.end
