-- The head of a frame, its first four bytes: its length and its kind.
use Rattle.std.specs.Prelude.{◌≡◌, ℕ, ◌+◌, ◌*◌, ◌<◌, ◌≤◌, List, length, Ok, Err, Result, slice_index}
use Rattle.frames.specs.declared.fault.FrameFault.{FrameFault}
use Rattle.frames.specs.declared.fault.FrameFault.TheVariants.{Short, Extent, Size, Field, Code}
use Rattle.frames.specs.declared.head.Head.{Head}

-- the length and the kind that stand at the front of a frame, the lower byte first
abbrev pub head_length : List ℕ → ℕ
head_length bytes = slice_index bytes 0 + slice_index bytes 1 * 256

abbrev pub head_kind : List ℕ → ℕ
head_kind bytes = slice_index bytes 2 + slice_index bytes 3 * 256

-- the bytes have a head, whose length is at least the head's and lies within them
pub record Whole (bytes : List ℕ) : Type 0 where
  pub head : 4 ≤ length bytes
  pub least : 4 ≤ head_length bytes
  pub within : head_length bytes ≤ length bytes

-- this is the head that the bytes begin with, and they go on for as long as it says
pub record HeadIs (bytes : List ℕ) (h : Head) : Type 0 where
  pub whole : Whole bytes
  pub size_is : h.size ≡ head_length bytes
  pub kind_is : h.kind ≡ head_kind bytes

-- why there is none: fewer than four bytes, and only then a length that does not fit
abbrev pub Headless : List ℕ → FrameFault → Type 0
Headless bytes Short = length bytes < 4
Headless bytes Extent = (4 ≤ length bytes) × (Whole bytes → ⊥)
Headless bytes Size = ⊥
Headless bytes Field = ⊥
Headless bytes Code = ⊥

-- what the bytes begin with, as far as their head says it
abbrev pub ReadsHead : List ℕ → Result Head FrameFault → Type 0
ReadsHead bytes (Ok h) = HeadIs bytes h
ReadsHead bytes (Err f) = Headless bytes f
