-- Faults by their numbers.
use Rattle.std.specs.Prelude.{ℕ}
use Rattle.frames.specs.declared.fault.FrameFault.{FrameFault}
use Rattle.frames.specs.declared.fault.FrameFault.TheVariants.{Short, Extent, Size, Field, Code}

abbrev pub frame_fault_number : FrameFault → ℕ
frame_fault_number Short = 20
frame_fault_number Extent = 21
frame_fault_number Size = 22
frame_fault_number Field = 23
frame_fault_number Code = 24
