-- The refusals of a board end, by their numbers.
use Rattle.std.specs.Prelude.{ℕ}
use Rattle.frames.specs.Faults.{frame_fault_number}
use Rattle.board.specs.declared.fault.EarFault.{EarFault}
use Rattle.board.specs.declared.fault.EarFault.TheVariants.{Weight, Record, Frame, Alien, Unwired, Unheard, Room, Ear}

abbrev pub ear_fault_number : EarFault → ℕ
ear_fault_number Weight = 7
ear_fault_number Record = 9
ear_fault_number (Frame fault) = frame_fault_number fault
ear_fault_number Alien = 25
ear_fault_number Unwired = 26
ear_fault_number Unheard = 27
ear_fault_number Room = 28
ear_fault_number Ear = 29
