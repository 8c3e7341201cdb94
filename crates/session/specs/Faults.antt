-- The refusals of a script's lines.
use Rattle.std.specs.Prelude.{ℕ}
use Rattle.commands.specs.Misreads.{number_of, byte_of}
use Rattle.hall.specs.Faults.{fault_number}
use Rattle.session.specs.declared.fault.ScriptFault.{ScriptFault}
use Rattle.session.specs.declared.fault.ScriptFault.TheVariants.{Misread, NoHall, Hall}

-- the number of a refusal
abbrev pub script_number : ScriptFault → ℕ
script_number (Misread m) = number_of m
script_number NoHall = 34
script_number (Hall f) = fault_number f

-- the byte of the line that a refusal points at, counted from 1
abbrev pub script_byte : ScriptFault → ℕ
script_byte (Misread m) = byte_of m
script_byte NoHall = 1
script_byte (Hall f) = 1
