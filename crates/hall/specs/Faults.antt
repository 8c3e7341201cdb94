-- The refusals of a hall, by their numbers, and which of several comes first.
use Rattle.std.specs.Prelude.{ℕ, Bool, true, false, List, [], ◌∷◌, Some, None, Option}
use Rattle.hall.specs.declared.fault.Fault.{Fault}
use Rattle.hall.specs.declared.fault.Fault.TheVariants.{Size, Board, Port, SameBoard, Occupied, NoCable, Weight, Root, Record, Empty, Disabled}

abbrev pub fault_number : Fault → ℕ
fault_number Size = 1
fault_number Board = 2
fault_number Port = 3
fault_number SameBoard = 4
fault_number Occupied = 5
fault_number NoCable = 6
fault_number Weight = 7
fault_number Root = 8
fault_number Record = 9
fault_number Empty = 10
fault_number Disabled = 11

-- a call's checks in their order, each with whether it fails
abbrev pub Checks : Type 0
Checks = List (Fault × Bool)

-- where a check fails, the fault of the first that does
abbrev pub first_of : Fault → Bool → Option Fault → Option Fault
first_of f true later = Some f
first_of f false later = later

abbrev pub refusal : Checks → Option Fault
refusal [] = None
refusal (c ∷ cs) = first_of c.0 c.1 (refusal cs)
