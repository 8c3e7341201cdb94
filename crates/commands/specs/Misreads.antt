-- Why a line is refused, as the bench writes it.
use Rattle.std.specs.Prelude.{ℕ}
use Rattle.commands.specs.declared.misread.Misread.{Misread}
use Rattle.commands.specs.declared.misread.Misread.TheVariants.{Malformed, Unknown, Count, Field}

-- the number of a refusal
abbrev pub number_of : Misread → ℕ
number_of Malformed = 30
number_of Unknown = 31
number_of Count = 32
number_of (Field byte) = 33

-- the byte that a refusal points at, counted from 1 in the line
abbrev pub byte_of : Misread → ℕ
byte_of Malformed = 1
byte_of Unknown = 1
byte_of Count = 1
byte_of (Field byte) = byte
