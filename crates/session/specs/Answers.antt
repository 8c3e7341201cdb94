-- The answer to a line, on the hall that the lines before it left.
use Rattle.std.specs.Prelude.{◌≡◌, ℕ, List, [], ◌∷◌, Some, None, Ok, Err, codes, decimal, Option, Result}
use Rattle.commands.specs.Commands.{Reading}
use Rattle.commands.specs.declared.command.Command.{Command}
use Rattle.commands.specs.declared.command.Command.TheVariants.{New, Wire, Cut, Plant, Turn, Settle, Tally, Show}
use Rattle.commands.specs.declared.command.Kind.{Kind}
use Rattle.commands.specs.declared.misread.Misread.{Misread}
use Rattle.hall.specs.declared.fault.Fault.{Fault}
use Rattle.session.specs.Halls.{MakesAny, ObeysAny, ShownAny}
use Rattle.session.specs.Texts.{text_line, counts_text, refusal_text}
use Rattle.session.specs.declared.fault.ScriptFault.{ScriptFault}
use Rattle.session.specs.declared.fault.ScriptFault.TheVariants.{NoHall, Misread as Misreading, Hall as Refusing}
use Rattle.session.specs.declared.halls.AnyHall.{AnyHall}
use Rattle.session.specs.declared.obey.Reply.{Reply}
use Rattle.session.specs.declared.obey.Reply.TheVariants.{Done, Moved, Counts, Boards}

-- new: where it is accepted, the new hall takes the place of the one before
abbrev pub Opens : Kind → ℕ → Option AnyHall → Result Reply ScriptFault → Option AnyHall → Type 0
Opens kind n before (Ok x) after = (hall : AnyHall) × (after ≡ Some hall) × (x ≡ Done) × MakesAny kind n (Ok hall)
Opens kind n before (Err e) after = (f : Fault) × (e ≡ Refusing f) × (after ≡ before) × MakesAny kind n (Err f)

-- every other command wants a hall
abbrev pub Commands : Command → Option AnyHall → Result Reply ScriptFault → Option AnyHall → Type 0
Commands command None r after = (r ≡ Err NoHall) × (after ≡ None)
Commands command (Some before) r after = (hall : AnyHall) × (after ≡ Some hall) × ObeysAny before command r hall

-- a command, on the hall as it is
abbrev pub Does : Command → Option AnyHall → Result Reply ScriptFault → Option AnyHall → Type 0
Does (New n kind) = Opens kind n
Does (Wire a p b q w) = Commands (Wire a p b q w)
Does (Cut b p) = Commands (Cut b p)
Does (Plant b status par code) = Commands (Plant b status par code)
Does (Turn boards) = Commands (Turn boards)
Does (Settle picker) = Commands (Settle picker)
Does (Tally b) = Commands (Tally b)
Does Show = Commands Show

-- a line that is no command is refused and changes nothing
abbrev pub Follows : Result Command Misread → Option AnyHall → Result Reply ScriptFault → Option AnyHall → Type 0
Follows (Err m) before r after = (r ≡ Err (Misreading m)) × (after ≡ before)
Follows (Ok command) before r after = Does command before r after

-- the answer to a line, and the hall that it leaves
abbrev pub Replies : List ℕ → Option AnyHall → Result Reply ScriptFault → Option AnyHall → Type 0
Replies line before r after = (reading : Result Command Misread) × Reading line reading × Follows reading before r after

-- the boards of the hall as it is, where there is one
abbrev pub Shown : Option AnyHall → List ℕ → Type 0
Shown None text = text ≡ []
Shown (Some hall) text = ShownAny hall text

-- the text of the answer to the line of this number
abbrev pub Printed : Option AnyHall → ℕ → Result Reply ScriptFault → List ℕ → Type 0
Printed hall number (Ok Done) text = text ≡ text_line (codes "ok" ∷ [])
Printed hall number (Ok (Moved m)) text = text ≡ text_line (codes "moved" ∷ decimal m ∷ [])
Printed hall number (Ok (Counts t)) text = text ≡ counts_text t
Printed hall number (Ok Boards) text = Shown hall text
Printed hall number (Err f) text = text ≡ refusal_text number f

-- the line of this number is answered by this text, and leaves the hall `after`
abbrev pub Answered : ℕ → List ℕ → Option AnyHall → Option AnyHall → List ℕ → Type 0
Answered number line before after text = (r : Result Reply ScriptFault) × Replies line before r after × Printed after number r text
