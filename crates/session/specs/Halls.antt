-- Halls of any kind of length.
use Rattle.std.specs.Prelude.{◌≡◌, ℕ, List, Ok, Err, Result}
use Rattle.lengths.specs.Grade.{grade}
use Rattle.lengths.specs.Kind.{Kind}
use Rattle.lengths.specs.Metres.{metres}
use Rattle.commands.specs.declared.command.Command.{Command}
use Rattle.commands.specs.declared.command.Kind.{Kind as KindName}
use Rattle.commands.specs.declared.command.Kind.TheVariants as name
use Rattle.hall.specs.Hall.{Makes}
use Rattle.hall.specs.declared.fault.Fault.{Fault}
use Rattle.hall.specs.declared.tables.Hall.{Hall}
use Rattle.session.specs.declared.fault.ScriptFault.{ScriptFault}
use Rattle.session.specs.declared.halls.AnyHall.{AnyHall}
use Rattle.session.specs.declared.halls.AnyHall.TheVariants.{Metres, Grade}
use Rattle.session.specs.declared.obey.Reply.{Reply}
use Rattle.session.specs.Replies.{Obeys}
use Rattle.session.specs.Texts.{ShownFrom}

-- r is a hall of one kind among halls of any, or the fault, as the hall's own making tells
abbrev pub MakesAs : {V : Type 0} → Kind V → (Hall V → AnyHall) → ℕ → Result AnyHall Fault → Type 0
MakesAs {V} k any n (Ok x) = (h : Hall V) × (x ≡ any h) × Makes k n (Ok h)
MakesAs k any n (Err f) = Makes k n (Err f)

-- a new hall of the named kind
abbrev pub MakesAny : KindName → ℕ → Result AnyHall Fault → Type 0
MakesAny name.Metres = MakesAs metres Metres
MakesAny name.Grade = MakesAs grade Grade

-- a hall of one kind obeys, and stays of that kind
abbrev pub ObeysAs : {V : Type 0} → Kind V → (Hall V → AnyHall) → Hall V → Command → Result Reply ScriptFault → AnyHall → Type 0
ObeysAs {V} k any before command r after = (h : Hall V) × (after ≡ any h) × Obeys k before command r h

-- a hall obeys by the rules of its kind
abbrev pub ObeysAny : AnyHall → Command → Result Reply ScriptFault → AnyHall → Type 0
ObeysAny (Metres h) = ObeysAs metres Metres h
ObeysAny (Grade h) = ObeysAs grade Grade h

-- the text has a line for each board of the hall
abbrev pub ShownAny : AnyHall → List ℕ → Type 0
ShownAny (Metres h) = ShownFrom metres h 0
ShownAny (Grade h) = ShownFrom grade h 0
