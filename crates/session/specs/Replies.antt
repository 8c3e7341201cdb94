-- What a command does to a hall, and what it answers.
use Rattle.std.specs.Prelude.{◌≡◌, ℕ, Bool, true, false, Ok, Err, Result}
use Rattle.lengths.specs.Kind.{Kind}
use Rattle.commands.specs.declared.boards.Boards.{Boards}
use Rattle.commands.specs.declared.command.Command.{Command}
use Rattle.commands.specs.declared.command.Command.TheVariants.{New, Wire, Cut, Plant, Turn, Settle, Tally, Show}
use Rattle.commands.specs.declared.command.PickerName.{PickerName}
use Rattle.commands.specs.declared.command.PickerName.TheVariants as name
use Rattle.pickers.specs.Choices.{pick_all, pick_ring}
use Rattle.hall.specs.Runs.{Settles}
use Rattle.hall.specs.Hall.{Wires, Cuts, Planted, Turns, Tallies}
use Rattle.hall.specs.declared.fault.Fault.{Fault}
use Rattle.hall.specs.declared.fault.Fault.TheVariants.{Board}
use Rattle.hall.specs.declared.tables.Hall.{Hall}
use Rattle.session.specs.declared.fault.ScriptFault.{ScriptFault}
use Rattle.session.specs.declared.fault.ScriptFault.TheVariants.{NoHall, Hall as Refusing}
use Rattle.session.specs.declared.obey.Reply.{Reply}
use Rattle.session.specs.declared.obey.Reply.TheVariants.{Done, Moved, Counts, Boards as BoardsNow}

-- A call of a hall, of which `Call` tells the answer, is answered by `reply` of what it gives; its fault is the line's fault.
abbrev pub Becomes : {A : Type 0} → (A → Reply) → (Result A Fault → Type 0) → Result Reply ScriptFault → Type 0
Becomes {A} reply Call (Ok x) = (a : A) × (x ≡ reply a) × Call (Ok a)
Becomes reply Call (Err e) = (f : Fault) × (e ≡ Refusing f) × Call (Err f)

-- a turn of the named boards, where `beyond` tells whether one of them is 64 or more: no hall has that board
abbrev pub TurnsNamed : {V : Type 0} → Kind V → Hall V → Bool → ℕ → Result ℕ Fault → Hall V → Type 0
TurnsNamed k before true set r after = (r ≡ Err Board) × (after ≡ before)
TurnsNamed k before false set r after = Turns k before set r after

-- a turn of the boards that a command names
abbrev pub TurnsBoards : {V : Type 0} → Kind V → Hall V → Boards → Result ℕ Fault → Hall V → Type 0
TurnsBoards k before boards = TurnsNamed k before boards.beyond boards.set

-- a settle with this new picker
abbrev pub SettlesWith : {V P : Type 0} → Kind V → (P → ℕ → ℕ × P) → P → Hall V → Hall V → Type 0
SettlesWith {V} {P} k picks new before after = (last : P) × Settles k picks new before last after

-- a settle with a new picker of this name; Ring begins at board 0
abbrev pub SettlesNamed : {V : Type 0} → Kind V → PickerName → Hall V → Hall V → Type 0
SettlesNamed k name.All = SettlesWith k pick_all (record {})
SettlesNamed k name.Ring = SettlesWith k pick_ring (record { last = 0 })

-- a command on a hall; a hall makes no other hall
abbrev pub Obeys : {V : Type 0} → Kind V → Hall V → Command → Result Reply ScriptFault → Hall V → Type 0
Obeys k before (New n kind) r after = (r ≡ Err NoHall) × (after ≡ before)
Obeys k before (Wire a p b q w) r after = Becomes (λ _. Done) (λ s. Wires k before a p b q w s after) r
Obeys k before (Cut b p) r after = Becomes (λ _. Done) (λ s. Cuts k before b p s after) r
Obeys k before (Plant b status par code) r after = Becomes (λ _. Done) (λ s. Planted k before b status par code s after) r
Obeys k before (Turn boards) r after = Becomes Moved (λ s. TurnsBoards k before boards s after) r
Obeys k before (Settle picker) r after = (r ≡ Ok Done) × SettlesNamed k picker before after
Obeys k before (Tally b) r after = Becomes Counts (λ s. Tallies before b s) r × (after ≡ before)
Obeys k before Show r after = (r ≡ Ok BoardsNow) × (after ≡ before)
