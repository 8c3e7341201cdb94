use Rattle.std.proofs.Common.{string_bytes}
use Rattle.session.specs.Texts.{ShownFrom}
use Rattle.session.proofs.Appending.{GoesOn}
use Rattle.session.proofs.text.show.Given as goal

-- whatever shows the boards from here on shows them from the first, after what was written before
abbrev pub invariant-loop-board : goal.invariant-loop-board
invariant-loop-board g l =
    GoesOn (ShownFrom g.L.Length.meaning l.hall l.board-counter) (ShownFrom g.L.Length.meaning l.hall 0) (string_bytes l.initial.out) (string_bytes l.out)
