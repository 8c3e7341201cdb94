use Rattle.std.proofs.Common.{◌+◌, string_bytes, append_assoc, rules, arith}
use Rattle.session.specs.Texts.{ShownFrom, past, board, board_text}
use Rattle.session.proofs.Appending.{step, finish}
use Rattle.session.proofs.text.show.Goals as goal

pub loop-board-preserved : goal.loop-board-preserved
loop-board-preserved g c =
    let k = g.L.Length.meaning in
    let hall = c.args.hall.now in
    step (ShownFrom k hall c.loop-board.board-counter) (ShownFrom k hall (c.loop-board.board-counter + 1)) (ShownFrom k hall 0)
    (string_bytes c.args.out.now) (string_bytes c.loop-board.out) (string_bytes c.writeln.new.self)
    (board_text k c.loop-board.board-counter c.in-Ok.look)
    (search (rules, append_assoc))
    (λ more h. board c.in-Ok.look c.in-Ok.ensures h)
    c.loop-board.invariant

pub returns-after-loop-board : goal.returns-after-loop-board
returns-after-loop-board g c =
    let k = g.L.Length.meaning in
    let hall = c.args.hall.now in
    finish (ShownFrom k hall c.loop-board.board-counter) (ShownFrom k hall 0)
    (string_bytes c.args.out.now) (string_bytes c.loop-board.out)
    (past (omega (arith, hall.cabling.few, c.loop-board-test.false))) c.loop-board.invariant

pub returns-in_default : goal.returns-in_default
returns-in_default g c =
    let k = g.L.Length.meaning in
    let hall = c.args.hall.now in
    finish (ShownFrom k hall c.loop-board.board-counter) (ShownFrom k hall 0)
    (string_bytes c.args.out.now) (string_bytes c.loop-board.out)
    (past c.in_default.ensures.1) c.loop-board.invariant
