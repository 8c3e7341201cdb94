use Rattle.std.proofs.Common.{◌≡◌, [], ◌∷◌, ◌++◌, length, Some, None, sym, subst, arith}
use Rattle.std.proofs.lemmas.Bool.{eqb-true, eqb-false}
use Rattle.std.proofs.lemmas.Result.{err_from_is_err_and}
use Rattle.commands.specs.Steps.{TakesNumber}
use Rattle.commands.proofs.Taking.{one_taken, missed, all_taken, some_left, none_left}
use Rattle.commands.proofs.fields.named_boards.Goals as goal

pub returns-in_err-board : goal.returns-in_err-board
returns-in_err-board c =
    let p = err_from_is_err_and c.from_residual.result c.from_residual.ensures.1 in
    let rest = c.loop-rest.rest.now in
    let none : c.number_field.result ≡ None = grind arith in
    let left : length rest ≡ c.in_err-board.field-0.0 = grind arith in
    let some = eqb-false (length rest) 0 (sym c.loop-rest-test.ensures) in
    rw (p.1, p.2, ← left) (λ fs h.
    let all = c.loop-rest.invariant fs h in
    let t = all.1 in
    missed fs t.0 rest all.0 t.1 (some_left t.0 rest t.1.over (omega arith)) (subst (TakesNumber rest) none c.number_field.ensures.takes))

pub loop-rest-preserved : goal.loop-rest-preserved
loop-rest-preserved c = λ fs h.
    let all = c.loop-rest.invariant fs h in
    let t = all.1 in
    let rest = c.loop-rest.rest.now in
    let some = eqb-false (length rest) 0 (sym c.loop-rest-test.ensures) in
    let took : c.number_field.result ≡ Some (c.in_ok-board.board, c.in_ok-board.after) = grind arith in (
      all.0 ++ c.in_ok-board.board ∷ [],
      one_taken fs t.0 rest all.0 c.in_ok-board.board c.in_ok-board.after t.1 (some_left t.0 rest t.1.over (omega arith)) (subst (TakesNumber rest) took c.number_field.ensures.takes),
      c.with-named.ensures all.0 all.2,
    )

pub returns : goal.returns
returns c = λ fs h.
    let all = c.loop-rest.invariant fs h in
    let t = all.1 in
    let rest = c.loop-rest.rest.now in
    let none = eqb-true (length rest) 0 (sym c.loop-rest-test.ensures) in
    (all.0, all_taken fs t.0 rest all.0 t.1 (none_left t.0 rest t.1.over none), all.2)
