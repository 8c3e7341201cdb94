use Rattle.std.proofs.Common.{◌≡◌, ℕ, ◌<◌, List, length, take, Some, None, sym, ◌∙◌, subst, arith, length-set}
use Rattle.std.proofs.lemmas.List.{take_more_set, take_all, length-take-le}
use Rattle.std.proofs.lemmas.Result.{err_from_is_err_and}
use Rattle.commands.specs.Fields.{Numerals}
use Rattle.commands.specs.Steps.{TakesNumber}
use Rattle.commands.proofs.Taking.{Taken, Reads, one_taken, missed, all_taken}
use Rattle.commands.proofs.fields.numbers.Goals as goal

-- before the last turn fields are left
some_left : (n i : ℕ) (found rest : List ℕ) (fs gs : List (List ℕ)) → i < n → length found ≡ n → length fs ≡ n → Taken fs gs rest (take i found) → 0 < length gs
some_left n i found rest fs gs more long all t = omega (arith, t.count, length-take-le i found (omega arith))

pub returns-in_err-n : goal.returns-in_err-n
returns-in_err-n g c =
    let p = err_from_is_err_and c.from_residual.result c.from_residual.ensures.1 in
    let rest = c.loop-slot.rest.now in
    let none : c.number_field.result ≡ None = grind arith in
    let left : length rest ≡ c.in_err-n.field-0.0 = grind arith in
    rw (p.1, p.2, ← left) (λ fs h e.
    let t = c.loop-slot.invariant.1 fs h e in
    let i = c.loop-slot.slot-index in
    missed fs t.0 rest (take i c.loop-slot.slot-items) t.1
    (some_left g.row.N i c.loop-slot.slot-items rest fs t.0 (omega (arith, c.loop-slot.invariant.0)) c.loop-slot.invariant.0 e t.1)
    (subst (TakesNumber rest) none c.number_field.ensures.takes))

pub loop-slot-preserved : goal.loop-slot-preserved
loop-slot-preserved g c = (
  length-set c.loop-slot.slot-items c.loop-slot.slot-index _ ∙ c.loop-slot.invariant.0,
  λ fs h e.
      let t = c.loop-slot.invariant.1 fs h e in
      let i = c.loop-slot.slot-index in
      let items = c.loop-slot.slot-items in
      let rest = c.loop-slot.rest.now in
      let took : c.number_field.result ≡ Some (c.in_ok-n.n, c.in_ok-n.after) = grind arith in
      subst (Reads fs c.in_ok-n.after.now) (sym (take_more_set items i c.in_ok-n.n (omega arith)))
      (one_taken fs t.0 rest (take i items) c.in_ok-n.n c.in_ok-n.after t.1
      (some_left g.row.N i items rest fs t.0 (omega (arith, c.loop-slot.invariant.0)) c.loop-slot.invariant.0 e t.1)
      (subst (TakesNumber rest) took c.number_field.ensures.takes)),
)

pub returns : goal.returns
returns g c = λ fs h e.
    let t = c.loop-slot.invariant.1 fs h e in
    let i = c.loop-slot.slot-index in
    let items = c.loop-slot.slot-items in
    subst (λ l. Numerals l fs) (take_all i items (omega arith))
    (all_taken fs t.0 c.loop-slot.rest.now (take i items) t.1
    (omega (arith, t.1.count, length-take-le i items (omega arith), c.loop-slot.invariant.0)))
