use Rattle.std.proofs.Common.{◌≡◌, Some, subst, arith}
use Rattle.std.proofs.lemmas.Option.{MatchOption-at_some}
use Rattle.commands.specs.Steps.{TakesNumber}
use Rattle.commands.proofs.Naming.{both}
use Rattle.commands.proofs.fields.opening.Goals as goal

pub returns : goal.returns
returns c = λ fs h two.
    let took : c.number_field.result ≡ Some (c.in_ok-boards.boards, c.in_ok-boards.rest) = grind arith in
    let named : c.kind_of.result ≡ Some c.in_ok-kind.kind = grind arith in
    both fs c.args.fields.now c.in_ok-boards.boards c.in_ok-boards.rest (subst (TakesNumber c.args.fields.now) took c.number_field.ensures.takes) h two c.in_ok-kind.kind
    (MatchOption-at_some _ _ _ named c.kind_of.ensures)
