use Rattle.std.proofs.Common.{◌≡◌, true, false, rules}
use borrow.Author.Tests.{tests}
use Rattle.std.proofs.lemmas.Iterator.{YieldsList-from_slice, cases_from_all}
use Rattle.board.specs.Begin.{fine}
use Rattle.board.proofs.Weights.{all_admitted}
use Rattle.board.proofs.begin.admitted.Goals as goal

pub returns : goal.returns
returns g c =
    let k = g.L.Length.meaning in
    all_admitted k c.args.weights _ (cases_from_all _ _ _ (λ w. fine k w ≡ true) (λ w. fine k w ≡ false) c.all.ensures.ran (YieldsList-from_slice c.args.weights (cc)) (λ x q k. search (rules, tests)) (λ x q k. search (rules, tests)))
