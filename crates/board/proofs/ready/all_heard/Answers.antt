use Rattle.std.proofs.Common.{◌≡◌, true, false, refl, rules}
use borrow.Author.Tests.{tests}
use Rattle.std.proofs.lemmas.Iterator.{YieldsList-from_range, cases_from_all}
use Rattle.sets.specs.Sets.{has}
use Rattle.board.specs.Station.{wired_at}
use Rattle.board.proofs.Slots.{heard_all}
use Rattle.board.proofs.ready.all_heard.Goals as goal

pub returns : goal.returns
returns c =
    let s = c.args.ports in
    let heard = c.args.heard in
    heard_all s heard _ (cases_from_all _ _ _ (λ p. wired_at s p ≡ true → has heard p ≡ true) (λ p. (wired_at s p ≡ true) × (has heard p ≡ false)) c.all.ensures.ran (YieldsList-from_range 0 8 8 refl refl) (λ x q k. search (rules, tests)) (λ x q k. search (rules, tests)))
