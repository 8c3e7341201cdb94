use Rattle.std.proofs.Common.{◌≡◌, length, refl, arith, rules}
use borrow.Author.Tests.{tests}
use Rattle.std.proofs.lemmas.Iterator.{YieldsList-from_range}
use Rattle.std.proofs.lemmas.Iterator.Consumers.{YieldsList-from_filter, count_from_yields_List}
use Rattle.std.proofs.lemmas.List.Sums.{length-filter}
use Rattle.std.specs.List.{filter, range_with_len}
use Rattle.board.specs.Station.{wired_at}
use Rattle.board.proofs.tell.tell_size.Goals as goal

pub returns : goal.returns
returns c =
    let ports = range_with_len 0 8 in
    let n : c.count.result ≡ length (filter (wired_at c.args.ports) ports) =
    count_from_yields_List c.filter.result _ c.count.ensures.ran (YieldsList-from_filter _ (wired_at c.args.ports) (YieldsList-from_range 0 8 8 c.filter.ensures.source refl) c.filter.ensures.closure (λ x r q k. search (rules, tests))) in
    omega (arith, n, length-filter (wired_at c.args.ports) ports)
