-- The worked examples hold.
use Rattle.std.proofs.Common.{true, false, Some, refl, ap, lit<, lit≤}
use native.Mathlib.Decide.{dec_lt}
use Rattle.lengths.specs.Metres.{metres}
use Rattle.lengths.specs.MetresLaws.{metres_laws, same}
use Rattle.lengths.specs.GradeLaws as grades
use Rattle.rules.specs.declared.status.Status.TheVariants.{C, EB}
use Rattle.network.proofs.Settling.{quiet_settled}
use Rattle.examples.specs.Hall.{long, keeps, rec_h, settled_h}
use Rattle.examples.specs.Examples.{Examples, showing, two_ports}
use Rattle.examples.proofs.Cabled.{cabled, weighed}
use Rattle.examples.proofs.Hall.{root_none, turn_1, turn_2, turn_3, quiet}
use Rattle.examples.proofs.Ports.{least_offer, improves, waiting}

pub examples : Examples
unfolding dec_lt
examples = record {
  cabled = cabled;
  weighed = weighed;
  first_0 = root_none rec_h;
  first_1 = turn_1.everybody 1;
  first_2 = turn_1.everybody 2;
  first_3 = turn_1.everybody 3;
  turn_1 = turn_1;
  turn_2 = turn_2;
  turn_3 = turn_3;
  quiet = quiet;
  settled = quiet_settled metres_laws cabled settled_h refl (lit< tt) (lit≤ tt) weighed quiet;
  offers = ap Some (same _ _ refl);
  no_offer = refl;
  waits = waiting metres (keeps EB 0 50 tt) (two_ports (showing EB 10 tt 40 false) (showing C 57 tt 7 true)) 1 _ refl (lit< tt) refl refl refl;
  takes = improves metres (keeps C 0 50 tt) (two_ports (showing EB 10 tt 40 false) (showing C 20 tt 7 false)) refl refl (refl, least_offer 1 (long 27 tt) (lit< tt) (ap Some (same _ _ refl)) refl refl);
  one_hop = ap Some (grades.same _ _ refl refl);
  one_hop_code = refl;
  two_hops = ap Some (grades.same _ _ refl refl);
  two_hops_code = refl;
  fewer_hops = refl;
  ring_onward = refl;
  ring_round = refl;
}
