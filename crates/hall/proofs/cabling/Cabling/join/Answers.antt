use Rattle.std.proofs.Common.{◌<◌, Some, arith}
use Rattle.network.specs.Cables.{end_at}
use Rattle.hall.proofs.CableLaw.{cabled}
use Rattle.hall.proofs.Rewiring.{put, put_rows, adds, adds_cabled}
use Rattle.hall.proofs.cabling.Cabling.join.Goals as goal

pub invariant_of-self : goal.invariant_of-self
invariant_of-self c =
    let self = c.args.self.now in
    let ha : c.args.a < 64 = omega (arith, self.few) in
    let hb : c.args.b < 64 = omega (arith, self.few) in
    let there = Some (end_at c.args.b c.args.q c.args.weight) in
    let here = Some (end_at c.args.a c.args.p c.args.weight) in
    let rows = put_rows self.ends self.rows c.args.a c.args.p there ha in
    let ad = adds self.ends self.rows c.args.a c.args.p c.args.b c.args.q c.args.weight ha hb c.requires.p_inside c.requires.q_inside c.requires.apart in
    record {
      some = self.some;
      few = self.few;
      rows = put_rows (put self.ends c.args.a c.args.p there) rows c.args.b c.args.q here hb;
      wired = ∣ adds_cabled (cabled self.wired) c.requires.a_inside c.requires.b_inside c.requires.p_inside c.requires.q_inside c.requires.apart c.requires.p_free c.requires.q_free ad ∣₁;
    }
