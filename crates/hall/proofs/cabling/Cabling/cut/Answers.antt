use Rattle.std.proofs.Common.{None, refl}
use Rattle.hall.proofs.CableLaw.{cabled, in_table}
use Rattle.hall.proofs.Rewiring.{put, put_rows, removes, removes_cabled}
use Rattle.hall.proofs.cabling.Cabling.cut.Goals as goal

pub bounds-self-end : goal.bounds-self-end
bounds-self-end c = let self = c.args.self.now in (in_table self.wired self.few c.args.a c.args.p c.args.end c.requires.stands).far_board

pub bounds-self-end-2 : goal.bounds-self-end-2
bounds-self-end-2 c = let self = c.args.self.now in (in_table self.wired self.few c.args.a c.args.p c.args.end c.requires.stands).far_port

pub invariant_of-self : goal.invariant_of-self
invariant_of-self c =
    let self = c.args.self.now in
    let e = c.args.end in
    let i = in_table self.wired self.few c.args.a c.args.p e c.requires.stands in
    let first = put self.ends c.args.a c.args.p None in
    let rows = put_rows self.ends self.rows c.args.a c.args.p None i.board in
    let re = removes self.ends self.rows c.args.a c.args.p e i.board i.far_board i.port i.far_port i.apart in
    record {
      some = self.some;
      few = self.few;
      rows = put_rows first rows e.board e.port None i.far_board;
      wired = ∣ removes_cabled (cabled self.wired) c.requires.stands re ∣₁;
    }

pub returns : goal.returns
returns c =
    let self = c.args.self.now in
    let i = in_table self.wired self.few c.args.a c.args.p c.args.end c.requires.stands in
    record { boards = refl; cables = removes self.ends self.rows c.args.a c.args.p c.args.end i.board i.far_board i.port i.far_port i.apart }
