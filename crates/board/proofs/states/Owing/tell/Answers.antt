use Rattle.std.proofs.Common.{◌++◌, drop, ap, ◌∙◌, arith}
use Rattle.board.specs.Tell.{frames_below}
use Rattle.board.proofs.states.Owing.tell.Goals as goal

pub returns : goal.returns
returns g c =
    let wrote = c.write_frames-size in
    let ports = c.args.self.station.ports in
    record {
      room = omega (arith, c.tell_size.ensures, c.if-out-tell_size.false);
      size_is = wrote.ensures.size;
      out_is = wrote.ensures.out ∙ ap (λ own. frames_below g.L.Length.meaning own ports 8 ++ drop wrote.result c.args.out.now) c.own.ensures;
      same = c.anew.ensures.same;
      silent = c.anew.ensures.silent;
    }
