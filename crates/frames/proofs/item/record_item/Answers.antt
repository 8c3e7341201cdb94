use Rattle.std.proofs.Common.{◌≡◌, length, drop, sym, refl, ap, ◌∙◌, rules}
use Rattle.frames.proofs.item.record_item.Goals as goal

pub returns : goal.returns
returns g c =
    let long : length c.args.frame.now ≡ 16 = search rules in
    let same : c.in_ok-fields.fields.now ≡ c.args.frame.now = search rules in
    let read = c.in_ok-sent.ensures in
    record {
      told = c.in_ok-sent.sent.«record»;
      length_is = long;
      own_port = read.own_port;
      body = ap (drop 4) (sym same) ∙ read.body;
      status_is = c.from.ensures;
      par_is = refl;
      code_is = c.code.ensures;
    }
