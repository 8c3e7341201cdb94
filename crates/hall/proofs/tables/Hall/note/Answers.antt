use Rattle.std.proofs.Common.{◌≡◌, ◌<◌, length, refl, ap, ◌∙◌, arith, get_or-set_other, get_or-set_same, rules}
use Rattle.hall.specs.Hall.{count_of, nothing}
use Rattle.hall.proofs.tables.Hall.note.Goals as goal

pub returns : goal.returns
returns g c =
    let ts = c.args.self.now.tallies in
    let whole : length ts ≡ 64 = search rules in
    let lt : c.args.board < length ts = omega arith in
    let next = c.count.new.self in
    record {
      cabling = refl;
      records = refl;
      whole = search rules;
      counts = λ v. ap (λ t. count_of t v) (get_or-set_same ts c.args.board next nothing lt) ∙ c.count.ensures v;
      others = λ o ne. get_or-set_other ts c.args.board o next nothing ne;
    }
