use Rattle.std.proofs.Common.{◌≡◌, length, sym, refl, subst, arith, rules}
use Rattle.rules.specs.Records.{Numbered}
use Rattle.std.proofs.lemmas.Option.{MatchOption-at_some}
use Rattle.hall.proofs.Beginning.{anew, put_record, other_record}
use Rattle.hall.proofs.tables.Hall.plant.Goals as goal

pub returns : goal.returns
returns g c =
    let k = g.L.Length.meaning in
    let rs = c.args.self.now.ledger.records in
    let b = c.args.board in
    let own = c.in_ok-record.record in
    let whole : length rs ≡ 64 = search rules in
    let read = MatchOption-at_some _ _ _ c.in_ok-record.ensures.ok_part c.read.ensures in (
      search rules,
      anew _ _ refl c.no_moves-self.ensures,
      λ b p. refl,
      record {
        planted = subst (Numbered k c.args.status c.args.par c.args.code) (sym (put_record k rs b own c.if-board-eq0.false (omega (arith, c.args.self.now.cabling.few)))) read.1;
        others = other_record k rs b own;
      },
    )
