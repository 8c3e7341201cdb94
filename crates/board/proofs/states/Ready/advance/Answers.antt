use Rattle.std.proofs.Common.{false, ap, sym, subst}
use Rattle.rules.specs.Rules.{Moves}
use Rattle.board.specs.Move.{seen_in, MovesAs}
use Rattle.board.specs.Station.{Stands}
use Rattle.board.specs.declared.states.Owing.{Owing}
use Rattle.board.proofs.Sights.{by_rules, as_in_hall}
use Rattle.board.proofs.states.Ready.advance.Goals as goal
use Rattle.board.proofs.states.Ready.advance.Goals.{then-self, else-self}

pub returns : goal.returns
returns g c =
    let k = g.L.Length.meaning in
    let self = c.args.self in
    let after : Owing g.row.L.Denot = record { station = c.if-self.verdict.0; verdict = c.if-self.verdict.1; kind = record {} } in
    let moves : MovesAs k self.station.root self after =
    elim c.if-self.branch [
      | then-self w ↦ subst (λ b. MovesAs k b self after) (sym w.if-self.true) (ap (λ v. v.1) w.verdict-is, ap (λ v. v.0) w.verdict-is)
      | else-self w ↦
          (let own = w.own.result in
          let r = w.moved-verdict.result.«record» in
          by_rules g.L.Length.lawful self after own r w.if-self.false w.own.ensures
          (subst (λ v. Stands k false r self.station.ports v.0) (sym w.verdict-is) w.of.ensures)
          (subst (λ v. Moves k own (seen_in k self.station.ports self.ear.now) v.1 r) (sym w.verdict-is) w.moved-verdict.ensures))
    ] in
    record { moves = moves; agrees = as_in_hall g.L.Length.lawful self after moves }
