use Rattle.std.proofs.Common.{◌≡◌, ℕ, ◌≤◌, false, Some, Option, sym, refl, ◌∙◌, subst, rules}
use Rattle.rules.specs.Rules.{rule_of, followed}
use Rattle.rules.specs.declared.verdict.Plan.{Plan}
use Rattle.network.specs.Cables.{around}
use Rattle.sets.specs.Sets.{has, LeastFrom}
use Rattle.rules.specs.declared.verdict.Verdict.{Verdict}
use Rattle.hall.specs.Hall.{far_in, records_in, PlanIn, Noted}
use Rattle.hall.proofs.Midway.{Midway, skipped, idles, noted, all_moved}
use Rattle.hall.proofs.Verdicts.{follows_plan}
use Rattle.hall.proofs.tables.Hall.advance.Goals as goal

pub loop-board-preserved : goal.loop-board-preserved
loop-board-preserved g c =
    let k = g.L.Length.meaning in
    let h = c.args.self.now in
    let s = c.args.set in
    let m = c.in-Some.board in
    let old = c.loop-board.self in
    let from = c.loop-board.board-iterator.from in
    let inv = c.loop-board.invariant in
    let step = c.in-Some.ensures.steps in
    let found = subst (λ x. LeastFrom x from m) inv.0 step.0 in (
      step.1 ∙ inv.0,
      inv.1,
      let right = c.requires in
          let mid = skipped k h s from m old.ledger.records old.tallies inv.2 found.onward found.least in
          let idle = subst (λ (p : Option Plan). PlanIn k h m p) c.in_default.is (right m found.there) in
          subst (λ x. Midway k h s x old.ledger.records old.tallies) (sym step.2) (idles k h s m old.ledger.records old.tallies (records_in k h m) mid found.there (idle, refl)),
    )

pub loop-board-preserved-in-Some-planned : goal.loop-board-preserved-in-Some-planned
loop-board-preserved-in-Some-planned g c =
    let k = g.L.Length.meaning in
    let h = c.args.self.now in
    let s = c.args.set in
    let m = c.in-Some.board in
    let plan = c.in-Some-planned.plan in
    let next = c.follow-record.result in
    let old = c.loop-board.self in
    let after = c.note.new.self in
    let from = c.loop-board.board-iterator.from in
    let inv = c.loop-board.invariant in
    let step = c.in-Some.ensures.steps in
    let found = subst (λ x. LeastFrom x from m) inv.0 step.0 in
    let is : next ≡ followed k (records_in k h m) (around (far_in h) (records_in k h) m) (Some plan) = search rules in (
      step.1 ∙ inv.0,
      c.note.ensures.cabling ∙ inv.1,
      let right = c.requires in
          let mid = skipped k h s from m old.ledger.records old.tallies inv.2 found.onward found.least in
          let planned = subst (λ (p : Option Plan). PlanIn k h m p) c.in-Some-planned.is (right m found.there) in
          let noted-so = subst (λ (v : Verdict). Noted old m next v after) c.verdict.ensures c.note.ensures in
          let move = follows_plan k h.cabling.n (far_in h) (records_in k h) m plan next planned is in
          subst (λ x. Midway k h s x after.ledger.records after.tallies) (sym step.2) (noted k h old after s m (rule_of plan) next mid found.there step.3 move noted-so),
    )

pub returns : goal.returns
returns g c =
    let inv = c.loop-board.invariant in
    let from = c.loop-board.board-iterator.from in
    all_moved g.L.Length.meaning c.args.self.now c.loop-board.self c.args.set from (subst (λ s. (b : ℕ) → from ≤ b → has s b ≡ false) inv.0 c.in-None.ensures.steps) inv.1 inv.2
