use Rattle.std.proofs.Common.{sym, subst}
use Rattle.pickers.specs.Choices.{Chooses}
use Rattle.hall.specs.Hall.{EnabledSet, Turned}
use Rattle.hall.specs.Runs.{Settles}
use Rattle.hall.specs.Runs.Settles.{at_rest, asked}
use Rattle.hall.proofs.Running.{less_toil, every_run, settling, settle_settles}
use Rattle.hall.proofs.tables.Hall.settle.Given as given
use Rattle.hall.proofs.tables.Hall.settle.Goals as goal

-- the choice holds only enabled boards
chooses : (g : given.Over) (c : goal.After-enabled_after-enabled g) → Chooses c.ask-chosen.result c.loop-enabled.enabled
chooses g c = subst (λ x. Chooses x c.loop-enabled.enabled) (sym c.ask-chosen.ensures.answer) (g.met.P.Picker.chooses c.loop-enabled.picker c.loop-enabled.enabled c.loop-enabled.invariant.0.small)

-- and these have moved
turned : (g : given.Over) (c : goal.After-enabled_after-enabled g) → Turned g.L.Length.meaning c.loop-enabled.self c.ask-chosen.result c.advance.new.self
turned g c = c.advance.ensures

pub loop-enabled-smaller : goal.loop-enabled-smaller
loop-enabled-smaller g c = less_toil g.L.Length.meaning g.L.Length.lawful c.loop-enabled.self c.advance.new.self c.loop-enabled.enabled c.ask-chosen.result c.loop-enabled.invariant.0 c.loop-enabled-test.true (chooses g c) (turned g c)

pub loop-enabled-preserved : goal.loop-enabled-preserved
loop-enabled-preserved g c =
    let k = g.L.Length.meaning in
    let picks = g.P.Picker.picks in
    let inv = c.loop-enabled.invariant in
    let old = c.loop-enabled.self in
    let new = c.advance.new.self in
    let s = c.loop-enabled.enabled in
    let anew = c.enabled_after-enabled.ensures in
    let made = subst (λ x. Turned k old x new) c.ask-chosen.ensures.answer (turned g c) in
    (anew.enabled old inv.0 (turned g c), anew.planned old inv.1 (turned g c), λ q end d. inv.2 q end (asked s inv.0 c.loop-enabled-test.true made (subst (λ (x : g.row.P.Denot). Settles k picks x new q end) c.ask-chosen.ensures.next d)))

pub returns : goal.returns
returns g c =
    let k = g.L.Length.meaning in
    let inv = c.loop-enabled.invariant in
    let done = subst (EnabledSet k c.loop-enabled.self) c.loop-enabled-test.false inv.0 in
    let steps = inv.2 c.loop-enabled.picker c.loop-enabled.self (at_rest done) in
    record {
      steps = steps;
      settled = λ calls run. settle_settles k g.L.Length.lawful run c.loop-enabled.self (settling k g.P.Picker.picks g.met.P.Picker.chooses steps);
      promise = every_run k g.L.Length.lawful;
    }
