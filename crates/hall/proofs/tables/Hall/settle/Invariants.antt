use Rattle.hall.specs.Hall.{EnabledSet, AllPlanned}
use Rattle.hall.specs.Runs.{Settles}
use Rattle.hall.specs.declared.tables.Hall.{Hall}
use Rattle.hall.proofs.Running.{toil_in}
use Rattle.hall.proofs.tables.Hall.settle.Given as goal

-- the enabled boards have their plans, and whatever settles from here settles from the start
abbrev pub invariant-loop-enabled : goal.invariant-loop-enabled
invariant-loop-enabled g l =
    let k = g.L.Length.meaning in
    let picks = g.P.Picker.picks in
    EnabledSet k l.self l.enabled
    × AllPlanned k l.self l.plans l.enabled
    × ((q : g.row.P.Denot) (end : Hall g.row.L.Denot) → Settles k picks l.picker l.self q end → Settles k picks l.initial.picker l.initial.self q end)

abbrev pub decreases-loop-enabled : goal.decreases-loop-enabled
decreases-loop-enabled g l = toil_in g.L.Length.meaning l.self
