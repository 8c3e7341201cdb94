use Rattle.std.proofs.Common.{◌≡◌, Some, length, sym, subst, arith}
use Rattle.std.proofs.lemmas.Option.{MatchOption-at_some}
use Rattle.commands.specs.Fields.{Counts}
use Rattle.commands.proofs.Naming.{picked}
use Rattle.commands.proofs.read.command_of.Goals as goal

pub returns-in_ok-picker-in-Settle : goal.returns-in_ok-picker-in-Settle
returns-in_ok-picker-in-Settle c = (
  sym c.in-Settle.is,
  λ fs h k.
      let named : c.picker_of.result ≡ Some c.in_ok-picker-in-Settle.picker = grind arith in
      picked fs c.args.fields.now h (subst (λ v. Counts v (length fs)) c.in-Settle.is k) c.in_ok-picker-in-Settle.picker
      (MatchOption-at_some _ _ _ named c.picker_of.ensures),
)
