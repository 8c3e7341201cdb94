use Rattle.std.proofs.Common.{sym, subst}
use Rattle.words.specs.Numerals.{Numeral}
use Rattle.words.proofs.Unique.{next_word}
use Rattle.commands.proofs.fields.number_field.Goals as goal

pub returns-in_err-n-clause-takes : goal.returns-in_err-n-clause-takes
returns-in_err-n-clause-takes c =
    rw c.from_residual.ensures (λ f fs h fits.
    let same = next_word f fs c.first.result.0.now c.first.result.1.now c.args.fields.now h c.first.ensures in
    c.in_err-n.ensures fits.0 (subst (λ w. Numeral w fits.0) (sym same.0) fits.1))

pub returns-clause-takes : goal.returns-clause-takes
returns-clause-takes c = λ f fs h.
    let same = next_word f fs c.first.result.0.now c.first.result.1.now c.args.fields.now h c.first.ensures in
    (subst (λ w. Numeral w c.in_ok-n.n) same.0 c.in_ok-n.ensures, same.1)
