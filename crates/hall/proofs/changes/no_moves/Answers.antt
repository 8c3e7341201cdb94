use Rattle.std.proofs.Common.{◌≡◌, ℕ, replicate, slice_index_or, subst, rules}
use Rattle.hall.specs.Hall.{nothing}
use Rattle.hall.specs.declared.tables.Tally.{Tally}
use Rattle.hall.proofs.CableLaw.{all_same}
use Rattle.hall.proofs.changes.no_moves.Goals as goal

pub returns : goal.returns
returns c =
    let none : nothing ≡ c.default.result = search rules in
    subst (λ (t : Tally). (b : ℕ) → slice_index_or (replicate 64 t) b nothing ≡ nothing) none (all_same nothing 64)
