-- The fields of a command, the last of which is a name.
use Rattle.std.proofs.Common.{◌≡◌, ℕ, List, [], ◌∷◌, length, Some, ap, ◌∙◌, arith, Bor}
use Rattle.words.specs.Numerals.{Numeral}
use Rattle.words.specs.Words.{Spaced}
use Rattle.commands.specs.declared.command.Kind.{Kind}
use Rattle.commands.specs.declared.command.PickerName.{PickerName}
use Rattle.commands.specs.Fields.{kind_name, picker_name}
use Rattle.commands.specs.Steps.{TakesNumber}

pub picked : (fs : List (List ℕ)) (bytes : List ℕ) → Spaced fs bytes → length fs ≡ 1 → (p : PickerName) → bytes ≡ picker_name p → fs ≡ picker_name p ∷ []
picked [] bytes h one p is = absurd (omega arith)
picked (f ∷ []) bytes h one p is = ap (λ w. w ∷ []) (h.0 ∙ is)
picked (f ∷ g ∷ fs) bytes h one p is = absurd (omega arith)

pub both : (fs : List (List ℕ)) (bytes : List ℕ) (n : ℕ) (rest : Bor (List ℕ)) → TakesNumber bytes (Some (n, rest)) → Spaced fs bytes → length fs ≡ 2 → (kind : Kind) → rest.now ≡ kind_name kind → (f : List ℕ) × (fs ≡ f ∷ kind_name kind ∷ []) × Numeral f n
both [] bytes n rest k h two kind is = absurd (omega arith)
both (f ∷ []) bytes n rest k h two kind is = absurd (omega arith)
both (f ∷ g ∷ []) bytes n rest k h two kind is =
    let told = k f (g ∷ []) h in
    (f, ap (λ w. f ∷ w ∷ []) (told.1.0 ∙ is), told.0)
both (f ∷ g ∷ x ∷ fs) bytes n rest k h two kind is = absurd (omega arith)
