-- Texts that a loop writes piece by piece.
use Rattle.std.proofs.Common.{◌≡◌, ℕ, List, [], ◌++◌, refl, ap, ◌∙◌, subst, append_assoc, append-nil}
use Rattle.session.specs.Texts.{Appends}

-- what remains to be written after `here`, together with what was written since `start`, is the whole
abbrev pub GoesOn : (List ℕ → Type 0) → (List ℕ → Type 0) → List ℕ → List ℕ → Type 0
GoesOn Rest Whole start here = (more : List ℕ) → Rest more → Appends Whole start (here ++ more)

pub begin : (P : List ℕ → Type 0) (start : List ℕ) → GoesOn P P start start
begin P start more h = (more, h, refl)

-- one more piece
pub step : (Rest Next Whole : List ℕ → Type 0) (start here there piece : List ℕ) → there ≡ here ++ piece → ((more : List ℕ) → Next more → Rest (piece ++ more)) → GoesOn Rest Whole start here → GoesOn Next Whole start there
step Rest Next Whole start here there piece e on inv more h =
    let all = inv (piece ++ more) (on more h) in
    (all.0, all.1, ap (λ l. l ++ more) e ∙ append_assoc here piece more ∙ all.2)

-- nothing more
pub finish : (Rest Whole : List ℕ → Type 0) (start here : List ℕ) → Rest [] → GoesOn Rest Whole start here → Appends Whole start here
finish Rest Whole start here none inv = subst (Appends Whole start) (append-nil here) (inv [] none)
