-- A line as a first word and the fields after it.
use Rattle.std.proofs.Common.{◌≡◌, ℕ, ◌+◌, ◌-◌, ◌≤◌, List, [], ◌∷◌, length, Ok, Err, Result, refl, sym, ap, ◌∙◌, subst, inl, inr, ⊎_elim, arith, length-append}
use Rattle.words.specs.Pieces.{First}
use Rattle.words.specs.Words.{spaced, Spaced, Words}
use Rattle.words.proofs.Unique.{next_word}
use Rattle.commands.specs.declared.command.Command.{Command}
use Rattle.commands.specs.declared.misread.Misread.{Misread}
use Rattle.commands.specs.declared.misread.Misread.TheVariants.{Field}
use Rattle.commands.specs.declared.verb.Verb.{Verb}
use Rattle.commands.specs.Commands.{Written, Reading}
use Rattle.commands.specs.Fields.{Sort, Misfit, Counts, name_of, sorts}
use Rattle.commands.specs.Steps.{Left, Answered}

-- the line's words are `word` and fs, which `rest` writes
pub record Parts (line word rest : List ℕ) (count : ℕ) (fs : List (List ℕ)) : Type 0 where
  pub written : Written line word fs
  pub over : Spaced fs rest
  pub many : length fs ≡ count - 1

pub parts : (line word rest : List ℕ) (count : ℕ) (ws : List (List ℕ)) → length line ≤ 200 → First 32 word rest line → Words ws line → length ws ≡ count → (fs : List (List ℕ)) × Parts line word rest count fs
parts line word rest count [] short f h e = absurd (omega (arith, h.0))
parts line word rest count (w ∷ fs) short f h e =
    let next = next_word w fs word rest line h.1 f in (
      fs,
      record {
        written = (short, subst (λ v. Words (v ∷ fs) line) (sym next.0) h);
        over = next.1;
        many = omega arith;
      },
    )

no_fields : (ss : List Sort) (left : ℕ) → Left ss [] left → ⊥
no_fields [] left h = h
no_fields (s ∷ ss) left h = h

-- what is left from the misfit on tells where it begins
misfit : (ss : List Sort) (fs : List (List ℕ)) (here byte left : ℕ) → Left ss fs left → byte + left ≡ here + length (spaced fs) → Misfit ss fs here byte
misfit [] fs here byte left h e = h
misfit (s ∷ ss) [] here byte left h e = h
misfit (s ∷ ss) (f ∷ []) here byte left h e = ⊎_elim (λ p. inl (p.0, omega (arith, p.1))) (λ p. absurd (no_fields ss left p.1)) h
misfit (s ∷ ss) (f ∷ g ∷ fs) here byte left h e =
    ⊎_elim
    (λ p. inl (p.0, omega (arith, p.1)))
    (λ p. inr (p.0, misfit ss (g ∷ fs) (here + length f + 1) byte left p.1 (omega (arith, length-append f (32 ∷ spaced (g ∷ fs))))))
    h

left_within : (ss : List Sort) (fs : List (List ℕ)) (left : ℕ) → Left ss fs left → left ≤ length (spaced fs)
left_within [] fs left h = absurd h
left_within (s ∷ ss) [] left h = absurd h
left_within (s ∷ ss) (f ∷ []) left h = ⊎_elim (λ p. omega (arith, p.1)) (λ p. absurd (no_fields ss left p.1)) h
left_within (s ∷ ss) (f ∷ g ∷ fs) left h =
    ⊎_elim
    (λ p. omega (arith, p.1))
    (λ p. omega (arith, left_within ss (g ∷ fs) left p.1, length-append f (32 ∷ spaced (g ∷ fs))))
    h

pub at_byte : (line word : List ℕ) (ss : List Sort) (fs : List (List ℕ)) (left : ℕ) → Written line word fs → Left ss fs left → (left ≤ length line) × Misfit ss fs (length word + 2) (length line - left + 1)
at_byte line word ss [] left h m = absurd (no_fields ss left m)
at_byte line word ss (f ∷ fs) left h m =
    let whole = ap length (sym h.1.1.0) ∙ length-append word (32 ∷ spaced (f ∷ fs)) in
    let inside = left_within ss (f ∷ fs) left m in
    (omega arith, misfit ss (f ∷ fs) (length word + 2) (length line - left + 1) left m (omega arith))

-- what a line says that begins with the word of a verb, and has as many fields as it takes
pub reading : (line : List ℕ) (v : Verb) (fs : List (List ℕ)) (rest : List ℕ) (count : ℕ) → Parts line (name_of v) rest count fs → Counts v (length fs) → (r : Result Command ℕ) → Answered v rest r → (out : Result Command Misread) → ((c : Command) → r ≡ Ok c → out ≡ Ok c) → ((left : ℕ) → r ≡ Err left → out ≡ Err (Field (length line - left + 1))) → Reading line out
reading line v fs rest count p takes (Ok c) told out ok err =
    rw (ok c refl) (fs, subst (λ w. Written line (name_of w) fs) (sym told.0) p.written, told.1 fs p.over takes)
reading line v fs rest count p takes (Err left) told out ok err =
    rw (err left refl) (v, fs, p.written, takes, (at_byte line (name_of v) (sorts v (length fs)) fs left p.written (told fs p.over takes)).1)
