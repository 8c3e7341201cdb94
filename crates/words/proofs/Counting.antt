-- The words of a line are the pieces that `split` gives.
use Rattle.std.proofs.Common.{◌≡◌, ℕ, ◌<◌, ◌≤◌, Bool, eqb, false, not, List, [], ◌∷◌, ◌++◌, length, get_or, take, Decides, sym, refl, ap, ◌∙◌, subst, arith}
use Rattle.std.specs.List.{AllByRecursion, slice_split, join_with_byte}
use Rattle.std.proofs.ByRecursion.{All-get_or}
use Rattle.std.proofs.lemmas.Bool.{not-true, not_from_false, eqb-false, ne_eqb}
use Rattle.std.proofs.lemmas.List.{take_all}
use Rattle.std.proofs.lemmas.List.Splits.{slice_split_none, slice_split_at, length-slice_split, join_with_byte-slice_split}
use Rattle.words.specs.Words.{Word, spaced, Spaced, Words}

abbrev pub pieces : List ℕ → List (List ℕ)
pieces line = slice_split (λ b. eqb b 32) line

spaced_joins : (ws : List (List ℕ)) → spaced ws ≡ join_with_byte 32 ws
spaced_joins [] = refl
spaced_joins (w ∷ []) = refl
spaced_joins (w ∷ v ∷ ws) = ap (λ l. w ++ 32 ∷ l) (spaced_joins (v ∷ ws))

-- pieces that are words are the words of the line
pub pieces_words : (line : List ℕ) → AllByRecursion Word (pieces line) → Words (pieces line) line
pieces_words line h = (
  omega (arith, length-slice_split (λ b. eqb b 32) line),
  (spaced_joins (pieces line) ∙ join_with_byte-slice_split 32 line, h),
)

no_space : (w : List ℕ) → Word w → (k : ℕ) (d : ℕ) → k < length w → eqb (get_or w k d) 32 ≡ false
no_space w h k d l = let b = All-get_or (λ b. (33 ≤ b) × (b ≤ 126)) w k d l h.1 in ne_eqb (get_or w k d) 32 (λ e. omega arith)

-- and there are no other words
pub words_pieces : (ws : List (List ℕ)) (line : List ℕ) → 0 < length ws → Spaced ws line → ws ≡ pieces line
words_pieces [] line some h = absurd (omega arith)
words_pieces (w ∷ []) line some h = sym (slice_split_none (λ b. eqb b 32) w (no_space w h.1.0)) ∙ ap pieces h.0
words_pieces (w ∷ v ∷ ws) line some h =
    ap (λ l. w ∷ l) (words_pieces (v ∷ ws) (spaced (v ∷ ws)) (omega arith) (refl, h.1.1))
    ∙ sym (slice_split_at (λ b. eqb b 32) w 32 (spaced (v ∷ ws)) (no_space w h.1.0) refl)
    ∙ ap pieces h.0

pub no_words : (line : List ℕ) (i : ℕ) (w : List ℕ) → i < length (pieces line) → w ≡ get_or (pieces line) i w → (Word w → ⊥) → (ws : List (List ℕ)) → Words ws line → ⊥
no_words line i w inside is bad ws h =
    bad (subst Word (sym is) (All-get_or Word (pieces line) i w inside (subst (AllByRecursion Word) (words_pieces ws line h.0 h.1) h.1.1)))

-- bytes of which every one passed are a word where there is any
pub word_if_some : (bytes : List ℕ) (i : ℕ) (empty : Bool) → length bytes ≤ i → AllByRecursion (λ b. (33 ≤ b) × (b ≤ 126)) (take i bytes) → empty ≡ eqb (length bytes) 0 → Decides (not empty) (Word bytes)
word_if_some bytes i empty all h e = (
  λ some. let ne = eqb-false (length bytes) 0 (sym e ∙ not-true empty some) in (omega arith, subst (AllByRecursion (λ b. (33 ≤ b) × (b ≤ 126))) (take_all i bytes all) h),
  λ w. not_from_false empty (e ∙ ne_eqb (length bytes) 0 (λ z. omega (arith, w.0))),
)
