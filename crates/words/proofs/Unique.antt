-- Bytes are cut at a stop, into lines and into words, and read as a number, in one way only.
use Rattle.std.proofs.Common.{◌≡◌, ℕ, ◌<◌, List, [], ◌∷◌, ◌++◌, length, sym, refl, ap, ◌∙◌, subst, inl, inr, ⊎_elim, arith, length-append}
use Rattle.std.proofs.ByRecursion.{All-weaker}
use Rattle.words.specs.Numerals.{Numeral}
use Rattle.words.specs.Pieces.{Lacks, First}
use Rattle.words.specs.Lines.{Lines}
use Rattle.words.specs.Words.{Word, spaced, Spaced}
use Rattle.words.proofs.Counting.{words_pieces}

-- what lacks a stop holds none
pub stop_lacks : (stop : ℕ) (a r : List ℕ) → Lacks stop (a ++ stop ∷ r) → ⊥
stop_lacks stop [] r h = h.0 refl
stop_lacks stop (x ∷ a) r h = stop_lacks stop a r h.1

pub same_cut : (stop : ℕ) (a b r t : List ℕ) → Lacks stop a → Lacks stop b → a ++ stop ∷ r ≡ b ++ stop ∷ t → (a ≡ b) × (r ≡ t)
same_cut stop [] [] r t la lb e = (refl, cc)
same_cut stop [] (y ∷ b) r t la lb e = absurd (lb.0 (cc))
same_cut stop (x ∷ a) [] r t la lb e = absurd (la.0 (cc))
same_cut stop (x ∷ a) (y ∷ b) r t la lb e =
    let tails = same_cut stop a b r t la.1 lb.1 (cc) in
    let heads : x ≡ y = cc in
    ((λ i. heads i ∷ tails.0 i), tails.1)

pub same_first : (stop : ℕ) (a b r t bytes : List ℕ) → First stop a r bytes → First stop b t bytes → (a ≡ b) × (r ≡ t)
same_first stop a b r t bytes p q =
    ⊎_elim
    (λ e. ⊎_elim
    (λ f. same_cut stop a b r t p.0 q.0 (sym e ∙ f))
    (λ f. absurd (stop_lacks stop a r (subst (Lacks stop) (sym f.0 ∙ e) q.0)))
    q.1)
    (λ e. ⊎_elim
    (λ f. absurd (stop_lacks stop b t (subst (Lacks stop) (sym e.0 ∙ f) p.0)))
    (λ f. (sym e.0 ∙ f.0, e.1 ∙ sym f.1))
    q.1)
    p.1

-- what follows the first stop is shorter than the whole
pub first_shorter : (stop : ℕ) (front rest bytes : List ℕ) → First stop front rest bytes → 0 < length bytes → length rest < length bytes
first_shorter stop front rest bytes f some =
    ⊎_elim
    (λ e. omega (arith, simp length-append at (ap length e)))
    (λ e. omega (arith, ap length e.1))
    f.1

pub same_lines : (ks ls : List (List ℕ)) (script : List ℕ) → Lines ks script → Lines ls script → ks ≡ ls
same_lines [] [] script p q = refl
same_lines [] (l ∷ ls) script p q = absurd (omega (arith, ap length p, q.1.0))
same_lines (k ∷ ks) [] script p q = absurd (omega (arith, ap length q, p.1.0))
same_lines (k ∷ ks) (l ∷ ls) script p q =
    let same = same_first 10 k l p.0 q.0 script p.1.1 q.1.1 in
    let more = same_lines ks ls q.0 (subst (Lines ks) same.1 p.2) q.2 in
    λ i. same.0 i ∷ more i

pub word_lacks : (w : List ℕ) → Word w → Lacks 32 w
word_lacks w h = All-weaker _ _ (λ b k e. omega (arith, k.0)) w h.1

-- the first of some words stands before the first space
pub first_word : (w : List ℕ) (ws : List (List ℕ)) (bytes : List ℕ) → Spaced (w ∷ ws) bytes → First 32 w (spaced ws) bytes
first_word w [] bytes h = (word_lacks w h.1.0, inr (sym h.0, refl))
first_word w (v ∷ ws) bytes h = (word_lacks w h.1.0, inl (sym h.0))

-- what is cut from the front of some words is the first, and leaves the others
pub next_word : (w : List ℕ) (ws : List (List ℕ)) (front rest bytes : List ℕ) → Spaced (w ∷ ws) bytes → First 32 front rest bytes → (front ≡ w) × Spaced ws rest
next_word w ws front rest bytes h f =
    let same = same_first 32 w front (spaced ws) rest bytes (first_word w ws bytes h) f in
    (sym same.0, (same.1, h.1.1))

pub some_bytes : (w : List ℕ) (ws : List (List ℕ)) (bytes : List ℕ) → Spaced (w ∷ ws) bytes → 0 < length bytes
some_bytes w [] bytes h = omega (arith, ap length h.0, h.1.0.0)
some_bytes w (v ∷ ws) bytes h = omega (arith, simp length-append at (ap length h.0), h.1.0.0)

pub same_words : (vs ws : List (List ℕ)) (bytes : List ℕ) → Spaced vs bytes → Spaced ws bytes → vs ≡ ws
same_words [] [] bytes p q = refl
same_words [] (w ∷ ws) bytes p q = absurd (omega (arith, ap length p.0, some_bytes w ws bytes q))
same_words (v ∷ vs) [] bytes p q = absurd (omega (arith, ap length q.0, some_bytes v vs bytes p))
same_words (v ∷ vs) (w ∷ ws) bytes p q = words_pieces (v ∷ vs) bytes (omega arith) p ∙ sym (words_pieces (w ∷ ws) bytes (omega arith) q)

pub same_number : (bytes : List ℕ) (m n : ℕ) → Numeral bytes m → Numeral bytes n → m ≡ n
same_number bytes m n p q = sym p.writes ∙ q.writes
