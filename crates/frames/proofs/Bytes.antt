-- Lists by their elements.
use Rattle.std.proofs.Common.{◌≡◌, ℕ, ◌+◌, ◌≤◌, List, ◌∷◌, length, get_or, drop, sym, ap, ◌∙◌, arith, drop-cons}
use Rattle.std.proofs.lemmas.List.{get_or-drop}

-- a list by its first four elements
pub headed : (xs : List ℕ) → 4 ≤ length xs → xs ≡ get_or xs 0 0 ∷ get_or xs 1 0 ∷ get_or xs 2 0 ∷ get_or xs 3 0 ∷ drop 4 xs
headed xs h =
    let d0 = drop-cons xs 0 0 (omega arith) in
    let d1 = drop-cons xs 1 0 (omega arith) in
    let d2 = drop-cons xs 2 0 (omega arith) in
    let d3 = drop-cons xs 3 0 (omega arith) in
    d0 ∙ ap (λ ys. get_or xs 0 0 ∷ ys) (d1 ∙ ap (λ ys. get_or xs 1 0 ∷ ys) (d2 ∙ ap (λ ys. get_or xs 2 0 ∷ ys) d3))

-- an element of what is left of a list
pub at_drop : (n i : ℕ) (xs ys : List ℕ) → drop n xs ≡ ys → get_or xs (n + i) 0 ≡ get_or ys i 0
at_drop n i xs ys e = sym (get_or-drop n xs i 0) ∙ ap (λ zs. get_or zs i 0) e
