-- What stands before the first stop and after it, as the checker reads `&s[..n]` and `&s[n + 1..]`.
use Rattle.std.proofs.Common.{◌≡◌, ℕ, ◌+◌, ◌-◌, ◌<◌, ◌≤◌, List, ◌∷◌, ◌++◌, length, get_or, take, drop, ◌≢◌, sym, ap, ◌∙◌, take-append-drop, arith}
use Rattle.std.proofs.ByRecursion.{All-from_get_or}
use native.Mathlib.Nat.{sub-zero}
use Rattle.std.proofs.lemmas.List.{take_rest, drop_more, take_all, get_or-take, length-take-le}
use Rattle.words.specs.Pieces.{Lacks}

pub no_stop : (bytes : List ℕ) (stop : ℕ) → ((k : ℕ) → k < length bytes → get_or bytes k 0 ≢ stop) → Lacks stop bytes
no_stop bytes stop h = All-from_get_or (λ b. b ≢ stop) bytes 0 h

pub at_stop : (bytes : List ℕ) (n stop : ℕ) → n < length bytes → get_or bytes n 0 ≡ stop → ((k : ℕ) → k < n → get_or bytes k 0 ≢ stop) → Lacks stop (take n bytes) × (bytes ≡ take n bytes ++ stop ∷ take (length bytes - (n + 1)) (drop (n + 1) bytes))
at_stop bytes n stop inside is none =
    let front = λ (k : ℕ) (l : k < length (take n bytes)) (e : get_or (take n bytes) k 0 ≡ stop).
    let before : k < n = omega (arith, length-take-le n bytes (omega arith)) in
    none k before (sym (get_or-take n bytes k 0 before) ∙ e) in
    rw (take_rest bytes (n + 1))
    (no_stop (take n bytes) stop front, sym (take-append-drop n bytes) ∙ ap (λ l. take n bytes ++ l) (drop_more bytes n 0 inside ∙ ap (λ b. b ∷ drop (n + 1) bytes) is))

-- where the index is past the end, all stands before it
pub at_the_end : (bytes : List ℕ) (n stop : ℕ) → length bytes ≤ n → Lacks stop (take n bytes) → Lacks stop (take (n - 0) bytes) × (bytes ≡ take (n - 0) bytes)
at_the_end bytes n stop past lacks = rw (sub-zero n) (lacks, sym (take_all n bytes past))
