-- The digits that `number` has read write a number that fits.
use Rattle.std.proofs.Common.{◌≡◌, ℕ, ◌+◌, ◌-◌, ◌*◌, ◌^◌, ◌<◌, ◌≤◌, List, length, get_or, take, Ok, Err, fold, Result, sym, refl, ap, ◌∙◌, subst, arith, MatchOption}
use Rattle.std.specs.Result.{OkIff, result_ok}
use Rattle.std.specs.List.{AllByRecursion}
use Rattle.std.proofs.ByRecursion.{All-more}
use Rattle.std.proofs.lemmas.List.{length-take-le, take_all}
use Rattle.std.proofs.lemmas.Str.Parse.{IsNumeralModel, numerals_by_fold, digits_value_short}
use Rattle.std.proofs.lemmas.List.Sums.{fold_more}
use Rattle.words.specs.Numerals.{Digit, value, Numeral}

own : IsNumeralModel (AllByRecursion Digit) value
own =
    numerals_by_fold (AllByRecursion Digit)
    (record { empty = tt; parts = λ c cs h. h; more = λ c cs i h. (i, h) })
    (λ n bytes. fold (λ n b. n * 10 + (b - 48)) n bytes)
    (record { empty = λ n. refl; more = λ n c cs i. refl })

-- of ten digits at most, what stands before one of them writes less than 10 ^ 9
pub value_fits : (bytes : List ℕ) (i : ℕ) → i < length bytes → length bytes ≤ 10 → AllByRecursion Digit (take i bytes) → value (take i bytes) < 10 ^ 9
value_fits bytes i inside few h = digits_value_short own (take i bytes) 9 h (omega (arith, length-take-le i bytes (omega arith)))

-- one more digit
pub digit_more : (bytes : List ℕ) (i n : ℕ) → i < length bytes → Digit (get_or bytes i 0) → AllByRecursion Digit (take i bytes) × (n ≡ value (take i bytes)) → AllByRecursion Digit (take (i + 1) bytes) × (n * 10 + (get_or bytes i 0 - 48) ≡ value (take (i + 1) bytes))
digit_more bytes i n inside d h = (
  All-more Digit bytes i 0 inside h.0 d,
  ap (λ m. m * 10 + (get_or bytes i 0 - 48)) h.1 ∙ sym (fold_more (λ n b. n * 10 + (b - 48)) 0 bytes i 0 inside),
)

-- the number where it is below 2 ^ 32, once all bytes are known to be digits
pub answer : {E : Type 0} (bytes : List ℕ) (i n : ℕ) (r : Result ℕ E) → 0 < length bytes → length bytes ≤ 10 → length bytes ≤ i → AllByRecursion Digit (take i bytes) × (n ≡ value (take i bytes)) → OkIff r (n < 2 ^ 32) n → MatchOption (result_ok r) ((m : ℕ) → Numeral bytes m → ⊥) (Numeral bytes)
answer bytes i n (Ok x) some few all h k =
    let whole = take_all i bytes all in
    record { some = some; few = few; digits = subst (AllByRecursion Digit) whole h.0; writes = ap value (sym whole) ∙ sym h.1 ∙ sym k.1; small = omega (arith, k.0, k.1) }
answer bytes i n (Err e) some few all h k =
    λ m g. k (omega (arith, h.1, ap value (take_all i bytes all), g.writes, g.small))
