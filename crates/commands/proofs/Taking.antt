-- Fields that are taken from the front, one by one.
use Rattle.std.proofs.Common.{◌≡◌, ℕ, ◌+◌, ◌<◌, List, [], ◌∷◌, ◌++◌, length, replicate, Some, None, sym, refl, ap, subst, inl, inr, append_assoc, append-nil, arith, length-append, Bor}
use Rattle.words.specs.Words.{Spaced}
use Rattle.words.proofs.Unique.{some_bytes}
use Rattle.commands.specs.Fields.{numeral, Numerals}
use Rattle.commands.specs.Steps.{Left, TakesNumber}

-- the numbers ns were taken from the fields fs, and gs are left, which rest writes
pub record Taken (fs gs : List (List ℕ)) (rest ns : List ℕ) : Type 0 where
  pub over : Spaced gs rest
  pub count : length gs + length ns ≡ length fs
  pub join : (ms : List ℕ) → Numerals ms gs → Numerals (ns ++ ms) fs
  pub miss : (left : ℕ) → Left (replicate (length gs) numeral) gs left → Left (replicate (length fs) numeral) fs left

abbrev pub Reads : List (List ℕ) → List ℕ → List ℕ → Type 0
Reads fs rest ns = (gs : List (List ℕ)) × Taken fs gs rest ns

pub one_taken : (fs gs : List (List ℕ)) (rest ns : List ℕ) (n : ℕ) (after : Bor (List ℕ)) → Taken fs gs rest ns → 0 < length gs → TakesNumber rest (Some (n, after)) → Reads fs after.now (ns ++ n ∷ [])
one_taken fs [] rest ns n after t some k = absurd (omega arith)
one_taken fs (g ∷ gs) rest ns n after t some k =
    let told = k g gs t.over in (
      gs,
      record {
        over = told.1;
        count = omega (arith, t.count, length-append ns (n ∷ []));
        join = λ ms p. rw append_assoc (t.join (n ∷ ms) (told.0, p));
        miss = λ left p. t.miss left (inr ((n, told.0), p));
      },
    )

pub missed : (fs gs : List (List ℕ)) (rest ns : List ℕ) → Taken fs gs rest ns → 0 < length gs → TakesNumber rest None → Left (replicate (length fs) numeral) fs (length rest)
missed fs [] rest ns t some k = absurd (omega arith)
missed fs (g ∷ gs) rest ns t some k = t.miss (length rest) (inl (k g gs t.over, sym (ap length t.over.0)))

pub all_taken : (fs gs : List (List ℕ)) (rest ns : List ℕ) → Taken fs gs rest ns → length gs ≡ 0 → Numerals ns fs
all_taken fs [] rest ns t none = subst (λ l. Numerals l fs) (append-nil ns) (t.join [] tt)
all_taken fs (g ∷ gs) rest ns t none = absurd (omega arith)

-- fields are left just where bytes are
pub some_left : (gs : List (List ℕ)) (rest : List ℕ) → Spaced gs rest → 0 < length rest → 0 < length gs
some_left [] rest h some = absurd (omega (arith, ap length h.0))
some_left (g ∷ gs) rest h some = omega arith

pub none_left : (gs : List (List ℕ)) (rest : List ℕ) → Spaced gs rest → length rest ≡ 0 → length gs ≡ 0
none_left [] rest h none = refl
none_left (g ∷ gs) rest h none = absurd (omega (arith, some_bytes g gs rest h))
