-- One more board in a set.
use Rattle.std.proofs.Common.{◌≡◌, ℕ, ◌^◌, ◌<◌, ◌&&◌, ◌||◌, eqb, ltb, leb, List, [], ◌∷◌, ◌++◌, sym, ◌∙◌, subst, ⊎_elim, arith}
use Rattle.std.specs.List.{ContainsAt as Has}
use Rattle.std.proofs.ByRecursion.{has_push, has_push_cases, has_append_left}
use Rattle.std.proofs.lemmas.Bool.{eqb-true, eq-eqb, lt-ltb, leb-true, le-leb, and_parts, and_from, or_cases, or_left, or_right}
use Rattle.sets.specs.Sets.{has}
use Rattle.commands.specs.declared.boards.Boards.{Boards}
use Rattle.commands.specs.Sets.{SetOf}

pub set_more : (boards more : Boards) (ns : List ℕ) (n : ℕ) → more.set < 2 ^ 64 → ((b : ℕ) → has more.set b ≡ (has boards.set b || (eqb b n && ltb n 64))) → more.beyond ≡ (boards.beyond || leb 64 n) → SetOf boards ns → SetOf more (ns ++ n ∷ [])
set_more boards more ns n small e f h = record {
  small = small;
  named = λ i lt m. ⊎_elim
      (λ old. has_append_left ns (n ∷ []) i (h.named i lt old))
      (λ new. subst (Has (ns ++ n ∷ [])) (sym (eqb-true i n (and_parts (eqb i n) (ltb n 64) new).0)) (has_push ns n))
      (or_cases (has boards.set i) (eqb i n && ltb n 64) (sym (e i) ∙ m));
  held = λ i lt m. e i ∙ ⊎_elim
      (λ old. or_left (has boards.set i) (eqb i n && ltb n 64) (h.held i lt old))
      (λ same. or_right (has boards.set i) (eqb i n && ltb n 64) (and_from (eqb i n) (ltb n 64) (eq-eqb i n (sym same)) (lt-ltb n 64 (omega arith))))
      (has_push_cases ns n i m);
  others = (
    λ t. ⊎_elim
        (λ old. let one = h.others.0 old in (one.0, one.1, has_append_left ns (n ∷ []) one.0 one.2))
        (λ large. (n, leb-true 64 n large, has_push ns n))
        (or_cases boards.beyond (leb 64 n) (sym f ∙ t)),
    λ m. f ∙ ⊎_elim
        (λ old. or_left boards.beyond (leb 64 n) (h.others.1 (m.0, m.1, old)))
        (λ same. or_right boards.beyond (leb 64 n) (le-leb 64 n (omega (arith, m.1))))
        (has_push_cases ns n m.0 m.2),
  );
}
