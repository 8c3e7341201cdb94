use Rattle.std.proofs.Common.{◌≡◌, ℕ, ◌≤◌, true, false, is_some, Some, None, Option, MatchOption, refl, arith, rules}
use Rattle.sets.specs.Sets.{has, LeastFrom}
use Rattle.hall.specs.Hall.TurnFault.{beyond, nobody, disabled}
use Rattle.hall.proofs.Verdicts.{all_there}
use Rattle.hall.proofs.tables.Hall.turn.Goals as goal

-- a board that is not there was found in the set, or none was
found : (s n : ℕ) (r : Option ℕ) → is_some r ≡ true → MatchOption r ((b : ℕ) → n ≤ b → has s b ≡ false) (LeastFrom s n) → (b : ℕ) × LeastFrom s n b
found s n None e c = let z : ◌≡◌ {A = ℕ} 0 1 = cc in absurd (omega arith)
found s n (Some b) e c = (b, c)

none_found : (s n : ℕ) (r : Option ℕ) → is_some r ≡ false → MatchOption r ((b : ℕ) → n ≤ b → has s b ≡ false) (LeastFrom s n) → (b : ℕ) → n ≤ b → has s b ≡ false
none_found s n None e c = c
none_found s n (Some b) e c = let z : ◌≡◌ {A = ℕ} 0 1 = cc in absurd (omega arith)

pub returns-then-is_some : goal.returns-then-is_some
returns-then-is_some g c =
    let is : is_some c.least_from.result ≡ true = search rules in
    let l = found c.args.set c.boards.result c.least_from.result is c.least_from.ensures in
    (beyond l.0 l.1.there (omega (arith, l.1.onward, c.boards.ensures)), refl)

pub returns-then-set-eq0 : goal.returns-then-set-eq0
returns-then-set-eq0 g c = (nobody c.if-set-eq0.true, refl)

pub returns-then-not-all_enabled : goal.returns-then-not-all_enabled
returns-then-not-all_enabled g c =
    let is : is_some c.least_from.result ≡ false = search rules in
    let none = none_found c.args.set c.boards.result c.least_from.result is c.least_from.ensures in
    (disabled (all_there c.args.self.now c.args.set c.boards.result c.boards.ensures none) c.if-not-all_enabled.ensures, refl)
