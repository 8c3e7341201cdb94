-- Statuses by their numbers.
use Rattle.std.specs.Prelude.{◌≡◌, ℕ, zero, suc, ◌≤◌, Bool, ◌==◌, Result, MatchResult}
use Rattle.rules.specs.declared.status.NoStatus.{NoStatus}
use Rattle.rules.specs.declared.status.Status.{Status}
use Rattle.rules.specs.declared.status.Status.TheVariants.{I, C, EB, EF}

-- the number that stands for a status in a frame or a script
abbrev pub number_of : Status → ℕ
number_of I = 0
number_of C = 1
number_of EB = 2
number_of EF = 3

-- the status that a number up to 3 stands for
abbrev pub status_of : ℕ → Status
status_of zero = I
status_of (suc zero) = C
status_of (suc (suc zero)) = EB
status_of (suc (suc (suc n))) = EF

-- whether two statuses are the same
abbrev pub same : Status → Status → Bool
same s t = number_of s == number_of t

-- the status of a number, and none from 4 on
abbrev pub NumberOf : ℕ → Result Status NoStatus → Type 0
NumberOf n r = MatchResult r (λ s. number_of s ≡ n) (λ _. 4 ≤ n)
