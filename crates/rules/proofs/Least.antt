-- The least offer among the ports below a bound: what the search for it keeps.
use Rattle.std.proofs.Common.{◌≡◌, ℕ, ◌<◌, true, false, Some, None, Option}
use Rattle.lengths.specs.Kind.{Kind}
use Rattle.rules.specs.Rules.{offered}
use Rattle.rules.specs.declared.neighbourhood.Seen.{Seen}

-- port p offers l, and of the ports below n none offers less, and none below p the same
pub record Best {V : Type 0} (k : Kind V) (near : ℕ → Option (Seen V)) (n p : ℕ) (l : V) : Type 0 where
  pub port : p < n
  pub offer : offered k (near p) ≡ Some l
  pub least : (q : ℕ) (m : V) → q < n → offered k (near q) ≡ Some m → k.less m l ≡ false
  pub lowest : (q : ℕ) (m : V) → q < p → offered k (near q) ≡ Some m → k.less l m ≡ true

abbrev pub LeastBelow : {V : Type 0} → Kind V → (ℕ → Option (Seen V)) → ℕ → Option (ℕ × V) → Type 0
LeastBelow {V} k near n None = (q : ℕ) → q < n → offered k (near q) ≡ None
LeastBelow k near n (Some o) = Best k near n o.0 o.1
