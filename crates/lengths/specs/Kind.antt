-- What a kind of length means, and the laws that every kind keeps.
use Rattle.std.specs.Prelude.{◌≡◌, ℕ, ◌^◌, ◌<◌, ◌≤◌, Bool, true, false, List, [], ◌∷◌, length, Some, None, Option}

pub record Kind (V : Type 0) : Type 0 where
  -- the order: whether the first value is less than the second
  pub less : V → V → Bool
  -- the length of the walk along no cable
  pub start : V
  -- the greatest value
  pub ceiling : V
  -- the cable weights that may be used
  pub admitted : ℕ → Bool
  -- the longer value over a cable of this weight, or nothing
  pub extended : V → ℕ → Option V
  -- the number that stands for the value in a frame or a script
  pub coded : V → ℕ
  -- the value of a code, or nothing
  pub decoded : ℕ → Option V

-- what was reached so far, extended by one more weight
abbrev pub onward : {V : Type 0} → Kind V → Option V → ℕ → Option V
onward k None w = None
onward k (Some v) w = k.extended v w

-- what was reached so far, extended by each weight in turn
abbrev pub along : {V : Type 0} → Kind V → Option V → List ℕ → Option V
along k v [] = v
along k v (w ∷ ws) = along k (onward k v w) ws

-- every weight of the list is admitted
abbrev pub AllAdmitted : {V : Type 0} → Kind V → List ℕ → Type 0
AllAdmitted k [] = Unit {0}
AllAdmitted k (w ∷ ws) = (k.admitted w ≡ true) × AllAdmitted k ws

-- a extends by w, to a value that is not greater than limit
pub record Within {V : Type 0} (k : Kind V) (a : V) (w : ℕ) (limit : V) : Type 0 where
  pub reached : V
  pub extends : k.extended a w ≡ Some reached
  pub short : k.less limit reached ≡ false

-- along the weights there is a value
pub record Reached {V : Type 0} (k : Kind V) (ws : List ℕ) : Type 0 where
  pub value : V
  pub is : along k (Some k.start) ws ≡ Some value

pub record Laws {V : Type 0} (k : Kind V) : Type 0 where
  -- the order is total, no two values tie in it, and no value is above the ceiling
  pub irreflexive : (a : V) → k.less a a ≡ false
  pub transitive : (a b c : V) → k.less a b ≡ true → k.less b c ≡ true → k.less a c ≡ true
  pub untied : (a b : V) → k.less a b ≡ false → k.less b a ≡ false → a ≡ b
  pub topped : (a : V) → k.less k.ceiling a ≡ false
  -- an extension is greater than what was extended, and a weight that is not admitted gives none
  pub longer : (a b : V) (w : ℕ) → k.extended a w ≡ Some b → k.less a b ≡ true
  pub unadmitted : (a : V) (w : ℕ) → k.admitted w ≡ false → k.extended a w ≡ None
  -- a length that is not greater extends wherever the other does, to a length that is not greater
  pub monotone : (a b limit : V) (w : ℕ) → k.less b a ≡ false → k.extended b w ≡ Some limit → Within k a w limit
  -- the start extends 63 times by admitted weights
  pub reaches : (ws : List ℕ) → length ws ≤ 63 → AllAdmitted k ws → Reached k ws
  -- each value has one code, below 2^63, lower for the lesser value, and a code is read back as its value
  pub bounded : (a : V) → k.coded a < 2 ^ 63
  pub ordered : (a b : V) → k.less a b ≡ true → k.coded a < k.coded b
  pub read_back : (a : V) → k.decoded (k.coded a) ≡ Some a
  pub own_code : (c : ℕ) (a : V) → k.decoded c ≡ Some a → k.coded a ≡ c
