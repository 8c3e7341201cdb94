-- Ways from board 0, and a settled hall.
use Rattle.std.specs.Prelude.{◌≡◌, ℕ, ◌<◌, false, Some, Option, ◌≢◌}
use Rattle.lengths.specs.Kind.{Kind}
use Rattle.rules.specs.declared.record.Record.{Record}
use Rattle.rules.specs.declared.status.Status.TheVariants.{I, C}
use Rattle.network.specs.declared.End.{End}

-- a chain of cables from board a to board b: b is in a's component
pub data Joined (far : ℕ → ℕ → Option End) (a : ℕ) : ℕ → Type 0 where
  here : Joined far a a
  along : {b : ℕ} → Joined far a b → (p : ℕ) (e : End) → far b p ≡ Some e → Joined far a e.board

-- a way to board b of length l: a walk along cables from board 0 whose every step extends the length
pub data Way {V : Type 0} (k : Kind V) (far : ℕ → ℕ → Option End) : ℕ → V → Type 0 where
  at_root : Way k far 0 k.start
  onward : {b : ℕ} {l : V} → Way k far b l → (p : ℕ) (e : End) (m : V) → far b p ≡ Some e → k.extended l e.weight ≡ Some m → Way k far e.board m

-- l is the least length that a way to board b has
pub record Least {V : Type 0} (k : Kind V) (far : ℕ → ℕ → Option End) (b : ℕ) (l : V) : Type 0 where
  pub way : Way k far b l
  pub least : (m : V) → Way k far b m → k.less m l ≡ false

-- board b's par leads to a board whose least length extends to b's length by that cable
pub record Parented {V : Type 0} (k : Kind V) (far : ℕ → ℕ → Option End) (b : ℕ) (own : Record V) : Type 0 where
  pub up : End
  pub leads : far b own.par ≡ Some up
  pub length : V
  pub least : Least k far up.board length
  pub extends : k.extended length up.weight ≡ Some own.length

-- each board of board 0's component is C with its least length, by a parent unless it is board 0; every other board is I
pub record Settled {V : Type 0} (k : Kind V) (n : ℕ) (far : ℕ → ℕ → Option End) (rec : ℕ → Record V) : Type 0 where
  pub correct : (b : ℕ) → b < n → Joined far 0 b → (rec b).status ≡ C
  pub shortest : (b : ℕ) → b < n → Joined far 0 b → Least k far b (rec b).length
  pub parented : (b : ℕ) → b < n → Joined far 0 b → (b ≢ 0) → Parented k far b (rec b)
  pub isolated : (b : ℕ) → b < n → (Joined far 0 b → ⊥) → (rec b).status ≡ I
