-- Turns: any boards that have a verdict move together, each by the records as they stood before.
use Rattle.std.specs.Prelude.{◌≡◌, ℕ, ◌+◌, ◌<◌, Bool, true, cond, not, ◌&&◌, ◌||◌, Some, None, Option, ◌==◌, ◌≢◌}
use Rattle.lengths.specs.Kind.{Kind}
use Rattle.rules.specs.Rules.{abnormal, Enabled, Effect}
use Rattle.rules.specs.Status.{same}
use Rattle.rules.specs.declared.record.Record.{Record}
use Rattle.rules.specs.declared.status.Status.TheVariants.{C, EB}
use Rattle.rules.specs.declared.verdict.Verdict.{Verdict}
use Rattle.rules.specs.declared.verdict.Verdict.TheVariants.{RC, REB, REF, RI, RR}
use Rattle.sets.specs.Counts.{Count}
use Rattle.network.specs.Cables.{around}
use Rattle.network.specs.Ways.{Joined}
use Rattle.network.specs.declared.End.{End}

-- whether board b is an alive abnormal root: an abnormal root that is C or EB; board 0 never is
abbrev pub alive_root : {V : Type 0} → Kind V → (ℕ → ℕ → Option End) → (ℕ → Record V) → ℕ → Bool
alive_root k far rec b = not (b == 0) && (abnormal k (rec b) (around far rec b) && (same (rec b).status C || same (rec b).status EB))

-- board b has the verdict v; board 0 and what is no board have none
abbrev pub HasVerdict : {V : Type 0} → Kind V → ℕ → (ℕ → ℕ → Option End) → (ℕ → Record V) → ℕ → Verdict → Type 0
HasVerdict k n far rec b v = (b < n) × (b ≢ 0) × Enabled k (rec b) (around far rec b) v

-- no board is enabled
abbrev pub Quiet : {V : Type 0} → Kind V → ℕ → (ℕ → ℕ → Option End) → (ℕ → Record V) → Type 0
Quiet k n far rec = (b : ℕ) (v : Verdict) → HasVerdict k n far rec b v → ⊥

-- board b's part in a turn: it moves by its verdict, or it is not chosen and keeps its record
abbrev pub Part : {V : Type 0} → Kind V → ℕ → (ℕ → ℕ → Option End) → (ℕ → Record V) → ℕ → Option Verdict → Record V → Type 0
Part k n far rec b None next = next ≡ rec b
Part k n far rec b (Some v) next = HasVerdict k n far rec b v × Effect k (rec b) (around far rec b) v next

-- a turn in which each board b moves by `by b`
abbrev pub Turn : {V : Type 0} → Kind V → ℕ → (ℕ → ℕ → Option End) → (ℕ → Record V) → (ℕ → Option Verdict) → (ℕ → Record V) → Type 0
Turn k n far rec by after = (b : ℕ) → Part k n far rec b (by b) (after b)

-- the rules in their order
abbrev pub rank : Verdict → ℕ
rank RC = 0
rank REB = 1
rank REF = 2
rank RI = 3
rank RR = 4

-- 1 where the rule v was used, and else 0
abbrev pub used : Option Verdict → Verdict → ℕ
used None v = 0
used (Some u) v = cond (rank u == rank v) 1 0

-- the repair moves: all but RC
abbrev pub Repair : Verdict → Type 0
Repair RC = ⊥
Repair REB = Unit {0}
Repair REF = Unit {0}
Repair RI = Unit {0}
Repair RR = Unit {0}

-- turns one after another from the records `first`, and how often each board has moved by each rule in them
pub data Turns {V : Type 0} (k : Kind V) (n : ℕ) (far : ℕ → ℕ → Option End) (first : ℕ → Record V) : (ℕ → Record V) → (ℕ → Verdict → ℕ) → Type 0 where
  no_turn : Turns k n far first first (λ b v. 0)
  one_more : {rec : ℕ → Record V} {count : ℕ → Verdict → ℕ} → Turns k n far first rec count → (by : ℕ → Option Verdict) (after : ℕ → Record V) → Turn k n far rec by after → Turns k n far first after (λ b v. count b v + used (by b) v)

-- b's component has c alive abnormal roots
abbrev pub AliveRoots : {V : Type 0} → Kind V → ℕ → (ℕ → ℕ → Option End) → (ℕ → Record V) → ℕ → ℕ → Type 0
AliveRoots k n far rec b c = Count (λ u. Joined far b u × (alive_root k far rec u ≡ true)) n c
