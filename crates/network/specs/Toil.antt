-- The toil that is left in a hall: a number that falls with every turn in which a board moves.
use Rattle.std.specs.Prelude.{ℕ, zero, suc, ◌+◌, ◌-◌, ◌*◌, ◌^◌, Bool, true, false, cond, Some, None, Option}
use Rattle.lengths.specs.Kind.{Kind}
use Rattle.rules.specs.Rules.{abnormal}
use Rattle.rules.specs.declared.record.Record.{Record}
use Rattle.rules.specs.declared.status.Status.{Status}
use Rattle.rules.specs.declared.status.Status.TheVariants.{I, C, EB, EF}
use Rattle.network.specs.Cables.{around}
use Rattle.network.specs.Turns.{alive_root}
use Rattle.network.specs.declared.End.{End}

-- the sum of f below n
unfoldable pub total : (ℕ → ℕ) → ℕ → ℕ
total f zero = 0
total f (suc n) = total f n + f n

-- whether the board at this far end passes the test
abbrev pub at_end : (ℕ → Bool) → Option End → Bool
at_end test None = false
at_end test (Some e) = test e.board

-- whether a board is held, by its status, whether it is an abnormal root, and the board above: EB abnormal roots are, and so are EB and EF boards below a held board
abbrev pub held_by : Status → Bool → (ℕ → Bool) → Option End → Bool
held_by I root above up = false
held_by C root above up = false
held_by EB true above up = true
held_by EB false above up = at_end above up
held_by EF true above up = false
held_by EF false above up = at_end above up

-- whether board b is held, by its chain of pars, followed over at most `fuel` boards
unfoldable pub held : {V : Type 0} → Kind V → (ℕ → ℕ → Option End) → (ℕ → Record V) → ℕ → ℕ → Bool
held k far rec zero b = false
held k far rec (suc fuel) b = held_by (rec b).status (abnormal k (rec b) (around far rec b)) (λ u. held k far rec fuel u) (far b (rec b).par)

-- how far a board has come: EF and not held, I, C, EB, EF and held
abbrev pub stage_of : Status → Bool → ℕ
stage_of I h = 1
stage_of C h = 2
stage_of EB h = 3
stage_of EF h = cond h 4 0

-- board b's stage; along a chain of pars the lengths fall, so it has at most one board more than the code of b's length
abbrev pub stage : {V : Type 0} → Kind V → (ℕ → ℕ → Option End) → (ℕ → Record V) → ℕ → ℕ
stage k far rec b = stage_of (rec b).status (held k far rec (suc (k.coded (rec b).length)) b)

-- how many of the boards below n are alive abnormal roots
abbrev pub alive_roots : {V : Type 0} → Kind V → ℕ → (ℕ → ℕ → Option End) → (ℕ → Record V) → ℕ
alive_roots k n far rec = total (λ b. cond (alive_root k far rec b) 1 0) n

-- board b's part of the toil, while there are d alive abnormal roots: its stage can fall only when one of them is lost
abbrev pub toil_of : {V : Type 0} → Kind V → (ℕ → ℕ → Option End) → (ℕ → Record V) → ℕ → ℕ → ℕ
toil_of k far rec d b = (5 * d + 4 - stage k far rec b) * 2 ^ 63 + k.coded (rec b).length

-- the sum of all boards' parts
unfoldable pub toil : {V : Type 0} → Kind V → ℕ → (ℕ → ℕ → Option End) → (ℕ → Record V) → ℕ
toil k n far rec = total (toil_of k far rec (alive_roots k n far rec)) n
