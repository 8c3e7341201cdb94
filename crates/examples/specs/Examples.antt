-- Worked examples, each a concrete case of a definition.
use Rattle.std.specs.Prelude.{◌≡◌, ℕ, ◌+◌, ◌^◌, Bool, true, false, T, [], ◌∷◌, Some, None, Option, nat_lt, slice_index_or}
use Rattle.std.proofs.Common.{lit<}
use Rattle.lengths.specs.Metres.{metres}
use Rattle.lengths.specs.Grade.{grade}
use Rattle.lengths.specs.declared.metres.Metres.{Metres}
use Rattle.lengths.specs.declared.grade.Grade.{Grade}
use Rattle.rules.specs.Rules.{offered, Judged, Moves}
use Rattle.rules.specs.declared.neighbourhood.Seen.{Seen}
use Rattle.rules.specs.declared.record.Record.{Record}
use Rattle.rules.specs.declared.status.Status.{Status}
use Rattle.rules.specs.declared.status.Status.TheVariants.{C, EB}
use Rattle.rules.specs.declared.verdict.Verdict.{Verdict}
use Rattle.rules.specs.declared.verdict.Verdict.TheVariants.{RC, REB, REF, RI, RR}
use Rattle.network.specs.Cables.{Cabled, Weighed}
use Rattle.network.specs.Turns.{HasVerdict, Quiet, Turn}
use Rattle.network.specs.Ways.{Settled}
use Rattle.pickers.specs.Choices.{pick_ring}
use Rattle.examples.specs.Hall.{long, keeps, far_h, rec_h, once_h, twice_h, settled_h, verdicts}

-- a port shows a board of this status and length in metres, over a cable of weight w; its par names the cable, or not
abbrev pub showing : Status → (n : ℕ) → T (nat_lt n (2 ^ 32)) → ℕ → Bool → Option (Seen Metres)
showing s n t w par = Some (record { status = s; length = long n t; weight = w; named = par })

-- ports 0 and 1 show these, and no other port has a cable
abbrev pub two_ports : Option (Seen Metres) → Option (Seen Metres) → ℕ → Option (Seen Metres)
two_ports zeroth first p = slice_index_or (zeroth ∷ first ∷ []) p None

-- a grade of so many hops and this worst cable
abbrev pub hops_worst : (h w : ℕ) → T (nat_lt h (2 ^ 16)) → T (nat_lt w (2 ^ 8)) → Grade
hops_worst h w s t = record { hops = h; worst = w; few = lit< s; graded = lit< t }

-- board b of the example hall has this verdict, or it has none
abbrev pub VerdictOf : (ℕ → Record Metres) → ℕ → Option Verdict → Type 0
VerdictOf rec b None = (v : Verdict) → HasVerdict metres 4 far_h rec b v → ⊥
VerdictOf rec b (Some v) = HasVerdict metres 4 far_h rec b v

-- a turn of the example hall in which every enabled board moves: `by b` is board b's verdict, wherever it has one
pub record AllMove (rec : ℕ → Record Metres) (by : ℕ → Option Verdict) (after : ℕ → Record Metres) : Type 0 where
  pub everybody : (b : ℕ) → VerdictOf rec b (by b)
  pub turn : Turn metres 4 far_h rec by after

pub record Examples : Type 0 where
  -- the example hall's cables join ports of two boards each, and their weights are admitted
  pub cabled : Cabled 4 far_h
  pub weighed : Weighed metres far_h
  -- its first verdicts: the root has none, boards 1 and 2 join, and board 3 finds its way broken
  pub first_0 : (v : Verdict) → HasVerdict metres 4 far_h rec_h 0 v → ⊥
  pub first_1 : HasVerdict metres 4 far_h rec_h 1 RR
  pub first_2 : HasVerdict metres 4 far_h rec_h 2 RR
  pub first_3 : HasVerdict metres 4 far_h rec_h 3 REB
  -- when all enabled boards move each time, it settles in three turns: boards 1 and 2 join and board 3 tells its children;
  -- board 2 finds the shorter way by board 1 and board 3, which has no children, has heard them all; board 3 gives up
  pub turn_1 : AllMove rec_h (verdicts (Some RR) (Some RR) (Some REB)) once_h
  pub turn_2 : AllMove once_h (verdicts None (Some RC) (Some REF)) twice_h
  pub turn_3 : AllMove twice_h (verdicts None None (Some RI)) settled_h
  -- and then no board is enabled, and the hall is settled
  pub quiet : Quiet metres 4 far_h settled_h
  pub settled : Settled metres 4 far_h settled_h
  -- a C neighbour at 4,294,967,255 metres offers the greatest length over a cable of 40, and one metre further on it offers none
  pub offers : offered metres (showing C 4294967255 tt 40 false) ≡ Some (long 4294967295 tt)
  pub no_offer : offered metres (showing C 4294967256 tt 40 false) ≡ None
  -- an EB board at 50 metres waits for its child at port 1, which is C at 57: it has no verdict
  pub waits : Judged metres (keeps EB 0 50 tt) (two_ports (showing EB 10 tt 40 false) (showing C 57 tt 7 true)) None
  -- a C board at 50 metres, below an EB board at port 0, takes the lesser offer of port 1: RC comes before REB
  pub takes : Moves metres (keeps C 0 50 tt) (two_ports (showing EB 10 tt 40 false) (showing C 20 tt 7 false)) (Some RC) (keeps C 1 27 tt)
  -- no hops extended by a cable of grade 7 have code 263, and that extended by one of grade 3 has code 519
  pub one_hop : grade.extended (hops_worst 0 0 tt tt) 7 ≡ Some (hops_worst 1 7 tt tt)
  pub one_hop_code : grade.coded (hops_worst 1 7 tt tt) ≡ 263
  pub two_hops : grade.extended (hops_worst 1 7 tt tt) 3 ≡ Some (hops_worst 2 7 tt tt)
  pub two_hops_code : grade.coded (hops_worst 2 7 tt tt) ≡ 519
  -- one hop over the worst cable is less than two hops over the best
  pub fewer_hops : grade.less (hops_worst 1 255 tt tt) (hops_worst 2 1 tt tt) ≡ true
  -- Ring, whose last board was 1, asked with boards 1 and 3 chooses 3, and asked with them again chooses 1
  pub ring_onward : pick_ring (record { last = 1 }) (2 ^ 1 + 2 ^ 3) ≡ (2 ^ 3, record { last = 3 })
  pub ring_round : pick_ring (record { last = 3 }) (2 ^ 1 + 2 ^ 3) ≡ (2 ^ 1, record { last = 1 })
