-- What is promised of every run: of any list of calls on a new hall.
use Rattle.std.specs.Prelude.{◌≡◌, ℕ, ◌+◌, ◌<◌, ◌≤◌, Bool, true, false, cond, List, [], ◌∷◌, Ok, Err, Result, ◌≢◌}
use Rattle.lengths.specs.Kind.{Kind}
use Rattle.rules.specs.declared.verdict.Verdict.{Verdict}
use Rattle.network.specs.Turns.{Quiet, Repair, AliveRoots, alive_root, used}
use Rattle.network.specs.Ways.{Settled}
use Rattle.pickers.specs.Choices.{Chooses}
use Rattle.hall.specs.Hall.{boards_in, far_in, records_in, counts_in, Makes, Wires, Cuts, Planted, EnabledSet, Turned, Turns}
use Rattle.hall.specs.declared.fault.Fault.{Fault}
use Rattle.hall.specs.declared.tables.Hall.{Hall}

-- settle with a picker: while some board is enabled, it is asked once with the enabled boards, and its choice makes a turn
pub data Settles {V P : Type 0} (k : Kind V) (picks : P → ℕ → ℕ × P) : P → Hall V → P → Hall V → Type 0 where
  at_rest : {p : P} {h : Hall V} → EnabledSet k h 0 → Settles k picks p h p h
  asked : {p q : P} {h next end : Hall V} → (s : ℕ) → EnabledSet k h s → (s ≢ 0) → Turned k h (picks p s).0 next → Settles k picks (picks p s).1 next q end → Settles k picks p h q end

-- settle, whoever chooses: while some board is enabled, some enabled boards make a turn
pub data Settling {V : Type 0} (k : Kind V) : Hall V → Hall V → Type 0 where
  no_more : {h : Hall V} → EnabledSet k h 0 → Settling k h h
  one_turn : {h next end : Hall V} → (s choice : ℕ) → EnabledSet k h s → (s ≢ 0) → Chooses choice s → Turned k h choice next → Settling k next end → Settling k h end

-- a call, with what it was given and what it answered
pub data Call : Type 0 where
  wire : ℕ → ℕ → ℕ → ℕ → ℕ → Result (Unit {0}) Fault → Call
  cut : ℕ → ℕ → Result (Unit {0}) Fault → Call
  plant : ℕ → ℕ → ℕ → ℕ → Result (Unit {0}) Fault → Call
  turn : ℕ → Result ℕ Fault → Call
  settle : Call

-- what a call does to the hall that it finds
pub data Does {V : Type 0} (k : Kind V) : Call → Hall V → Hall V → Type 0 where
  wires : {before after : Hall V} → (a p b q w : ℕ) (r : Result (Unit {0}) Fault) → Wires k before a p b q w r after → Does k (wire a p b q w r) before after
  cuts : {before after : Hall V} → (a p : ℕ) (r : Result (Unit {0}) Fault) → Cuts k before a p r after → Does k (cut a p r) before after
  plants : {before after : Hall V} → (b s p c : ℕ) (r : Result (Unit {0}) Fault) → Planted k before b s p c r after → Does k (plant b s p c r) before after
  turns : {before after : Hall V} → (s m : ℕ) → Turns k before s (Ok m) after → Does k (turn s (Ok m)) before after
  refuses_turn : {before after : Hall V} → (s : ℕ) (f : Fault) → Turns k before s (Err f) after → Does k (turn s (Err f)) before after
  settles : {before after : Hall V} → Settling k before after → Does k settle before after

-- a run: a new hall, and one call after another on what the ones before left; the latest call stands first
pub data Run {V : Type 0} (k : Kind V) : List Call → Hall V → Type 0 where
  begun : {h : Hall V} → (n : ℕ) → Makes k n (Ok h) → Run k [] h
  called : {calls : List Call} {before after : Hall V} → Run k calls before → (c : Call) → Does k c before after → Run k (c ∷ calls) after

-- whether an answer accepts
abbrev pub accepted : {T : Type 0} → Result T Fault → Bool
accepted (Ok _) = true
accepted (Err _) = false

-- whether a call was a change: an accepted wire, cut or plant
abbrev pub changed : Call → Bool
changed (wire a p b q w r) = accepted r
changed (cut a p r) = accepted r
changed (plant b s p c r) = accepted r
changed (turn s r) = false
changed settle = false

-- the hall just after the last change, or else the new hall
abbrev pub last_change : {V : Type 0} {k : Kind V} {calls : List Call} {h : Hall V} → Run k calls h → Hall V
last_change (begun {h = new} n m) = new
last_change (called {after = now} run c d) = cond (changed c) now (last_change run)

-- how often board b moves by rule v in a settle
abbrev pub settle_moves : {V : Type 0} {k : Kind V} {before after : Hall V} → Settling k before after → ℕ → Verdict → ℕ
settle_moves (no_more rest) b v = 0
settle_moves (one_turn s choice enabled some chooses turned later) b v = used (turned.by b) v + settle_moves later b v

-- how often board b moves by rule v in a call
abbrev pub call_moves : {V : Type 0} {k : Kind V} {c : Call} {before after : Hall V} → Does k c before after → ℕ → Verdict → ℕ
call_moves (wires a p b q w r d) u v = 0
call_moves (cuts a p r d) u v = 0
call_moves (plants b s p c r d) u v = 0
call_moves (turns s m d) u v = used (d.2.by u) v
call_moves (refuses_turn s f d) u v = 0
call_moves (settles d) u v = settle_moves d u v

-- how often board b has moved by rule v since the last change, or else since new
abbrev pub moves_since : {V : Type 0} {k : Kind V} {calls : List Call} {h : Hall V} → Run k calls h → ℕ → Verdict → ℕ
moves_since (begun n m) b v = 0
moves_since (called run c d) b v = cond (changed c) 0 (moves_since run b v + call_moves d b v)

-- P of the hall before and the hall after each turn of a settle
abbrev pub EachIn : {V : Type 0} {k : Kind V} → (Hall V → Hall V → Type 0) → {before after : Hall V} → Settling k before after → Type 0
EachIn P (no_more rest) = Unit {0}
EachIn P (one_turn {h = x} {next = y} s choice enabled some chooses turned later) = P x y × EachIn P later

-- P of the hall before and the hall after each turn of a call
abbrev pub EachOf : {V : Type 0} {k : Kind V} → (Hall V → Hall V → Type 0) → {c : Call} {before after : Hall V} → Does k c before after → Type 0
EachOf P (wires a p b q w r d) = Unit {0}
EachOf P (cuts a p r d) = Unit {0}
EachOf P (plants b s p c r d) = Unit {0}
EachOf P (turns {before = x} {after = y} s m d) = P x y
EachOf P (refuses_turn s f d) = Unit {0}
EachOf P (settles d) = EachIn P d

-- P of the hall before and the hall after each turn of a run, settle's own included
abbrev pub EachTurn : {V : Type 0} {k : Kind V} → (Hall V → Hall V → Type 0) → {calls : List Call} {h : Hall V} → Run k calls h → Type 0
EachTurn P (begun n m) = Unit {0}
EachTurn P (called run c d) = EachTurn P run × EachOf P d

-- whether board b is an alive abnormal root
abbrev pub alive_in : {V : Type 0} → Kind V → Hall V → ℕ → Bool
alive_in k h = alive_root k (far_in h) (records_in k h)

-- every alive abnormal root was one before
abbrev pub NoNewRoot : {V : Type 0} → Kind V → Hall V → Hall V → Type 0
NoNewRoot k before after = (b : ℕ) → alive_in k after b ≡ true → alive_in k before b ≡ true

-- no board of the hall is enabled
abbrev pub AtRest : {V : Type 0} → Kind V → Hall V → Type 0
AtRest k h = Quiet k (boards_in h) (far_in h) (records_in k h)

-- the hall is settled
abbrev pub IsSettled : {V : Type 0} → Kind V → Hall V → Type 0
IsSettled k h = Settled k (boards_in h) (far_in h) (records_in k h)

-- where board b's component had c alive abnormal roots in `first`, m moves by a rule are at most c + 1, and the tally tells them
pub record Bounded {V : Type 0} (k : Kind V) (first : Hall V) (b m told : ℕ) : Type 0 where
  pub roots : ℕ
  pub counted : AliveRoots k (boards_in first) (far_in first) (records_in k first) b roots
  pub few : m ≤ roots + 1
  pub tally : told ≡ m

-- what holds after every run
pub record Claims {V : Type 0} (k : Kind V) {calls : List Call} {h : Hall V} (run : Run k calls h) : Type 0 where
  -- no turn made a board an alive abnormal root that was none just before
  pub no_new_roots : EachTurn (NoNewRoot k) run
  -- the hall is settled exactly when no board is enabled
  pub rests_when_settled : IsSettled k h → AtRest k h
  pub settled_at_rest : AtRest k h → IsSettled k h
  -- whichever settle comes next leaves the hall settled
  pub settles_next : (end : Hall V) → Settling k h end → IsSettled k end
  -- since the last change each board has made each repair move at most once more than its component had alive abnormal roots just after it, and its tally gives exactly these numbers
  pub repairs : (b : ℕ) → b < boards_in h → (v : Verdict) → Repair v → Bounded k (last_change run) b (moves_since run b v) (counts_in h b v)

-- the promise: every run, of any calls, keeps the claims
abbrev pub EveryRun : {V : Type 0} → Kind V → Type 0
EveryRun {V} k = (calls : List Call) (h : Hall V) (run : Run k calls h) → Claims k run
