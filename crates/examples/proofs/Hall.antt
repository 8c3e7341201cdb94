-- The example hall's turns, board by board.
use Rattle.std.proofs.Common.{◌≡◌, ℕ, zero, suc, ◌<◌, Some, None, Option, refl, ap, inl, arith, lit<}
use native.Mathlib.Decide.{dec_lt}
use Rattle.lengths.specs.Metres.{metres}
use Rattle.lengths.specs.MetresLaws.{same}
use Rattle.lengths.specs.declared.metres.Metres.{Metres}
use Rattle.rules.specs.Rules.{Moves}
use Rattle.rules.specs.declared.record.Record.{Record}
use Rattle.rules.specs.declared.verdict.Verdict.{Verdict}
use Rattle.rules.specs.declared.verdict.Verdict.TheVariants.{RC, REB, REF, RI, RR}
use Rattle.network.specs.Cables.{around}
use Rattle.network.specs.Turns.{HasVerdict, Quiet, Part}
use Rattle.network.proofs.Views.{nothing}
use Rattle.examples.specs.Hall.{long, far_h, boards, verdicts, rec_h, once_h, twice_h, settled_h}
use Rattle.examples.specs.Examples.{VerdictOf, AllMove}
use Rattle.examples.proofs.Ports.{least_offer, no_lesser, no_offers, joins, improves, content, isolated}

by_board : (P : ℕ → Type 0) → P 0 → P 1 → P 2 → P 3 → ((b : ℕ) → P (suc (suc (suc (suc b))))) → (b : ℕ) → P b
by_board P p0 p1 p2 p3 p4 zero = p0
by_board P p0 p1 p2 p3 p4 (suc zero) = p1
by_board P p0 p1 p2 p3 p4 (suc (suc zero)) = p2
by_board P p0 p1 p2 p3 p4 (suc (suc (suc zero))) = p3
by_board P p0 p1 p2 p3 p4 (suc (suc (suc (suc b)))) = p4 b

-- board b, which is not the root, moves by this verdict, or has none and stays as it is
abbrev MovesAt : (ℕ → Record Metres) → ℕ → Option Verdict → Record Metres → Type 0
MovesAt rec b o next = Moves metres (rec b) (around far_h rec b) o next

-- board b's verdict, if it has one, and its part in the turn
abbrev Does : (ℕ → Record Metres) → ℕ → Option Verdict → Record Metres → Type 0
Does rec b o next = VerdictOf rec b o × Part metres 4 far_h rec b o next

does : (rec : ℕ → Record Metres) (b : ℕ) (o : Option Verdict) (next : Record Metres) → b < 4 → (b ≡ 0 → ⊥) → MovesAt rec b o next → Does rec b o next
does rec b None next lt ne m = (λ v h. m.0 v h.2, m.1)
does rec b (Some v) next lt ne m = let has : HasVerdict metres 4 far_h rec b v = (lt, ne, m.0) in (has, (has, m.1))

-- the root and what is no board have no verdict
pub root_none : (rec : ℕ → Record Metres) → VerdictOf rec 0 None
root_none rec v h = h.1 refl

no_board : (rec : ℕ → Record Metres) (b : ℕ) → VerdictOf rec (suc (suc (suc (suc b)))) None
no_board rec b v h = absurd (omega (arith, h.0))

-- a turn of all is what boards 1, 2 and 3 do
all_move : {one two three one' two' three' : Record Metres} {x y z : Option Verdict} → MovesAt (boards one two three) 1 x one' → MovesAt (boards one two three) 2 y two' → MovesAt (boards one two three) 3 z three' → AllMove (boards one two three) (verdicts x y z) (boards one' two' three')
all_move {one} {two} {three} {one'} {two'} {three'} {x} {y} {z} m1 m2 m3 = record { everybody = λ b. (at b).0; turn = λ b. (at b).1 }
  where
    at : (b : ℕ) → Does (boards one two three) b (verdicts x y z b) (boards one' two' three' b)
    at = by_board (λ b. Does (boards one two three) b (verdicts x y z b) (boards one' two' three' b))
        (root_none (boards one two three), refl)
        (does (boards one two three) 1 x one' (lit< tt) (λ e. omega arith) m1)
        (does (boards one two three) 2 y two' (lit< tt) (λ e. omega arith) m2)
        (does (boards one two three) 3 z three' (lit< tt) (λ e. omega arith) m3)
        (λ b. (no_board (boards one two three) b, refl))

pub turn_1 : AllMove rec_h (verdicts (Some RR) (Some RR) (Some REB)) once_h
unfolding dec_lt
turn_1 = all_move
    (joins metres (rec_h 1) (around far_h rec_h 1) refl (refl, least_offer 0 (long 40 tt) (lit< tt) (ap Some (same _ _ refl)) refl refl))
    (joins metres (rec_h 2) (around far_h rec_h 2) refl (refl, least_offer 1 (long 90 tt) (lit< tt) (ap Some (same _ _ refl)) refl refl))
    ((refl, no_lesser refl, inl refl), refl)

pub turn_2 : AllMove once_h (verdicts None (Some RC) (Some REF)) twice_h
unfolding dec_lt
turn_2 = all_move
    (content metres (once_h 1) (around far_h once_h 1) refl refl refl, refl)
    (improves metres (once_h 2) (around far_h once_h 2) refl refl (refl, least_offer 0 (long 70 tt) (lit< tt) (ap Some (same _ _ refl)) refl refl))
    ((refl, λ p s lt e c. absurd (nothing e refl)), refl)

pub turn_3 : AllMove twice_h (verdicts None None (Some RI)) settled_h
unfolding dec_lt
turn_3 = all_move
    (content metres (twice_h 1) (around far_h twice_h 1) refl refl refl, refl)
    (content metres (twice_h 2) (around far_h twice_h 2) refl refl refl, refl)
    ((refl, refl, no_offers refl), refl)

-- when the hall is settled, nobody moves any more
still : AllMove settled_h (verdicts None None None) settled_h
unfolding dec_lt
still = all_move
    (content metres (settled_h 1) (around far_h settled_h 1) refl refl refl, refl)
    (content metres (settled_h 2) (around far_h settled_h 2) refl refl refl, refl)
    (isolated metres (settled_h 3) (around far_h settled_h 3) refl refl, refl)

pub quiet : Quiet metres 4 far_h settled_h
quiet = by_board (λ b. VerdictOf settled_h b None) (still.everybody 0) (still.everybody 1) (still.everybody 2) (still.everybody 3) (no_board settled_h)
