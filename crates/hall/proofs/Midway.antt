-- A turn in the making: of the boards of the set, those below m have moved.
use Rattle.std.proofs.Common.{◌≡◌, ℕ, ◌+◌, ◌<◌, ◌≤◌, Bool, true, false, ◌&&◌, ltb, List, get_or, Some, None, Option, sym, ap, ◌∙◌, subst, ap₂, arith, le-ltb, lt-ltb}
use mathlib.Core.Logic.{by_cases}
use native.Mathlib.Decide.{ℕ_discrete, dec_lt}
use Rattle.lengths.specs.Kind.{Kind}
use Rattle.rules.specs.declared.record.Record.{Record}
use Rattle.rules.specs.declared.verdict.Verdict.{Verdict}
use Rattle.network.specs.Turns.{Part}
use Rattle.sets.specs.Sets.{has}
use Rattle.hall.specs.Hall.{boards_in, far_in, records_in, counts_in, count_of, counted, nothing, MovesBy, MoveIn, Noted, Turned}
use Rattle.hall.specs.Tables.{rec_of}
use Rattle.hall.specs.declared.tables.Hall.{Hall}
use Rattle.hall.specs.declared.tables.Tally.{Tally}
use Rattle.hall.proofs.Beginning.{put_record, other_record}

-- board b's part in a turn, where `chosen` says whether it is to move: its next record and tally
pub record Turning {V : Type 0} (k : Kind V) (h : Hall V) (chosen : Bool) (b : ℕ) (next : Record V) (t : Tally) : Type 0 where
  pub by : Option Verdict
  pub moves : MovesBy k h chosen b by
  pub part : Part k (boards_in h) (far_in h) (records_in k h) b by next
  pub counts : (v : Verdict) → count_of t v ≡ counted (counts_in h b v) by v

abbrev pub Midway : {V : Type 0} → Kind V → Hall V → ℕ → ℕ → List (Record V) → List Tally → Type 0
Midway k h s m rs ts = (b : ℕ) → Turning k h (ltb b m && has s b) b (rec_of k rs b) (get_or ts b nothing)

-- whether a board is below m + 1, other than m
same_side : (b m : ℕ) → (b ≡ m → ⊥) → ltb b m ≡ ltb b (m + 1)
same_side b m ne =
    by_cases (dec_lt b m)
    (λ lt. lt-ltb b m lt ∙ sym (lt-ltb b (m + 1) (omega arith)))
    (λ ge. le-ltb b m (omega arith) ∙ sym (le-ltb b (m + 1) (omega arith)))

shifted : {V : Type 0} (k : Kind V) (h : Hall V) (t u : Bool) (b : ℕ) (next : Record V) (c : Tally) → t ≡ u → Turning k h t b next c → Turning k h u b next c
shifted k h t u b next c e x = subst (λ y. Turning k h y b next c) e x

-- the boards up to the next one of the set are not chosen
pub skipped : {V : Type 0} (k : Kind V) (h : Hall V) (s from m : ℕ) (rs : List (Record V)) (ts : List Tally) → Midway k h s from rs ts → from ≤ m → ((c : ℕ) → from ≤ c → c < m → has s c ≡ false) → Midway k h s m rs ts
skipped k h s from m rs ts i on none b = shifted k h (ltb b from && has s b) (ltb b m && has s b) b (rec_of k rs b) (get_or ts b nothing) same (i b)
  where
    same : (ltb b from && has s b) ≡ (ltb b m && has s b)
    same =
        by_cases (dec_lt b from)
        (λ lt. ap (λ t. t && has s b) (lt-ltb b from lt ∙ sym (lt-ltb b m (omega arith))))
        (λ ge. by_cases (dec_lt b m)
        (λ lt. let out = none b (omega arith) lt in ap₂ ◌&&◌ (le-ltb b from (omega arith)) out ∙ sym (ap₂ ◌&&◌ (lt-ltb b m lt) out))
        (λ far. ap (λ t. t && has s b) (le-ltb b from (omega arith) ∙ sym (le-ltb b m (omega arith)))))

-- a board that is not chosen keeps its tally and record
kept : {V : Type 0} (k : Kind V) (h : Hall V) (b : ℕ) (next : Record V) (t : Tally) (chosen : Bool) → chosen ≡ false → Turning k h chosen b next t → (next ≡ records_in k h b) × ((v : Verdict) → count_of t v ≡ counts_in h b v)
kept k h b next t true out x = let z : ◌≡◌ {A = ℕ} 0 1 = cc in absurd (omega arith)
kept k h b next t false out x = go x.by x.moves x.part x.counts
  where
    go : (by : Option Verdict) → by ≡ None → Part k (boards_in h) (far_in h) (records_in k h) b by next → ((v : Verdict) → count_of t v ≡ counted (counts_in h b v) by v) → (next ≡ records_in k h b) × ((v : Verdict) → count_of t v ≡ counts_in h b v)
    go None e p c = (p, c)
    go (Some u) e p c = let z : ◌≡◌ {A = ℕ} 0 1 = cc in absurd (omega arith)

-- the board at hand is chosen and has no verdict
pub idles : {V : Type 0} (k : Kind V) (h : Hall V) (s m : ℕ) (rs : List (Record V)) (ts : List Tally) (next : Record V) → Midway k h s m rs ts → has s m ≡ true → MoveIn k h m None next → Midway k h s (m + 1) rs ts
idles k h s m rs ts next i chosen move b =
    by_cases (ℕ_discrete b m)
    (λ e. subst (λ x. Turning k h (ltb x (m + 1) && has s x) x (rec_of k rs x) (get_or ts x nothing)) (sym e) (at-hand (ltb m (m + 1) && has s m) (ap₂ ◌&&◌ (lt-ltb m (m + 1) (omega arith)) chosen)))
    (λ ne. shifted k h (ltb b m && has s b) (ltb b (m + 1) && has s b) b (rec_of k rs b) (get_or ts b nothing) (ap (λ t. t && has s b) (same_side b m ne)) (i b))
  where
    old : (rec_of k rs m ≡ records_in k h m) × ((v : Verdict) → count_of (get_or ts m nothing) v ≡ counts_in h m v)
    old = kept k h m (rec_of k rs m) (get_or ts m nothing) _ (ap (λ t. t && has s m) (le-ltb m m (omega arith))) (i m)

    at-hand : (t : Bool) → t ≡ true → Turning k h t m (rec_of k rs m) (get_or ts m nothing)
    at-hand true e = record { by = None; moves = move.0; part = old.0; counts = old.1 }
    at-hand false e = let z : ◌≡◌ {A = ℕ} 0 1 = cc in absurd (omega arith)

-- the board at hand moves
pub noted : {V : Type 0} (k : Kind V) (h now after : Hall V) (s m : ℕ) (rule : Verdict) (next : Record V) → Midway k h s m now.ledger.records now.tallies → has s m ≡ true → m < 64 → MoveIn k h m (Some rule) next → Noted now m next rule after → Midway k h s (m + 1) after.ledger.records after.tallies
noted k h now after s m rule next i chosen lt move step b =
    by_cases (ℕ_discrete b m)
    (λ e. subst (λ x. Turning k h (ltb x (m + 1) && has s x) x (rec_of k after.ledger.records x) (get_or after.tallies x nothing)) (sym e) (at-hand (ltb m (m + 1) && has s m) (ap₂ ◌&&◌ (lt-ltb m (m + 1) (omega arith)) chosen)))
    (λ ne. subst (λ (x : Record _). Turning k h (ltb b (m + 1) && has s b) b x (get_or after.tallies b nothing)) (sym (ap (λ l. rec_of k l b) step.records ∙ other_record k now.ledger.records m next b ne))
    (subst (λ (x : Tally). Turning k h (ltb b (m + 1) && has s b) b (rec_of k now.ledger.records b) x) (sym (step.others b ne))
    (shifted k h (ltb b m && has s b) (ltb b (m + 1) && has s b) b (rec_of k now.ledger.records b) (get_or now.tallies b nothing) (ap (λ t. t && has s b) (same_side b m ne)) (i b))))
  where
    old : (v : Verdict) → count_of (get_or now.tallies m nothing) v ≡ counts_in h m v
    old = (kept k h m (rec_of k now.ledger.records m) (get_or now.tallies m nothing) _ (ap (λ t. t && has s m) (le-ltb m m (omega arith))) (i m)).1

    at-hand : (t : Bool) → t ≡ true → Turning k h t m (rec_of k after.ledger.records m) (get_or after.tallies m nothing)
    at-hand true e = record {
      by = Some rule;
      moves = move.0;
      part = subst (Part k (boards_in h) (far_in h) (records_in k h) m (Some rule)) (sym (ap (λ l. rec_of k l m) step.records ∙ put_record k now.ledger.records m next move.0.1 (omega (arith, step.whole)))) move;
      counts = λ v. step.counts v ∙ ap (λ c. counted c (Some rule) v) (old v);
    }
    at-hand false e = let z : ◌≡◌ {A = ℕ} 0 1 = cc in absurd (omega arith)

-- no board of the set is left
pub all_moved : {V : Type 0} (k : Kind V) (h after : Hall V) (s m : ℕ) → ((b : ℕ) → m ≤ b → has s b ≡ false) → after.cabling ≡ h.cabling → Midway k h s m after.ledger.records after.tallies → Turned k h s after
all_moved k h after s m none cab i = record {
  by = λ b. (i b).by;
  movers = λ b. subst (λ t. MovesBy k h t b (i b).by) (chosen b) (i b).moves;
  moves = λ b. (i b).part;
  cabling = cab;
  counts = λ b. (i b).counts;
}
  where
    chosen : (b : ℕ) → (ltb b m && has s b) ≡ has s b
    chosen b =
        by_cases (dec_lt b m)
        (λ lt. ap (λ t. t && has s b) (lt-ltb b m lt))
        (λ ge. let out = none b (omega arith) in ap₂ ◌&&◌ (le-ltb b m (omega arith)) out ∙ sym out)
