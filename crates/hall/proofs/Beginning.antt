-- Tallies begin anew, and a new hall's records.
use Rattle.std.proofs.Common.{◌≡◌, ℕ, ◌<◌, cond, eqb, List, length, get_or, set, replicate, refl, ap, ◌∙◌, arith, get_or-set_other, get_or-set_same, ne_eqb}
use lib.ListN.{get_or-replicate}
use Rattle.lengths.specs.Kind.{Kind}
use Rattle.rules.specs.declared.record.Record.{Record}
use Rattle.rules.specs.declared.verdict.Verdict.{Verdict}
use Rattle.rules.specs.declared.verdict.Verdict.TheVariants.{RC, REB, REF, RI, RR}
use Rattle.rules.specs.Records.{root_of}
use Rattle.hall.specs.Hall.{boards_in, count_of, nothing, Anew}
use Rattle.hall.specs.Tables.{rec_of}
use Rattle.hall.specs.declared.tables.Hall.{Hall}
use Rattle.hall.specs.declared.tables.Tally.{Tally}

no_count : (v : Verdict) → count_of nothing v ≡ 0
no_count RC = refl
no_count REB = refl
no_count REF = refl
no_count RI = refl
no_count RR = refl

pub none_counted : (ts : List Tally) → ((b : ℕ) → get_or ts b nothing ≡ nothing) → (b : ℕ) (v : Verdict) → count_of (get_or ts b nothing) v ≡ 0
none_counted ts z b v = ap (λ t. count_of t v) (z b) ∙ no_count v

pub anew : {V : Type 0} (before after : Hall V) → boards_in after ≡ boards_in before → ((b : ℕ) → get_or after.tallies b nothing ≡ nothing) → Anew before after
anew before after e z = record { boards = e; counts = none_counted after.tallies z }

-- the record of a board other than 0 is the table's
pub at_table : {V : Type 0} (k : Kind V) (b : ℕ) (x y : Record V) → (b ≡ 0 → ⊥) → cond (eqb b 0) x y ≡ y
at_table k b x y ne = ap (λ t. cond t x y) (ne_eqb b 0 ne)

pub all_alike : {V : Type 0} (k : Kind V) (own : Record V) (b : ℕ) → 0 < b → b < 64 → rec_of k (replicate 64 own) b ≡ own
all_alike k own b pos lt = at_table k b _ _ (λ e. omega arith) ∙ get_or-replicate 64 b own (root_of k) lt

-- one record is overwritten
pub put_record : {V : Type 0} (k : Kind V) (rs : List (Record V)) (b : ℕ) (own : Record V) → (b ≡ 0 → ⊥) → b < length rs → rec_of k (set rs b own) b ≡ own
put_record k rs b own ne lt = at_table k b _ _ ne ∙ get_or-set_same rs b own (root_of k) lt

pub other_record : {V : Type 0} (k : Kind V) (rs : List (Record V)) (b : ℕ) (own : Record V) (o : ℕ) → (o ≡ b → ⊥) → rec_of k (set rs b own) o ≡ rec_of k rs o
other_record k rs b own o ne = ap (cond (eqb o 0) (root_of k)) (get_or-set_other rs b o own (root_of k) ne)
