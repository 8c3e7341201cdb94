-- The root's record, and records that are given as numbers.
use Rattle.std.specs.Prelude.{◌≡◌, ℕ, Bool, true, false, not, ◌||◌, Some, Option, is_some, MatchOption, nat_lt}
use Rattle.lengths.specs.Kind.{Kind}
use Rattle.rules.specs.Status.{number_of}
use Rattle.rules.specs.declared.record.Record.{Record}
use Rattle.rules.specs.declared.status.Status.TheVariants.{C}

-- the root's record: always C, 255 and the start
abbrev pub root_of : {V : Type 0} → Kind V → Record V
root_of k = record { status = C; par = 255; length = k.start }

-- whether there is no record of such a status, par and code
abbrev pub is_no_record : {V : Type 0} → Kind V → ℕ → ℕ → ℕ → Bool
is_no_record k s p c = nat_lt 3 s || (nat_lt 255 p || not (is_some (k.decoded c)))

-- the record of these numbers
pub record Numbered {V : Type 0} (k : Kind V) (s p c : ℕ) (own : Record V) : Type 0 where
  pub status : number_of own.status ≡ s
  pub par : own.par ≡ p
  pub length : k.decoded c ≡ Some own.length

-- the record of three numbers, or none where one of them stands for nothing
abbrev pub ReadsRecord : {V : Type 0} → Kind V → ℕ → ℕ → ℕ → Option (Record V) → Type 0
ReadsRecord k s p c r = MatchOption r (is_no_record k s p c ≡ true) (λ own. (is_no_record k s p c ≡ false) × Numbered k s p c own)
