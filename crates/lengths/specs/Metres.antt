-- Metres: a whole number below 2^32 that a cable's weight, 1 to 65,535, is added to. Its code is the number.
use Rattle.std.specs.Prelude.{ℕ, ◌+◌, ◌^◌, ◌<◌, cond, ◌&&◌, Some, None, Option, nat_le, nat_lt}
use Rattle.std.proofs.Math.Decide.{dec_lt}
use Rattle.std.proofs.Common.{lit<}
use Rattle.lengths.specs.Kind.{Kind}
use Rattle.lengths.specs.declared.metres.Metres.{Metres}

-- this many metres, or nothing from 2^32 on
abbrev pub up_to : (n : ℕ) → Dec (n < 2 ^ 32) → Option Metres
up_to n (yes h) = Some (record { value = n; fits = h })
up_to n (no _) = None

abbrev pub in_metres : ℕ → Option Metres
in_metres n = up_to n (dec_lt n (2 ^ 32))

abbrev pub metres : Kind Metres
metres = record {
  less = λ a b. nat_lt a.value b.value;
  start = record { value = 0; fits = lit< tt };
  ceiling = record { value = 4294967295; fits = lit< tt };
  admitted = λ w. nat_le 1 w && nat_le w 65535;
  extended = λ a w. cond (nat_le 1 w && nat_le w 65535) (in_metres (a.value + w)) None;
  coded = λ a. a.value;
  decoded = in_metres;
}
