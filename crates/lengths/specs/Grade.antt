-- Grade: the number of cables gone along, below 2^16, compared first, and the worst cable grade among them, below 2^8.
-- A cable's weight is its grade, 1 to 255. The code is hops × 256 + worst.
use Rattle.std.specs.Prelude.{ℕ, ◌+◌, ◌*◌, ◌/◌, ◌%◌, ◌^◌, ◌<◌, max, cond, ◌&&◌, ◌||◌, Some, None, Option, ◌==◌, nat_le, nat_lt}
use Rattle.std.proofs.Math.Decide.{dec_lt}
use Rattle.std.proofs.Common.{lit<}
use Rattle.lengths.specs.Kind.{Kind}
use Rattle.lengths.specs.declared.grade.Grade.{Grade}

-- this many hops and this worst grade, or nothing where either is past its end
abbrev pub up_to : (h w : ℕ) → Dec (h < 2 ^ 16) → Dec (w < 2 ^ 8) → Option Grade
up_to h w (yes p) (yes q) = Some (record { hops = h; worst = w; few = p; graded = q })
up_to h w (yes p) (no _) = None
up_to h w (no _) (yes q) = None
up_to h w (no _) (no _) = None

abbrev pub in_grade : ℕ → ℕ → Option Grade
in_grade h w = up_to h w (dec_lt h (2 ^ 16)) (dec_lt w (2 ^ 8))

abbrev pub grade : Kind Grade
grade = record {
  less = λ a b. nat_lt a.hops b.hops || (a.hops == b.hops && nat_lt a.worst b.worst);
  start = record { hops = 0; worst = 0; few = lit< tt; graded = lit< tt };
  ceiling = record { hops = 65535; worst = 255; few = lit< tt; graded = lit< tt };
  admitted = λ w. nat_le 1 w && nat_le w 255;
  extended = λ a w. cond (nat_le 1 w && nat_le w 255) (in_grade (a.hops + 1) (max a.worst w)) None;
  coded = λ a. a.hops * 256 + a.worst;
  decoded = λ c. in_grade (c / 256) (c % 256);
}
