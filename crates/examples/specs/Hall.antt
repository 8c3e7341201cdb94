-- The example hall: four boards in metres, its cables, and the records that its boards keep one turn after another.
use Rattle.std.specs.Prelude.{ℕ, ◌^◌, T, List, [], ◌∷◌, Some, None, Option, nat_lt, slice_index_or}
use Rattle.std.proofs.Common.{lit<}
use Rattle.lengths.specs.Metres.{metres}
use Rattle.lengths.specs.declared.metres.Metres.{Metres}
use Rattle.rules.specs.declared.record.Record.{Record}
use Rattle.rules.specs.declared.status.Status.{Status}
use Rattle.rules.specs.declared.status.Status.TheVariants.{I, C, EB, EF}
use Rattle.rules.specs.declared.verdict.Verdict.{Verdict}
use Rattle.network.specs.Cables.{end_at}
use Rattle.rules.specs.Records.{root_of}
use Rattle.network.specs.declared.End.{End}

-- a length of n metres; of a numeral `tt` shows that it is below 2^32
abbrev pub long : (n : ℕ) → T (nat_lt n (2 ^ 32)) → Metres
long n t = record { value = n; fits = lit< t }

-- a record of this status, par and length in metres
abbrev pub keeps : Status → ℕ → (n : ℕ) → T (nat_lt n (2 ^ 32)) → Record Metres
keeps s p n t = record { status = s; par = p; length = long n t }

-- the far ends of the cables, for boards 0 to 2 and their ports from 0 on; board 3 has no cables
abbrev pub cables : List (List (Option End))
cables =
    (Some (end_at 1 0 40) ∷ Some (end_at 1 1 40) ∷ Some (end_at 2 1 90) ∷ []) ∷
    (Some (end_at 0 0 40) ∷ Some (end_at 0 1 40) ∷ Some (end_at 2 0 30) ∷ []) ∷
    (Some (end_at 1 2 30) ∷ Some (end_at 0 2 90) ∷ []) ∷ []

abbrev pub far_h : ℕ → ℕ → Option End
far_h b p = slice_index_or (slice_index_or cables b []) p None

-- the root's record on board 0, and these on boards 1, 2 and 3
abbrev pub boards : Record Metres → Record Metres → Record Metres → ℕ → Record Metres
boards one two three b = slice_index_or (root_of metres ∷ one ∷ two ∷ three ∷ []) b (keeps I 255 0 tt)

-- boards 1 and 2 as in a new hall, and board 3 planted with a way that does not exist
abbrev pub rec_h : ℕ → Record Metres
rec_h = boards (keeps I 255 0 tt) (keeps I 255 0 tt) (keeps C 0 5 tt)

-- after one turn of all enabled boards, after two, and after three, when the hall is settled
abbrev pub once_h : ℕ → Record Metres
once_h = boards (keeps C 0 40 tt) (keeps C 1 90 tt) (keeps EB 0 5 tt)

abbrev pub twice_h : ℕ → Record Metres
twice_h = boards (keeps C 0 40 tt) (keeps C 0 70 tt) (keeps EF 0 5 tt)

abbrev pub settled_h : ℕ → Record Metres
settled_h = boards (keeps C 0 40 tt) (keeps C 0 70 tt) (keeps I 0 5 tt)

-- these verdicts of boards 1, 2 and 3; no other board has one
abbrev pub verdicts : Option Verdict → Option Verdict → Option Verdict → ℕ → Option Verdict
verdicts one two three b = slice_index_or (None ∷ one ∷ two ∷ three ∷ []) b None
