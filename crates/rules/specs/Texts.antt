-- How statuses, rules and records are written.
use Rattle.std.specs.Prelude.{ℕ, List, ◌∷◌, ◌++◌, Some, None, codes, decimal, Option}
use Rattle.lengths.specs.Kind.{Kind}
use Rattle.rules.specs.declared.record.Record.{Record}
use Rattle.rules.specs.declared.status.Status.{Status}
use Rattle.rules.specs.declared.status.Status.TheVariants.{I, C, EB, EF}
use Rattle.rules.specs.declared.verdict.Verdict.{Verdict}
use Rattle.rules.specs.declared.verdict.Verdict.TheVariants.{RC, REB, REF, RI, RR}

-- the word of a status
abbrev pub status_name : Status → List ℕ
status_name I = codes "I"
status_name C = codes "C"
status_name EB = codes "EB"
status_name EF = codes "EF"

-- the word of a rule
abbrev pub rule_name : Verdict → List ℕ
rule_name RC = codes "RC"
rule_name REB = codes "REB"
rule_name REF = codes "REF"
rule_name RI = codes "RI"
rule_name RR = codes "RR"

-- the word of a verdict, or a sign that there is none
abbrev pub verdict_name : Option Verdict → List ℕ
verdict_name None = codes "-"
verdict_name (Some v) = rule_name v

-- a record: its status, par and the code of its length, parted by single spaces
abbrev pub record_text : {V : Type 0} → Kind V → Record V → List ℕ
record_text k own = status_name own.status ++ 32 ∷ decimal own.par ++ 32 ∷ decimal (k.coded own.length)
