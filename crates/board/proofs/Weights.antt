-- Eight weights, and the ports that have them.
use Rattle.std.proofs.Common.{◌≡◌, ℕ, ◌<◌, Bool, true, false, List, length, is_some, None, Option, ap, arith}
use mathlib.Core.Logic.{by_cases}
use native.Mathlib.Decide.{dec_lt}
use borrow.Author.Tests.{both_ways}
use Rattle.std.proofs.lemmas.List.{get_or_past}
use Rattle.std.specs.Bool.{MatchBool}
use Rattle.std.specs.List.{AllWithin, HoldsAt}
use Rattle.lengths.specs.Kind.{Kind}
use Rattle.board.specs.Begin.{fine, AllAdmitted, SomeUnadmitted}
use Rattle.board.specs.Station.{weights_of, wired_at}
use Rattle.board.specs.declared.ports.Ports.{Ports}

-- a wired port is one of 0 to 7
pub wired_port : (s : Ports) (p : ℕ) → wired_at s p ≡ true → p < 8
wired_port s p e =
    by_cases (dec_lt p 8)
    (λ h. h)
    (λ h. absurd (both_ways (wired_at s p) (ap is_some (get_or_past (weights_of s) p None (omega arith))) e))

-- a test of every weight says that they are all admitted, or that some weight is not
pub all_admitted : {V : Type 0} (k : Kind V) (weights : List (Option ℕ)) (b : Bool) → MatchBool b (AllWithin (λ w. fine k w ≡ true) weights 0 (length weights)) ((p : ℕ) × (p < length weights) × HoldsAt (λ w. fine k w ≡ false) weights p) → MatchBool b (AllAdmitted k weights) (SomeUnadmitted k weights)
all_admitted k weights true a = λ p. by_cases (dec_lt p (length weights)) (λ h. a p None (omega arith) h) (λ past. ap (fine k) (get_or_past weights p None (omega arith)))
all_admitted k weights false a = (a.0, a.2 None)
