-- A hall of a kind, among halls of any.
use Rattle.std.proofs.Common.{◌≡◌, ℕ, Ok, Err, Result, MatchResult, IsOkAnd, sym, subst}
use Rattle.lengths.specs.Kind.{Kind}
use Rattle.hall.specs.Hall.{Makes}
use Rattle.hall.specs.declared.fault.Fault.{Fault}
use Rattle.hall.specs.declared.tables.Hall.{Hall}
use Rattle.session.specs.Halls.{MakesAs}
use Rattle.session.specs.declared.halls.AnyHall.{AnyHall}

pub made_as : {V : Type 0} (k : Kind V) (any : Hall V → AnyHall) (n : ℕ) {P : Hall V → AnyHall → Type 0} → ((h : Hall V) (x : AnyHall) → P h x → x ≡ any h) → (r : Result (Hall V) Fault) (s : Result AnyHall Fault) → MatchResult r (λ h. IsOkAnd s (P h)) (λ f. s ≡ Err f) → Makes k n r → MakesAs k any n s
made_as k any n is (Ok h) (Ok x) p m = (h, is h x p, m)
made_as k any n is (Ok h) (Err f) p m = absurd p
made_as k any n is (Err f) s p m = subst (MakesAs k any n) (sym p) m
