-- Statuses and their numbers.
use Rattle.std.proofs.Common.{◌≡◌, sym, refl, ap, ◌∙◌}
use Rattle.rules.specs.Status.{number_of, status_of}
use Rattle.rules.specs.declared.status.Status.{Status}
use Rattle.rules.specs.declared.status.Status.TheVariants.{I, C, EB, EF}

-- a status is that of its number
pub status_back : (s : Status) → status_of (number_of s) ≡ s
status_back I = refl
status_back C = refl
status_back EB = refl
status_back EF = refl

-- and two statuses of one number are the same
pub same_status : (s t : Status) → number_of s ≡ number_of t → s ≡ t
same_status s t e = sym (status_back s) ∙ (ap status_of e ∙ status_back t)
