-- A kind whose values are ordered as their codes are: what every proof of the laws starts from.
use Rattle.std.specs.Prelude.{◌≡◌, ◌<◌, ◌≤◌, true, false, nat_lt}
use Rattle.std.proofs.Common.{sym, ◌∙◌, arith, ltb-true, ltb-false, lt-ltb, le-ltb}
use Rattle.lengths.specs.Kind.{Kind}

pub record ByCode {V : Type 0} (k : Kind V) : Type 0 where
  pub compares : (a b : V) → k.less a b ≡ nat_lt (k.coded a) (k.coded b)
  pub apart : (a b : V) → k.coded a ≡ k.coded b → a ≡ b

module _ {V : Type 0} {k : Kind V} (o : ByCode k) where
  pub below : (a b : V) → k.less a b ≡ true → k.coded a < k.coded b
  below a b h = ltb-true _ _ (sym (o.compares a b) ∙ h)

  pub not_below : (a b : V) → k.less a b ≡ false → k.coded b ≤ k.coded a
  not_below a b h = ltb-false _ _ (sym (o.compares a b) ∙ h)

  pub from_below : (a b : V) → k.coded a < k.coded b → k.less a b ≡ true
  from_below a b h = o.compares a b ∙ lt-ltb _ _ h

  pub from_not_below : (a b : V) → k.coded b ≤ k.coded a → k.less a b ≡ false
  from_not_below a b h = o.compares a b ∙ le-ltb _ _ h

  pub chain : (a b c : V) → k.less a b ≡ true → k.less b c ≡ true → k.less a c ≡ true
  chain a b c p q = let p' = below a b p in let q' = below b c q in from_below a c (omega arith)

  pub no_tie : (a b : V) → k.less a b ≡ false → k.less b a ≡ false → a ≡ b
  no_tie a b p q = let p' = not_below a b p in let q' = not_below b a q in o.apart a b (omega arith)
