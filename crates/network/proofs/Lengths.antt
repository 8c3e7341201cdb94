-- The order of lengths is the order of their codes.
use Rattle.std.proofs.Common.{◌≡◌, ℕ, ◌<◌, ◌≤◌, true, false, Option, ap, ⊎_elim, arith}
use Rattle.lengths.specs.Kind.{Kind, Laws}
use Rattle.rules.specs.declared.record.Record.{Record}
use Rattle.network.specs.declared.End.{End}
use Rattle.network.proofs.Views.{tell, is_false, Attached}

module _ {V : Type 0} {k : Kind V} (laws : Laws k) where
  -- not less: not above, in codes
  pub at_most : (a b : V) → k.less a b ≡ false → k.coded b ≤ k.coded a
  at_most a b h = ⊎_elim
      (λ (m : k.less b a ≡ true). let c = laws.ordered b a m in omega arith)
      (λ (m : k.less b a ≡ false). let e = ap k.coded (laws.untied a b h m) in omega arith)
      (tell (k.less b a))

  pub not_less : (a b : V) → k.coded b ≤ k.coded a → k.less a b ≡ false
  not_less a b h = is_false _ (λ m. let c = laws.ordered a b m in omega arith)

  -- a board that fits below another is longer
  pub rises : {far : ℕ → ℕ → Option End} {rec : ℕ → Record V} (b : ℕ) (a : Attached k far rec b) → k.coded (rec a.up.board).length < k.coded (rec b).length
  rises b a =
      let f = a.below in
      let m = laws.ordered _ _ (laws.longer _ _ _ f.extends) in
      let l = at_most _ _ f.long in
      omega arith
