-- A board has at most one verdict, and each rule leaves it one record.
use Rattle.std.proofs.Common.{◌≡◌, ℕ, Option, arith}
use Rattle.lengths.specs.Kind.{Kind, Laws}
use Rattle.rules.specs.Rules.{LeastOffer, Enabled, Takes, Effect}
use Rattle.rules.specs.declared.neighbourhood.Seen.{Seen}
use Rattle.rules.specs.declared.record.Record.{Record}
use Rattle.rules.specs.declared.verdict.Verdict.{Verdict}

module _ {V : Type 0} {k : Kind V} (laws : Laws k) (own : Record V) (near : ℕ → Option (Seen V)) where
  pub one_verdict : (u v : Verdict) → Enabled k own near u → Enabled k own near v → u ≡ v
  one_verdict u v p q = grind arith

  one_least : (p q : ℕ) (l m : V) → LeastOffer k near p l → LeastOffer k near q m → (p ≡ q) × (l ≡ m)
  one_least p q l m x y = grind (arith, laws.untied)

  one_taken : (x y : Record V) → Takes k near x → Takes k near y → x ≡ y
  one_taken x y p q = grind (arith, one_least)

  pub one_effect : (v : Verdict) (x y : Record V) → Effect k own near v x → Effect k own near v y → x ≡ y
  one_effect v x y p q = grind (arith, one_taken)
