-- What a board can do in a turn, by its status.
use Rattle.std.proofs.Common.{◌≡◌, ℕ, ◌<◌, true, ◌⊎◌, Some, None, Option, refl, ⊎_elim, arith}
use Rattle.lengths.specs.Kind.{Kind, Laws}
use Rattle.rules.specs.Rules.{ChildrenEF, shows, restated}
use Rattle.rules.specs.declared.record.Record.{Record}
use Rattle.rules.specs.declared.status.Status.TheVariants.{I, C, EB, EF}
use Rattle.rules.specs.declared.verdict.Verdict.{Verdict}
use Rattle.rules.specs.declared.verdict.Verdict.TheVariants.{RC, REB, REF, RI, RR}
use Rattle.network.specs.Cables.{around}
use Rattle.network.specs.Turns.{Part}
use Rattle.network.specs.declared.End.{End}
use Rattle.network.proofs.Views.{is_root, Offer, offer, clash}
use Rattle.network.proofs.Lengths.{at_most}

module _ {V : Type 0} (k : Kind V) (far : ℕ → ℕ → Option End) (rec : ℕ → Record V) (b : ℕ) (o : Option Verdict) (next : Record V) where
  -- a C board rests, takes a lesser offer, or gets EB
  pub data FromC : Type 0 where
    c-rests : o ≡ None → next ≡ rec b → FromC
    c-takes : o ≡ Some RC → next.status ≡ C → Offer k far rec b next.par next.length → k.coded next.length < k.coded (rec b).length → FromC
    c-breaks : o ≡ Some REB → (is_root k far rec b ≡ true) ⊎ (shows EB (around far rec b (rec b).par) ≡ true) → next ≡ restated (rec b) EB → FromC

  -- an EB board rests, or gets EF when all its children are
  pub data FromEB : Type 0 where
    eb-rests : o ≡ None → next ≡ rec b → FromEB
    eb-confirms : o ≡ Some REF → ChildrenEF k (rec b) (around far rec b) → next ≡ restated (rec b) EF → FromEB

  -- an EF board rests, or is an abnormal root and gets I or takes an offer
  pub data FromEF : Type 0 where
    ef-rests : o ≡ None → next ≡ rec b → FromEF
    ef-clears : o ≡ Some RI → is_root k far rec b ≡ true → next ≡ restated (rec b) I → FromEF
    ef-takes : o ≡ Some RR → is_root k far rec b ≡ true → next.status ≡ C → Offer k far rec b next.par next.length → FromEF

  -- an I board rests, or takes an offer
  pub data FromI : Type 0 where
    i-rests : o ≡ None → next ≡ rec b → FromI
    i-takes : o ≡ Some RR → next.status ≡ C → Offer k far rec b next.par next.length → FromI

module _ {V : Type 0} {k : Kind V} (laws : Laws k) (n : ℕ) (far : ℕ → ℕ → Option End) (rec : ℕ → Record V) (b : ℕ) where
  pub from_C : (o : Option Verdict) (next : Record V) → (rec b).status ≡ C → Part k n far rec b o next → FromC k far rec b o next
  from_C None next s p = c-rests refl p
  from_C (Some RC) next s p =
      let lesser = p.0.2.1 in
      let l = at_most laws _ _ (p.1.1.least lesser.port lesser.length lesser.offers) in
      let m = laws.ordered _ _ lesser.lesser in
      c-takes refl p.1.0 (offer k far rec b _ _ p.1.1.offers) (omega arith)
  from_C (Some REB) next s p = c-breaks refl p.0.2.2 p.1
  from_C (Some REF) next s p = absurd (clash s p.0.2.0 refl)
  from_C (Some RI) next s p = absurd (clash s p.0.2.0 refl)
  from_C (Some RR) next s p = absurd (⊎_elim (λ e. clash s e refl) (λ e. clash s e.0 refl) p.0.2.1)

  pub from_EB : (o : Option Verdict) (next : Record V) → (rec b).status ≡ EB → Part k n far rec b o next → FromEB k far rec b o next
  from_EB None next s p = eb-rests refl p
  from_EB (Some RC) next s p = absurd (clash s p.0.2.0 refl)
  from_EB (Some REB) next s p = absurd (clash s p.0.2.0 refl)
  from_EB (Some REF) next s p = eb-confirms refl p.0.2.1 p.1
  from_EB (Some RI) next s p = absurd (clash s p.0.2.0 refl)
  from_EB (Some RR) next s p = absurd (⊎_elim (λ e. clash s e refl) (λ e. clash s e.0 refl) p.0.2.1)

  pub from_EF : (o : Option Verdict) (next : Record V) → (rec b).status ≡ EF → Part k n far rec b o next → FromEF k far rec b o next
  from_EF None next s p = ef-rests refl p
  from_EF (Some RC) next s p = absurd (clash s p.0.2.0 refl)
  from_EF (Some REB) next s p = absurd (clash s p.0.2.0 refl)
  from_EF (Some REF) next s p = absurd (clash s p.0.2.0 refl)
  from_EF (Some RI) next s p = ef-clears refl p.0.2.1 p.1
  from_EF (Some RR) next s p = ⊎_elim
      (λ (e : (rec b).status ≡ I). absurd (clash s e refl))
      (λ (e : ((rec b).status ≡ EF) × (is_root k far rec b ≡ true)). ef-takes refl e.1 p.1.0 (offer k far rec b _ _ p.1.1.offers))
      p.0.2.1

  pub from_I : (o : Option Verdict) (next : Record V) → (rec b).status ≡ I → Part k n far rec b o next → FromI k far rec b o next
  from_I None next s p = i-rests refl p
  from_I (Some RC) next s p = absurd (clash s p.0.2.0 refl)
  from_I (Some REB) next s p = absurd (clash s p.0.2.0 refl)
  from_I (Some REF) next s p = absurd (clash s p.0.2.0 refl)
  from_I (Some RI) next s p = absurd (clash s p.0.2.0 refl)
  from_I (Some RR) next s p = i-takes refl p.1.0 (offer k far rec b _ _ p.1.1.offers)
