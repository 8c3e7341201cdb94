-- What the eight ports show, checked one by one, decides what the rules say of a board.
use Rattle.std.proofs.Common.{◌≡◌, ℕ, zero, suc, ◌<◌, Bool, true, false, not, ◌&&◌, ◌||◌, Some, None, Option, sym, refl, ap, ◌∙◌, inl, ⊎_elim, arith}
use mathlib.Core.Logic.{by_cases}
use native.Mathlib.Decide.{ℕ_discrete}
use borrow.Author.Tests.{both_ways, not-true}
use Rattle.lengths.specs.Kind.{Kind}
use Rattle.rules.specs.Rules.{offered, abnormal, child, shows, Offers, SomeOffer, LesserOffer, LeastOffer, Judged, Takes, Moves}
use Rattle.rules.specs.Status.{same}
use Rattle.rules.specs.declared.neighbourhood.Seen.{Seen}
use Rattle.rules.specs.declared.record.Record.{Record}
use Rattle.rules.specs.declared.status.Status.TheVariants.{I, C, EB, EF}
use Rattle.rules.specs.declared.verdict.Verdict.TheVariants.{RC, REB, REF, RI, RR}
use Rattle.network.proofs.Views.{both, neither, clash}

-- whether each of the first n passes the test
abbrev pub all : ℕ → (ℕ → Bool) → Bool
all zero test = true
all (suc n) test = test n && all n test

pub each : (n : ℕ) (test : ℕ → Bool) → all n test ≡ true → (q : ℕ) → q < n → test q ≡ true
each zero test e q lt = absurd (omega arith)
each (suc n) test e q lt =
    let h = both (test n) _ e in
    by_cases (ℕ_discrete q n) (λ here. ap test here ∙ h.0) (λ ne. each n test h.1 q (omega arith))

-- whether what a port offers, if anything, is not less than l; is greater than l; is nothing at all
abbrev pub is_not_below : {V : Type 0} → Kind V → V → Option V → Bool
is_not_below k l None = true
is_not_below k l (Some m) = not (k.less m l)

abbrev pub above : {V : Type 0} → Kind V → V → Option V → Bool
above k l None = true
above k l (Some m) = k.less l m

abbrev pub silent : {V : Type 0} → Option V → Bool
silent None = true
silent (Some m) = false

module _ {V : Type 0} {k : Kind V} {near : ℕ → Option (Seen V)} where
  not_below : (l : V) → all 8 (λ q. is_not_below k l (offered k (near q))) ≡ true → (q : ℕ) (m : V) → Offers k near q m → k.less m l ≡ false
  not_below l t q m o = not-true _ (ap (is_not_below k l) (sym o.offer) ∙ each 8 (λ q. is_not_below k l (offered k (near q))) t q o.port)

  pub no_lesser : {d : V} → all 8 (λ q. is_not_below k d (offered k (near q))) ≡ true → LesserOffer k near d → ⊥
  no_lesser t o = both_ways _ (not_below _ t o.port o.length o.offers) o.lesser

  pub no_offers : all 8 (λ q. silent (offered k (near q))) ≡ true → SomeOffer k near → ⊥
  no_offers t o = both_ways false refl (ap silent (sym o.offers.offer) ∙ each 8 (λ q. silent (offered k (near q))) t o.port o.offers.port)

  -- the least offer, and the lowest port that makes it
  pub least_offer : (p : ℕ) (l : V) → p < 8 → offered k (near p) ≡ Some l → all 8 (λ q. is_not_below k l (offered k (near q))) ≡ true → all p (λ q. above k l (offered k (near q))) ≡ true → LeastOffer k near p l
  least_offer p l lt e t u = record {
    offers = record { port = lt; offer = e };
    least = not_below l t;
    lowest = λ q m o below. ap (above k l) (sym o.offer) ∙ each p (λ q. above k l (offered k (near q))) u q below;
  }

module _ {V : Type 0} (k : Kind V) (own : Record V) (near : ℕ → Option (Seen V)) where
  -- a board that takes an offer
  pub joins : {next : Record V} → own.status ≡ I → Takes k near next → Moves k own near (Some RR) next
  joins is_I t = ((record { port = _; length = _; offers = t.1.offers }, inl is_I), t)

  pub improves : {next : Record V} → own.status ≡ C → k.less next.length own.length ≡ true → Takes k near next → Moves k own near (Some RC) next
  improves is_C less t = ((is_C, record { port = _; length = _; offers = t.1.offers; lesser = less }), t)

  -- a board that no rule moves: C on a good way, EB with a child that is not EF, I without an offer
  pub content : own.status ≡ C → all 8 (λ q. is_not_below k own.length (offered k (near q))) ≡ true → (abnormal k own near || shows EB (near own.par)) ≡ false → Judged k own near None
  content is_C t n RC h = no_lesser t h.1
  content is_C t n REB h = let f = neither _ _ n in ⊎_elim (both_ways _ f.0) (both_ways _ f.1) h.2
  content is_C t n REF h = clash is_C h.0 refl
  content is_C t n RI h = clash is_C h.0 refl
  content is_C t n RR h = ⊎_elim (λ e. clash is_C e refl) (λ e. clash is_C e.0 refl) h.1

  pub waiting : (p : ℕ) (s : Seen V) → own.status ≡ EB → p < 8 → near p ≡ Some s → child k own s ≡ true → same s.status EF ≡ false → Judged k own near None
  waiting p s is_EB lt e c d RC h = clash is_EB h.0 refl
  waiting p s is_EB lt e c d REB h = clash is_EB h.0 refl
  waiting p s is_EB lt e c d REF h = clash refl (h.1 p s lt e c) d
  waiting p s is_EB lt e c d RI h = clash is_EB h.0 refl
  waiting p s is_EB lt e c d RR h = ⊎_elim (λ f. clash is_EB f refl) (λ f. clash is_EB f.0 refl) h.1

  pub isolated : own.status ≡ I → all 8 (λ q. silent (offered k (near q))) ≡ true → Judged k own near None
  isolated is_I t RC h = clash is_I h.0 refl
  isolated is_I t REB h = clash is_I h.0 refl
  isolated is_I t REF h = clash is_I h.0 refl
  isolated is_I t RI h = clash is_I h.0 refl
  isolated is_I t RR h = no_offers t h.0
