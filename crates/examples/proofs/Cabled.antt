-- The example hall's cables, end by end.
use Rattle.std.proofs.Common.{◌≡◌, ℕ, zero, suc, ◌<◌, Bool, true, not, ◌&&◌, eqb, ltb, Some, None, Option, refl, subst, ltb-true}
use borrow.Author.Tests.{eqb-false, not-true}
use Rattle.lengths.specs.Metres.{metres}
use Rattle.network.specs.Cables.{end_at, Cabled, Weighed}
use Rattle.network.specs.declared.End.{End}
use Rattle.network.proofs.Views.{both}
use Rattle.examples.specs.Hall.{far_h}

-- the end at port p of board b and its far end are two boards' ports, and the weight is admitted
abbrev inside : ℕ → ℕ → End → Bool
inside b p e = ltb b 4 && (ltb p 8 && (ltb e.board 4 && (ltb e.port 8 && (not (eqb e.board b) && metres.admitted e.weight))))

-- and the far end tells of the same cable; a port with no cable has nothing to tell
abbrev Sound : ℕ → ℕ → Option End → Type 0
Sound b p None = Unit {0}
Sound b p (Some e) = (inside b p e ≡ true) × (far_h e.board e.port ≡ Some (end_at b p e.weight))

sound : (b p : ℕ) → Sound b p (far_h b p)
sound zero zero = (refl, refl)
sound zero (suc zero) = (refl, refl)
sound zero (suc (suc zero)) = (refl, refl)
sound zero (suc (suc (suc p))) = tt
sound (suc zero) zero = (refl, refl)
sound (suc zero) (suc zero) = (refl, refl)
sound (suc zero) (suc (suc zero)) = (refl, refl)
sound (suc zero) (suc (suc (suc p))) = tt
sound (suc (suc zero)) zero = (refl, refl)
sound (suc (suc zero)) (suc zero) = (refl, refl)
sound (suc (suc zero)) (suc (suc p)) = tt
sound (suc (suc (suc b))) p = tt

sound_end : (b p : ℕ) (e : End) → far_h b p ≡ Some e → Sound b p (Some e)
sound_end b p e leads = subst (Sound b p) leads (sound b p)

tests : (b p : ℕ) (e : End) → far_h b p ≡ Some e → (b < 4) × (p < 8) × (e.board < 4) × (e.port < 8) × (e.board ≡ b → ⊥) × (metres.admitted e.weight ≡ true)
tests b p e leads =
    let h0 = both (ltb b 4) _ (sound_end b p e leads).0 in
    let h1 = both (ltb p 8) _ h0.1 in
    let h2 = both (ltb e.board 4) _ h1.1 in
    let h3 = both (ltb e.port 8) _ h2.1 in
    let h4 = both (not (eqb e.board b)) _ h3.1 in
    (ltb-true _ _ h0.0, ltb-true _ _ h1.0, ltb-true _ _ h2.0, ltb-true _ _ h3.0, eqb-false _ _ (not-true _ h4.0), h4.1)

pub cabled : Cabled 4 far_h
cabled = record {
  near = λ b p e h. let t = tests b p e h in (t.0, t.1);
  there = λ b p e h. let t = tests b p e h in (t.2, t.3);
  back = λ b p e h. (sound_end b p e h).1;
  apart = λ b p e h. (tests b p e h).4;
}

pub weighed : Weighed metres far_h
weighed b p e h = (tests b p e h).5
