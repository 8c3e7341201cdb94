-- The toil falls with every turn in which a board moves.
use Rattle.std.proofs.Common.{◌≡◌, ℕ, ◌<◌, ◌≤◌, true, cond, ◌⊎◌, Some, None, Option, refl, inl, inr, arith}
use Rattle.lengths.specs.Kind.{Kind, Laws}
use Rattle.rules.specs.declared.record.Record.{Record}
use Rattle.rules.specs.declared.status.Status.TheVariants.{C}
use Rattle.rules.specs.declared.verdict.Verdict.{Verdict}
use Rattle.rules.specs.declared.verdict.Verdict.TheVariants.{RC, REB, REF, RI, RR}
use Rattle.network.specs.Cables.{Cabled}
use Rattle.rules.specs.Records.{root_of}
use Rattle.network.specs.Toil.{total, stage, alive_roots, toil_of, toil}
use Rattle.network.specs.Turns.{alive_root, Part, Repair, Turn}
use Rattle.network.specs.declared.End.{End}
use Rattle.network.proofs.Counts.{bit_most, bit_stays, total_most, total_less, total_either}
use Rattle.network.proofs.Moves.{FromC, c-rests, c-takes, c-breaks, from_C}
use Rattle.network.proofs.NoNewRoots.{no_new_root}
use Rattle.network.proofs.Stages.{stage_small, stage_is, starts, arrives, rests}
use Rattle.network.proofs.Views.{nothing}

module _ {V : Type 0} {k : Kind V} (laws : Laws k) {n : ℕ} {far : ℕ → ℕ → Option End} (cabled : Cabled n far) (rec : ℕ → Record V) (root : rec 0 ≡ root_of k)
    (by : ℕ → Option Verdict) (after : ℕ → Record V) (turn : Turn k n far rec by after) where
  -- the parts when an alive abnormal root is lost: every one falls
  lost : (d d' : ℕ) → d' < d → (u : ℕ) → toil_of k far after d' u < toil_of k far rec d u
  lost d d' l u = omega (arith, stage_small laws far rec u, laws.bounded (after u).length)

  -- and when none is
  module _ (d d' : ℕ) (fewer : d' ≤ d) (lasting : (u : ℕ) → u < n → alive_root k far rec u ≡ true → alive_root k far after u ≡ true) where
    inside : (b p : ℕ) (e : End) → b < n → far b p ≡ Some e → e.board < n
    inside b p e l f = (cabled.there b p e f).0

    -- a board that rests has the same length and no lower stage
    part-rests : (u : ℕ) → u < n → after u ≡ rec u → toil_of k far after d' u ≤ toil_of k far rec d u
    part-rests u l e =
        let s = rests laws cabled rec root by after turn (λ b. b < n) inside lasting u l e in
        let c : k.coded (after u).length ≡ k.coded (rec u).length = cc in
        omega (arith, stage_small laws far after u)

    -- a repair move leads to a higher stage
    part-repairs : (u : ℕ) (v : Verdict) → Repair v → u < n → Part k n far rec u (Some v) (after u) → toil_of k far after d' u < toil_of k far rec d u
    part-repairs u v r l p =
        let s = starts laws far rec n u v r p.0 in
        let t = arrives laws cabled rec root by after turn (λ b. b < n) inside lasting u v l p in
        omega (arith, stage_small laws far after u, laws.bounded (after u).length)

    -- an RC keeps the stage, and the length falls
    part-improves : (u : ℕ) → Part k n far rec u (Some RC) (after u) → toil_of k far after d' u < toil_of k far rec d u
    part-improves u p = go (from_C laws n far rec u (Some RC) (after u) p.0.2.0 p)
      where
        before : stage k far rec u ≡ 2
        before = stage_is laws far rec u C p.0.2.0

        go : FromC k far rec u (Some RC) (after u) → toil_of k far after d' u < toil_of k far rec d u
        go (c-rests o e) = absurd (nothing refl o)
        go (c-takes o s f l) = omega (arith, stage_is laws far after u C s, before)
        go (c-breaks o r e) = let z : ◌≡◌ {A = ℕ} 0 1 = cc in absurd (omega arith)

    part-moves : (u : ℕ) (v : Verdict) → u < n → Part k n far rec u (Some v) (after u) → toil_of k far after d' u < toil_of k far rec d u
    part-moves u RC l p = part-improves u p
    part-moves u REB l p = part-repairs u REB tt l p
    part-moves u REF l p = part-repairs u REF tt l p
    part-moves u RI l p = part-repairs u RI tt l p
    part-moves u RR l p = part-repairs u RR tt l p

    part-most : (u : ℕ) → u < n → (o : Option Verdict) → Part k n far rec u o (after u) → toil_of k far after d' u ≤ toil_of k far rec d u
    part-most u l None p = part-rests u l p
    part-most u l (Some v) p = omega (arith, part-moves u v l p)

  -- whoever moves, the toil falls
  pub toil_falls : (b : ℕ) (v : Verdict) → by b ≡ Some v → toil k n far after < toil k n far rec
  unfolding toil
  toil_falls b v e = go (total_either _ _ n fewer)
    where
      d : ℕ
      d = alive_roots k n far rec

      d' : ℕ
      d' = alive_roots k n far after

      moved : Part k n far rec b (Some v) (after b)
      moved = rw e at (turn b)

      fewer : (u : ℕ) → u < n → cond {A = ℕ} (alive_root k far after u) 1 0 ≤ cond (alive_root k far rec u) 1 0
      fewer u l = bit_most _ _ (no_new_root laws cabled rec by after turn u)

      go : (d' < d) ⊎ ((u : ℕ) → u < n → cond {A = ℕ} (alive_root k far after u) 1 0 ≡ cond (alive_root k far rec u) 1 0) → total (toil_of k far after d') n < total (toil_of k far rec d) n
      go (inl l) = total_less _ _ n (λ u i. omega (arith, lost d d' l u)) b moved.0.0 (lost d d' l b)
      go (inr same) =
          let most : d' ≤ d = total_most _ _ n fewer in
          let lasting : (u : ℕ) → u < n → alive_root k far rec u ≡ true → alive_root k far after u ≡ true = λ u l. bit_stays _ _ (same u l) in
          total_less _ _ n (λ u l. part-most d d' most lasting u l (by u) (turn u)) b moved.0.0 (part-moves d d' most lasting b v moved.0.0 moved)
