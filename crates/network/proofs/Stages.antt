-- The stages of a board: a repair move leads to a higher one, and a stage falls only in a turn in which an alive abnormal root is lost.
use Rattle.std.proofs.Common.{◌≡◌, ℕ, suc, ◌<◌, ◌≤◌, Bool, true, false, ◌⊎◌, Some, None, Option, ap, ◌∙◌, inl, inr, ⊎_elim, arith}
use borrow.Author.Tests.{both_ways}
use Rattle.lengths.specs.Kind.{Kind, Laws}
use Rattle.rules.specs.declared.record.Record.{Record}
use Rattle.rules.specs.declared.status.Status.{Status}
use Rattle.rules.specs.declared.status.Status.TheVariants.{I, C, EB, EF}
use Rattle.rules.specs.declared.verdict.Verdict.{Verdict}
use Rattle.rules.specs.declared.verdict.Verdict.TheVariants.{RC, REB, REF, RI, RR}
use Rattle.network.specs.Cables.{Cabled}
use Rattle.rules.specs.Records.{root_of}
use Rattle.network.specs.Toil.{held, stage_of, stage}
use Rattle.network.specs.Turns.{Part, HasVerdict, Repair, Turn}
use Rattle.network.specs.declared.End.{End}
use Rattle.network.proofs.Views.{tell, is_false, Of, is_I, is_C, is_EB, is_EF, status_of_any, is_root}
use Rattle.network.proofs.Held.{Closed, Lasting, Held, held_EF, test_held, held_test, eb_held, kept}

-- the stage to which a rule leads
abbrev pub aim : Verdict → ℕ
aim RC = 2
aim REB = 3
aim REF = 4
aim RI = 1
aim RR = 2

small : (s : Status) (h : Bool) → stage_of s h ≤ 4
small I h = omega arith
small C h = omega arith
small EB h = omega arith
small EF true = omega arith
small EF false = omega arith

module _ {V : Type 0} {k : Kind V} (laws : Laws k) (far : ℕ → ℕ → Option End) (rec : ℕ → Record V) where
  pub stage_small : (b : ℕ) → stage k far rec b ≤ 4
  stage_small b = small (rec b).status (held k far rec (suc (k.coded (rec b).length)) b)

  -- the stage of an I, C or EB board goes by its status
  pub stage_is : (b : ℕ) (s : Status) → (rec b).status ≡ s → stage k far rec b ≡ stage_of s (held k far rec (suc (k.coded (rec b).length)) b)
  stage_is b s e = ap (λ x. stage_of x (held k far rec (suc (k.coded (rec b).length)) b)) e

  -- that of an EF board goes by whether it is held
  pub stage_held : (b : ℕ) → (rec b).status ≡ EF → Held k far rec b → stage k far rec b ≡ 4
  stage_held b e h = stage_is b EF e ∙ ap (stage_of EF) (held_test laws far rec h _ (omega arith))

  pub stage_loose : (b : ℕ) → (rec b).status ≡ EF → (Held k far rec b → ⊥) → stage k far rec b ≡ 0
  stage_loose b e m = stage_is b EF e ∙ ap (stage_of EF) (is_false _ (λ h. m (test_held k far rec _ b h)))

  stage_root : (b : ℕ) → (rec b).status ≡ EF → is_root k far rec b ≡ true → stage k far rec b ≡ 0
  stage_root b e r = stage_loose b e (λ h. both_ways _ (held_EF k far rec b e h) r)

  -- a repair move starts below the stage to which it leads
  pub starts : (n b : ℕ) (v : Verdict) → Repair v → HasVerdict k n far rec b v → stage k far rec b < aim v
  starts n b RC r h = absurd r
  starts n b REB r h = omega (arith, stage_is b C h.2.0)
  starts n b REF r h = omega (arith, stage_is b EB h.2.0)
  starts n b RI r h = omega (arith, stage_root b h.2.0 h.2.1)
  starts n b RR r h = ⊎_elim
      (λ (e : (rec b).status ≡ I). omega (arith, stage_is b I e))
      (λ (e : ((rec b).status ≡ EF) × (is_root k far rec b ≡ true)). omega (arith, stage_root b e.0 e.1))
      h.2.1

-- a turn in which every alive abnormal root of a set that no cable leaves stays one
module _ {V : Type 0} {k : Kind V} (laws : Laws k) {n : ℕ} {far : ℕ → ℕ → Option End} (cabled : Cabled n far) (rec : ℕ → Record V) (root : rec 0 ≡ root_of k)
    (by : ℕ → Option Verdict) (after : ℕ → Record V) (turn : Turn k n far rec by after) (S : ℕ → Type 0) (closed : Closed far S) (lasting : Lasting k far rec after S) where
  keeps : (b : ℕ) → S b → Held k far rec b → Held k far after b
  keeps b i h = (kept laws cabled rec root by after turn S closed lasting i h).held

  -- a move leads to its rule's stage
  pub arrives : (b : ℕ) (v : Verdict) → S b → Part k n far rec b (Some v) (after b) → stage k far after b ≡ aim v
  arrives b RC i p = stage_is laws far after b C p.1.0
  arrives b REB i p = stage_is laws far after b EB (ap (λ r. r.status) p.1)
  arrives b REF i p = stage_held laws far after b (ap (λ r. r.status) p.1) (keeps b i (eb_held laws far rec (suc (k.coded (rec b).length)) b (omega arith) p.0.2.0))
  arrives b RI i p = stage_is laws far after b I (ap (λ r. r.status) p.1)
  arrives b RR i p = stage_is laws far after b C p.1.0

  -- a board that rests keeps its stage, or it was EF and not held
  pub rests : (b : ℕ) → S b → after b ≡ rec b → stage k far rec b ≤ stage k far after b
  rests b i e = go (status_of_any (rec b).status) (tell (held k far rec (suc (k.coded (rec b).length)) b))
    where
      then : (after b).status ≡ (rec b).status
      then = ap (λ r. r.status) e

      go : Of (rec b).status → (held k far rec (suc (k.coded (rec b).length)) b ≡ true) ⊎ (held k far rec (suc (k.coded (rec b).length)) b ≡ false) → stage k far rec b ≤ stage k far after b
      go (is_I s) h = omega (arith, stage_is laws far rec b I s, stage_is laws far after b I (then ∙ s))
      go (is_C s) h = omega (arith, stage_is laws far rec b C s, stage_is laws far after b C (then ∙ s))
      go (is_EB s) h = omega (arith, stage_is laws far rec b EB s, stage_is laws far after b EB (then ∙ s))
      go (is_EF s) (inl h) = omega (arith, stage_small laws far rec b, stage_held laws far after b (then ∙ s) (keeps b i (test_held k far rec _ b h)))
      go (is_EF s) (inr h) = let t : stage k far rec b ≡ 0 = stage_is laws far rec b EF s ∙ ap (stage_of EF) h in omega arith

  -- no board's stage falls
  pub not_lower : (b : ℕ) → S b → (o : Option Verdict) → Part k n far rec b o (after b) → stage k far rec b ≤ stage k far after b
  not_lower b i None p = rests b i p
  not_lower b i (Some RC) p = omega (arith, stage_is laws far rec b C p.0.2.0, arrives b RC i p)
  not_lower b i (Some REB) p = omega (arith, starts laws far rec n b REB tt p.0, arrives b REB i p)
  not_lower b i (Some REF) p = omega (arith, starts laws far rec n b REF tt p.0, arrives b REF i p)
  not_lower b i (Some RI) p = omega (arith, starts laws far rec n b RI tt p.0, arrives b RI i p)
  not_lower b i (Some RR) p = omega (arith, starts laws far rec n b RR tt p.0, arrives b RR i p)
