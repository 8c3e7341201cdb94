-- Boards that are held: EB and EF boards whose chain of pars runs up to an abnormal root that is EB. They stay held until that root is lost.
use Rattle.std.proofs.Common.{◌≡◌, ℕ, zero, suc, ◌<◌, Bool, true, false, ◌⊎◌, Some, None, Option, sym, refl, ap, ◌∙◌, subst, inl, inr, ⊎_elim, arith}
use borrow.Author.Tests.{both_ways}
use Rattle.lengths.specs.Kind.{Kind, Laws}
use Rattle.rules.specs.declared.record.Record.{Record}
use Rattle.rules.specs.declared.status.Status.{Status}
use Rattle.rules.specs.declared.status.Status.TheVariants.{I, C, EB, EF}
use Rattle.rules.specs.declared.verdict.Verdict.{Verdict}
use Rattle.network.specs.Cables.{Cabled}
use Rattle.rules.specs.Records.{root_of}
use Rattle.network.specs.Toil.{held_by, held}
use Rattle.network.specs.Turns.{alive_root, Turn}
use Rattle.network.specs.declared.End.{End}
use Rattle.network.proofs.Views.{tell, only, clash, is_root, Attached, attached, no_root, Alive, alive_root_there, is_alive_root}
use Rattle.network.proofs.Lengths.{rises}
use Rattle.network.proofs.Moves.{FromEB, eb-rests, eb-confirms, from_EB, FromEF, ef-rests, ef-clears, ef-takes, from_EF}
use Rattle.network.proofs.NoNewRoots.{re_attached, below_EB}

pub data Held {V : Type 0} (k : Kind V) (far : ℕ → ℕ → Option End) (rec : ℕ → Record V) : ℕ → Type 0 where
  top : {b : ℕ} → (rec b).status ≡ EB → is_root k far rec b ≡ true → Held k far rec b
  under : {b : ℕ} → ((rec b).status ≡ EB) ⊎ ((rec b).status ≡ EF) → is_root k far rec b ≡ false → (e : End) → far b (rec b).par ≡ Some e → Held k far rec e.board → Held k far rec b

module _ {V : Type 0} (k : Kind V) (far : ℕ → ℕ → Option End) (rec : ℕ → Record V) where
  not_I : (b : ℕ) → ((rec b).status ≡ EB) ⊎ ((rec b).status ≡ EF) → (rec b).status ≡ I → ⊥
  not_I b s i = ⊎_elim (λ e. clash i e refl) (λ e. clash i e refl) s

  -- a held EF board is no abnormal root
  pub held_EF : (b : ℕ) → (rec b).status ≡ EF → Held k far rec b → is_root k far rec b ≡ false
  held_EF b s (top t r) = absurd (clash s t refl)
  held_EF b s (under t r e l h) = r

  -- what the test says
  pub test_held : (f b : ℕ) → held k far rec f b ≡ true → Held k far rec b
  unfolding held
  test_held zero b h = absurd (both_ways false refl h)
  test_held (suc f) b h = go (rec b).status (is_root k far rec b) (far b (rec b).par) refl refl refl h (λ u. test_held f u)
    where
      go : (s : Status) (r : Bool) (o : Option End) → (rec b).status ≡ s → is_root k far rec b ≡ r → far b (rec b).par ≡ o → held_by s r (held k far rec f) o ≡ true
          → ((u : ℕ) → held k far rec f u ≡ true → Held k far rec u) → Held k far rec b
      go I r o s t e h up = absurd (both_ways false refl h)
      go C r o s t e h up = absurd (both_ways false refl h)
      go EB true o s t e h up = top s t
      go EB false None s t e h up = absurd (both_ways false refl h)
      go EB false (Some u) s t e h up = under (inl s) t u e (up u.board h)
      go EF true o s t e h up = absurd (both_ways false refl h)
      go EF false None s t e h up = absurd (both_ways false refl h)
      go EF false (Some u) s t e h up = under (inr s) t u e (up u.board h)

module _ {V : Type 0} {k : Kind V} (laws : Laws k) (far : ℕ → ℕ → Option End) (rec : ℕ → Record V) where
  -- the board above is shorter
  pub shorter_above : (b : ℕ) → ((rec b).status ≡ I → ⊥) → is_root k far rec b ≡ false → (e : End) → far b (rec b).par ≡ Some e → k.coded (rec e.board).length < k.coded (rec b).length
  shorter_above b m r e l =
      let a = attached k far rec b r m in
      let i : a.up ≡ e = only a.leads l in
      subst (λ (x : End). k.coded (rec x.board).length < k.coded (rec b).length) i (rises laws b a)

  -- fuel above the length's code is enough
  pub held_test : {b : ℕ} → Held k far rec b → (f : ℕ) → k.coded (rec b).length < f → held k far rec f b ≡ true
  unfolding held
  held_test h zero l = absurd (omega arith)
  held_test {b} (top s r) (suc f) l = rw (r, s)
  held_test {b} (under s r e p h) (suc f) l =
      let i = shorter_above b (not_I k far rec b s) r e p in
      let ih = held_test h f (omega arith) in
      ⊎_elim (λ (t : (rec b).status ≡ EB). rw (r, p, t) ih) (λ (t : (rec b).status ≡ EF). rw (r, p, t) ih) s

  -- an EB board is held
  pub eb_held : (f b : ℕ) → k.coded (rec b).length < f → (rec b).status ≡ EB → Held k far rec b
  eb_held zero b l s = absurd (omega arith)
  eb_held (suc f) b l s = go (tell (is_root k far rec b)) (λ u. eb_held f u)
    where
      go : (is_root k far rec b ≡ true) ⊎ (is_root k far rec b ≡ false) → ((u : ℕ) → k.coded (rec u).length < f → (rec u).status ≡ EB → Held k far rec u) → Held k far rec b
      go (inl r) above = top s r
      go (inr r) above =
          let a = attached k far rec b r (λ i. clash s i refl) in
          let i = rises laws b a in
          let t : (rec a.up.board).status ≡ EB = ⊎_elim (λ e. sym e ∙ s) (λ e. e) a.below.agree in
          under (inl s) r a.up a.leads (above a.up.board (omega arith) t)

-- no cable leaves a set of boards
abbrev pub Closed : (ℕ → ℕ → Option End) → (ℕ → Type 0) → Type 0
Closed far S = (b p : ℕ) (e : End) → S b → far b p ≡ Some e → S e.board

-- every alive abnormal root of a set of boards stays one
abbrev pub Lasting : {V : Type 0} → Kind V → (ℕ → ℕ → Option End) → (ℕ → Record V) → (ℕ → Record V) → (ℕ → Type 0) → Type 0
Lasting k far rec after S = (u : ℕ) → S u → alive_root k far rec u ≡ true → alive_root k far after u ≡ true

-- a turn in which every alive abnormal root of a set that no cable leaves stays one
module _ {V : Type 0} {k : Kind V} (laws : Laws k) {n : ℕ} {far : ℕ → ℕ → Option End} (cabled : Cabled n far) (rec : ℕ → Record V) (root : rec 0 ≡ root_of k)
    (by : ℕ → Option Verdict) (after : ℕ → Record V) (turn : Turn k n far rec by after) (S : ℕ → Type 0) (closed : Closed far S) (lasting : Lasting k far rec after S) where
  -- what a held board keeps
  pub record Kept (b : ℕ) : Type 0 where
    pub par : (after b).par ≡ (rec b).par
    pub length : (after b).length ≡ (rec b).length
    pub alive : ((after b).status ≡ EB) ⊎ ((after b).status ≡ EF)
    pub held : Held k far after b

  -- the abnormal root at the top
  kept_top : (b : ℕ) → S b → (rec b).status ≡ EB → is_root k far rec b ≡ true → Kept b
  kept_top b i s r = go (from_EB laws n far rec b (by b) (after b) s (turn b))
    where
      not_0 : b ≡ 0 → ⊥
      not_0 e = clash s (ap (λ x. (rec x).status) e ∙ ap (λ r. r.status) root) refl

      still : Alive k far after b
      still = alive_root_there k far after b (lasting b i (is_alive_root k far rec b (record { not_0 = not_0; root = r; alive = inr s })))

      go : FromEB k far rec b (by b) (after b) → Kept b
      go (eb-rests o e) = record { par = cc; length = cc; alive = inl (cc); held = top (cc) still.root }
      go (eb-confirms o all e) =
          let t : (after b).status ≡ EF = ap (λ r. r.status) e in
          absurd (⊎_elim (λ c. clash t c refl) (λ c. clash t c refl) still.alive)

  -- a board below one that keeps its par and length
  kept_under : (b : ℕ) → ((rec b).status ≡ EB) ⊎ ((rec b).status ≡ EF) → is_root k far rec b ≡ false → (e : End) → far b (rec b).par ≡ Some e → Kept e.board → Kept b
  kept_under b (inl s) r u l up = go (from_EB laws n far rec b (by b) (after b) s (turn b))
    where
      a : Attached k far rec b
      a = attached k far rec b r (λ i. clash s i refl)

      above : (rec a.up.board).status ≡ EB
      above = ⊎_elim (λ e. sym e ∙ s) (λ e. e) a.below.agree

      stays : ((after b).status ≡ EB) ⊎ ((after b).status ≡ EF) → (after b).par ≡ (rec b).par → (after b).length ≡ (rec b).length → Kept b
      stays t p d = record {
        par = p;
        length = d;
        alive = t;
        held = under t (no_root k far after b (below_EB laws cabled rec by after turn b (λ i. clash s i refl) (λ i. clash s i refl) a above p d)) u (rw p l) up.held;
      }

      go : FromEB k far rec b (by b) (after b) → Kept b
      go (eb-rests o e) = stays (inl (cc)) (cc) (cc)
      go (eb-confirms o all e) = stays (inr (ap (λ r. r.status) e)) (ap (λ r. r.par) e) (ap (λ r. r.length) e)
  kept_under b (inr s) r u l up = go (from_EF laws n far rec b (by b) (after b) s (turn b))
    where
      a : Attached k far rec b
      a = attached k far rec b r (λ i. clash s i refl)

      same_up : u ≡ a.up
      same_up = only l a.leads

      up_kept : Kept a.up.board
      up_kept = subst (λ (x : End). Kept x.board) same_up up

      stays : after b ≡ rec b → Attached k far after b
      stays e = re_attached rec after b a (cc) (cc) up_kept.length
          (λ i. ⊎_elim (λ t. clash i t refl) (λ t. clash i t refl) up_kept.alive)
          (⊎_elim (λ (t : (after a.up.board).status ≡ EB). inr t) (λ (t : (after a.up.board).status ≡ EF). inl (cc)) up_kept.alive)

      go : FromEF k far rec b (by b) (after b) → Kept b
      go (ef-rests o e) = record { par = cc; length = cc; alive = inr (cc); held = under (inr (cc)) (no_root k far after b (stays e)) u (rw e l) up.held }
      go (ef-clears o t e) = absurd (both_ways _ r t)
      go (ef-takes o t e f) = absurd (both_ways _ r t)

  -- a held board keeps its par and length, and stays held
  pub kept : {b : ℕ} → S b → Held k far rec b → Kept b
  kept {b} i (top s r) = kept_top b i s r
  kept {b} i (under s r e l h) = kept_under b s r e l (kept (closed b _ e i l) h)
