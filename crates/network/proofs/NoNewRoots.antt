-- A turn makes no new alive abnormal root.
use Rattle.std.proofs.Common.{◌≡◌, ℕ, ◌≤◌, true, false, ◌⊎◌, Some, None, Option, sym, refl, ap, ◌∙◌, inl, inr, ⊎_elim, arith}
use borrow.Author.Tests.{both_ways}
use Rattle.lengths.specs.Kind.{Kind, Laws}
use Rattle.rules.specs.Rules.{shows}
use Rattle.rules.specs.declared.record.Record.{Record}
use Rattle.rules.specs.declared.status.Status.{Status}
use Rattle.rules.specs.declared.status.Status.TheVariants.{I, C, EB, EF}
use Rattle.rules.specs.declared.verdict.Verdict.{Verdict}
use Rattle.network.specs.Cables.{Cabled, around}
use Rattle.network.specs.Turns.{alive_root, Part, Turn}
use Rattle.network.specs.declared.End.{End}
use Rattle.network.proofs.Views.{tell, same_true, clash, Of, is_I, is_C, is_EB, is_EF, status_of_any, is_root, Attached, attached, no_root, shows_above, Alive, alive_root_there, is_alive_root, Offer, heard}
use Rattle.network.proofs.Lengths.{at_most, not_less}
use Rattle.network.proofs.Moves.{FromC, c-rests, c-takes, c-breaks, from_C, FromEB, eb-rests, eb-confirms, from_EB, FromEF, ef-rests, ef-clears, ef-takes, from_EF, FromI, i-rests, i-takes, from_I}

-- a board stays attached where it keeps its par and length, the board above keeps its length, and the statuses still agree
pub re_attached : {V : Type 0} {k : Kind V} {far : ℕ → ℕ → Option End} (rec after : ℕ → Record V) (b : ℕ) (a : Attached k far rec b)
    → (after b).par ≡ (rec b).par → (after b).length ≡ (rec b).length → (after a.up.board).length ≡ (rec a.up.board).length
    → ((after a.up.board).status ≡ I → ⊥) → ((after b).status ≡ (after a.up.board).status) ⊎ ((after a.up.board).status ≡ EB) → Attached k far after b
re_attached rec after b a p l m h g = record {
  up = a.up;
  leads = rw p a.leads;
  below = record { reach = a.below.reach; extends = rw m a.below.extends; long = rw l a.below.long; not_I = h; agree = g };
}

module _ {V : Type 0} {k : Kind V} (laws : Laws k) {n : ℕ} {far : ℕ → ℕ → Option End} (cabled : Cabled n far) (rec : ℕ → Record V)
    (by : ℕ → Option Verdict) (after : ℕ → Record V) (turn : Turn k n far rec by after) where
  -- board 0 keeps its record
  pub root_stays : after 0 ≡ rec 0
  root_stays = go (by 0) (turn 0)
    where
      go : (o : Option Verdict) → Part k n far rec 0 o (after 0) → after 0 ≡ rec 0
      go None p = p
      go (Some v) p = absurd (p.0.1 refl)

  -- an EB board waits for a child that is not EF
  pub eb_waits : (b : ℕ) → ((rec b).status ≡ I → ⊥) → ((rec b).status ≡ EF → ⊥) → (a : Attached k far rec b) → (rec a.up.board).status ≡ EB → after a.up.board ≡ rec a.up.board
  eb_waits b m f a s = go (from_EB laws n far rec v (by v) (after v) s (turn v))
    where
      v : ℕ
      v = a.up.board

      go : FromEB k far rec v (by v) (after v) → after v ≡ rec v
      go (eb-rests o e) = e
      go (eb-confirms o all e) = absurd (f (heard k far rec cabled b m a all))

  -- a board below an EB board, itself C or EB, stays attached while it keeps its par and length
  pub below_EB : (b : ℕ) → ((rec b).status ≡ I → ⊥) → ((rec b).status ≡ EF → ⊥) → (a : Attached k far rec b)
      → (rec a.up.board).status ≡ EB → (after b).par ≡ (rec b).par → (after b).length ≡ (rec b).length → Attached k far after b
  below_EB b m f a s p l =
      let w = eb_waits b m f a s in
      let t : (after a.up.board).status ≡ EB = cc in
      re_attached rec after b a p l (ap (λ r. r.length) w) (λ e. clash t e refl) (inr t)

  -- a C board gets EB or stays C, and still extends, to no more than before
  record Still (v w : ℕ) (r : V) : Type 0 where
    reach : V
    extends : k.extended (after v).length w ≡ Some reach
    no_more : k.coded reach ≤ k.coded r
    alive : ((after v).status ≡ C) ⊎ ((after v).status ≡ EB)

  still : (v w : ℕ) (r : V) → (rec v).status ≡ C → k.extended (rec v).length w ≡ Some r → Still v w r
  still v w r s x = go (from_C laws n far rec v (by v) (after v) s (turn v))
    where
      go : FromC k far rec v (by v) (after v) → Still v w r
      go (c-rests o e) = record { reach = r; extends = rw e x; no_more = omega arith; alive = inl (cc) }
      go (c-takes o t f l) =
          let m = laws.monotone (after v).length (rec v).length r w (not_less laws _ _ (omega arith)) x in
          record { reach = m.reached; extends = m.extends; no_more = at_most laws _ _ m.short; alive = inl t }
      go (c-breaks o y e) = record { reach = r; extends = rw e x; no_more = omega arith; alive = inr (ap (λ r. r.status) e) }

  -- a C board below it is attached after
  below_C : (b : ℕ) (u : End) (r : V) → (after b).status ≡ C → far b (after b).par ≡ Some u → (rec u.board).status ≡ C
      → k.extended (rec u.board).length u.weight ≡ Some r → k.coded r ≤ k.coded (after b).length → Attached k far after b
  below_C b u r s e c x l =
      let t = still u.board u.weight r c x in
      let m = t.no_more in
      record {
        up = u;
        leads = e;
        below = record {
          reach = t.reach;
          extends = t.extends;
          long = not_less laws _ _ (omega arith);
          not_I = λ i. ⊎_elim (λ f. clash i f refl) (λ f. clash i f refl) t.alive;
          agree = ⊎_elim (λ f. inl (s ∙ sym f)) (λ f. inr f) t.alive;
        };
      }

  -- a board that takes an offer is attached after
  joins : (b : ℕ) → (after b).status ≡ C → Offer k far rec b (after b).par (after b).length → Attached k far after b
  joins b s o = below_C b o.from (after b).length s o.leads o.correct o.extends (omega arith)

  -- and so is an attached C or EB board that rests
  rests_C : (b : ℕ) → (rec b).status ≡ C → after b ≡ rec b → Attached k far rec b → Attached k far after b
  rests_C b s e a = go a.below.agree
    where
      go : ((rec b).status ≡ (rec a.up.board).status) ⊎ ((rec a.up.board).status ≡ EB) → Attached k far after b
      go (inl f) = let l = at_most laws _ _ a.below.long in below_C b a.up a.below.reach (cc) (rw e a.leads) (cc) a.below.extends (rw e l)
      go (inr f) = below_EB b (λ i. clash s i refl) (λ i. clash s i refl) a f (cc) (cc)

  rests_EB : (b : ℕ) → (rec b).status ≡ EB → after b ≡ rec b → Attached k far rec b → Attached k far after b
  rests_EB b s e a =
      let f : (rec a.up.board).status ≡ EB = ⊎_elim (λ f. sym f ∙ s) (λ f. f) a.below.agree in
      below_EB b (λ i. clash s i refl) (λ i. clash s i refl) a f (cc) (cc)

  -- an alive abnormal root after a turn was one before
  pub no_new_root : (b : ℕ) → alive_root k far after b ≡ true → alive_root k far rec b ≡ true
  no_new_root b h = by-status (status_of_any (rec b).status)
    where
      after-it : Alive k far after b
      after-it = alive_root_there k far after b h

      Goal : Type 0
      Goal = alive_root k far rec b ≡ true

      fine : Attached k far after b → Goal
      fine a = absurd (both_ways _ (no_root k far after b a) after-it.root)

      over : (s : Status) → (after b).status ≡ s → (C ≡ s → ⊥) → (EB ≡ s → ⊥) → Goal
      over s e c d = absurd (⊎_elim (λ f. c (sym f ∙ e)) (λ f. d (sym f ∙ e)) after-it.alive)

      root_before : ((rec b).status ≡ C) ⊎ ((rec b).status ≡ EB) → (Attached k far rec b → Attached k far after b) → Goal
      root_before s keeps = ⊎_elim
          (λ (r : is_root k far rec b ≡ true). is_alive_root k far rec b (record { not_0 = after-it.not_0; root = r; alive = s }))
          (λ (r : is_root k far rec b ≡ false). fine (keeps (attached k far rec b r (λ i. ⊎_elim (λ f. clash i f refl) (λ f. clash i f refl) s))))
          (tell (is_root k far rec b))

      in-I : (rec b).status ≡ I → FromI k far rec b (by b) (after b) → Goal
      in-I s (i-rests o e) = over I (cc) (λ c. clash c refl refl) (λ c. clash c refl refl)
      in-I s (i-takes o t f) = fine (joins b t f)

      in-EF : (rec b).status ≡ EF → FromEF k far rec b (by b) (after b) → Goal
      in-EF s (ef-rests o e) = over EF (cc) (λ c. clash c refl refl) (λ c. clash c refl refl)
      in-EF s (ef-clears o r e) = over I (ap (λ r. r.status) e) (λ c. clash c refl refl) (λ c. clash c refl refl)
      in-EF s (ef-takes o r t f) = fine (joins b t f)

      in-EB : (rec b).status ≡ EB → FromEB k far rec b (by b) (after b) → Goal
      in-EB s (eb-rests o e) = root_before (inr s) (rests_EB b s e)
      in-EB s (eb-confirms o all e) = over EF (ap (λ r. r.status) e) (λ c. clash c refl refl) (λ c. clash c refl refl)

      shown-EB : (a : Attached k far rec b) → shows EB (around far rec b (rec b).par) ≡ true → (rec a.up.board).status ≡ EB
      shown-EB a e = same_true _ _ (sym (shows_above k far rec b a EB) ∙ e)

      in-C : (rec b).status ≡ C → FromC k far rec b (by b) (after b) → Goal
      in-C s (c-rests o e) = root_before (inl s) (rests_C b s e)
      in-C s (c-takes o t f l) = fine (joins b t f)
      in-C s (c-breaks o (inl r) e) = is_alive_root k far rec b (record { not_0 = after-it.not_0; root = r; alive = inl s })
      in-C s (c-breaks o (inr r) e) = root_before (inl s) (λ a. below_EB b (λ i. clash s i refl) (λ i. clash s i refl) a (shown-EB a r) (ap (λ r. r.par) e) (ap (λ r. r.length) e))

      by-status : Of (rec b).status → Goal
      by-status (is_I s) = in-I s (from_I laws n far rec b (by b) (after b) s (turn b))
      by-status (is_C s) = in-C s (from_C laws n far rec b (by b) (after b) s (turn b))
      by-status (is_EB s) = in-EB s (from_EB laws n far rec b (by b) (after b) s (turn b))
      by-status (is_EF s) = in-EF s (from_EF laws n far rec b (by b) (after b) s (turn b))
