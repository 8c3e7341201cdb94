-- What the tests of the rules say of boards and cables.
use Rattle.std.proofs.Common.{◌≡◌, ℕ, Bool, true, false, cond, not, ◌&&◌, ◌||◌, eqb, ◌⊎◌, Some, None, Option, sym, refl, ap, ◌∙◌, inl, inr, ⊎_elim, arith, eq-eqb, ne_eqb, eqb-true}
use borrow.Author.Tests.{eqb-false, not-true, not-false, both_ways}
use Rattle.lengths.specs.Kind.{Kind}
use Rattle.rules.specs.Rules.{abnormal, adrift, misfit, short, offered, shows, Offers, ChildrenEF}
use Rattle.rules.proofs.Statuses.{same_status}
use Rattle.rules.specs.Status.{same, number_of}
use Rattle.rules.specs.declared.neighbourhood.Seen.{Seen}
use Rattle.rules.specs.declared.record.Record.{Record}
use Rattle.rules.specs.declared.status.Status.{Status}
use Rattle.rules.specs.declared.status.Status.TheVariants.{I, C, EB, EF}
use Rattle.network.specs.Cables.{Cabled, around, shown, end_at}
use Rattle.network.specs.Turns.{alive_root}
use Rattle.network.specs.declared.End.{End}

-- tests that are joined
pub tell : (t : Bool) → (t ≡ true) ⊎ (t ≡ false)
tell true = inl refl
tell false = inr refl

pub both : (s t : Bool) → (s && t) ≡ true → (s ≡ true) × (t ≡ true)
both true t e = (refl, e)
both false t e = absurd (both_ways false refl e)

pub neither : (s t : Bool) → (s || t) ≡ false → (s ≡ false) × (t ≡ false)
neither true t e = absurd (both_ways true e refl)
neither false t e = (refl, e)

pub either : (s t : Bool) → (s || t) ≡ true → (s ≡ true) ⊎ (t ≡ true)
either true t e = inl refl
either false t e = inr e

pub not_both : (s t : Bool) → (s && t) ≡ false → (s ≡ false) ⊎ (t ≡ false)
not_both true t e = inr e
not_both false t e = inl refl

pub is_false : (t : Bool) → (t ≡ true → ⊥) → t ≡ false
is_false true h = absurd (h refl)
is_false false h = refl

-- what is both something and nothing
pub nothing : {A : Type 0} {a : A} {o : Option A} → o ≡ Some a → o ≡ None → ⊥
nothing e f = let z : ◌≡◌ {A = ℕ} 0 1 = cc in omega arith

pub only : {A : Type 0} {a b : A} {o : Option A} → o ≡ Some a → o ≡ Some b → a ≡ b
only e f = cc

pub same_true : (s t : Status) → same s t ≡ true → s ≡ t
same_true s t e = same_status s t (eqb-true _ _ e)

pub same_false : (s t : Status) → same s t ≡ false → s ≡ t → ⊥
same_false s t e f = eqb-false _ _ e (ap number_of f)

pub true_same : (s t : Status) → s ≡ t → same s t ≡ true
true_same s t e = eq-eqb _ _ (ap number_of e)

pub false_same : (s t : Status) → (s ≡ t → ⊥) → same s t ≡ false
false_same s t h = is_false _ (λ e. h (same_true s t e))

-- two statuses at once
pub clash : {s t u : Status} → s ≡ t → s ≡ u → same t u ≡ false → ⊥
clash e f d = same_false _ _ d (sym e ∙ f)

-- every status is one of the four
pub data Of (s : Status) : Type 0 where
  is_I : s ≡ I → Of s
  is_C : s ≡ C → Of s
  is_EB : s ≡ EB → Of s
  is_EF : s ≡ EF → Of s

pub status_of_any : (s : Status) → Of s
status_of_any I = is_I refl
status_of_any C = is_C refl
status_of_any EB = is_EB refl
status_of_any EF = is_EF refl

-- a board of status s and length d fits below a board of status t and length e over a cable of weight w
pub record Fits {V : Type 0} (k : Kind V) (s : Status) (d : V) (t : Status) (e : V) (w : ℕ) : Type 0 where
  pub reach : V
  pub extends : k.extended e w ≡ Some reach
  pub long : k.less d reach ≡ false
  pub not_I : t ≡ I → ⊥
  pub agree : (s ≡ t) ⊎ (t ≡ EB)

not_short : {V : Type 0} (k : Kind V) (d : V) (o : Option V) → short k d o ≡ false → (r : V) × (o ≡ Some r) × (k.less d r ≡ false)
not_short k d None e = absurd (both_ways true e refl)
not_short k d (Some r) e = (r, refl, e)

agrees : (s t : Status) → (not (same s t) && not (same t EB)) ≡ false → (s ≡ t) ⊎ (t ≡ EB)
agrees s t e = ⊎_elim (λ h. inl (same_true s t (not-false _ h))) (λ h. inr (same_true t EB (not-false _ h))) (not_both _ _ e)

pub fits : {V : Type 0} (k : Kind V) (s : Status) (d : V) (t : Status) (e : V) (w : ℕ) → misfit k s d t e w ≡ false → Fits k s d t e w
fits k s d t e w h =
    let a = neither (same t I) _ h in
    let b = neither (short k d (k.extended e w)) _ a.1 in
    let c = not_short k d (k.extended e w) b.0 in
    record { reach = c.0; extends = c.1; long = c.2; not_I = same_false t I a.0; agree = agrees s t b.1 }

agreed : (s t : Status) → (s ≡ t) ⊎ (t ≡ EB) → (not (same s t) && not (same t EB)) ≡ false
agreed s t (inl e) = rw (true_same s t e)
agreed s t (inr e) = is_false _ (λ h. both_ways (not (same t EB)) (ap not (true_same t EB e)) (both (not (same s t)) _ h).1)

pub fitted : {V : Type 0} {k : Kind V} {s : Status} {d : V} {t : Status} {e : V} {w : ℕ} → Fits k s d t e w → misfit k s d t e w ≡ false
fitted {k = k} {s} {d} {t} {e} {w} f =
    let a : same t I ≡ false = false_same t I f.not_I in
    let b : short k d (k.extended e w) ≡ false = rw f.extends f.long in
    rw (a, b) (agreed s t f.agree)

-- whether board b is an abnormal root
abbrev pub is_root : {V : Type 0} → Kind V → (ℕ → ℕ → Option End) → (ℕ → Record V) → ℕ → Bool
is_root k far rec b = abnormal k (rec b) (around far rec b)

-- board b's par leads to a board below which it fits
pub record Attached {V : Type 0} (k : Kind V) (far : ℕ → ℕ → Option End) (rec : ℕ → Record V) (b : ℕ) : Type 0 where
  pub up : End
  pub leads : far b (rec b).par ≡ Some up
  pub below : Fits k (rec b).status (rec b).length (rec up.board).status (rec up.board).length up.weight

-- board b is an alive abnormal root
pub record Alive {V : Type 0} (k : Kind V) (far : ℕ → ℕ → Option End) (rec : ℕ → Record V) (b : ℕ) : Type 0 where
  pub not_0 : b ≡ 0 → ⊥
  pub root : is_root k far rec b ≡ true
  pub alive : ((rec b).status ≡ C) ⊎ ((rec b).status ≡ EB)

-- port p of board b leads to a C board, whose length extends to l
pub record Offer {V : Type 0} (k : Kind V) (far : ℕ → ℕ → Option End) (rec : ℕ → Record V) (b p : ℕ) (l : V) : Type 0 where
  pub from : End
  pub leads : far b p ≡ Some from
  pub correct : (rec from.board).status ≡ C
  pub extends : k.extended (rec from.board).length from.weight ≡ Some l

abbrev pub seen_at : {V : Type 0} → (ℕ → Record V) → End → Seen V
seen_at rec e = record { status = (rec e.board).status; length = (rec e.board).length; weight = e.weight; named = eqb (rec e.board).par e.port }

module _ {V : Type 0} (k : Kind V) (far : ℕ → ℕ → Option End) (rec : ℕ → Record V) where
  -- a board that is not I is an abnormal root, or it is attached
  pub attached : (b : ℕ) → is_root k far rec b ≡ false → ((rec b).status ≡ I → ⊥) → Attached k far rec b
  attached b h m = go (far b (rec b).par) refl
    where
      open-test : adrift k (rec b) (around far rec b (rec b).par) ≡ false
      open-test = ⊎_elim (λ e. absurd (m (same_true _ _ (not-false _ e)))) (λ e. e) (not_both (not (same (rec b).status I)) _ h)

      go : (o : Option End) → far b (rec b).par ≡ o → Attached k far rec b
      go None e = absurd (both_ways _ open-test (ap (λ x. adrift k (rec b) (shown rec x)) e))
      go (Some u) e = record { up = u; leads = e; below = fits k _ _ _ _ _ (sym (ap (λ x. adrift k (rec b) (shown rec x)) e) ∙ open-test) }

  pub no_root : (b : ℕ) → Attached k far rec b → is_root k far rec b ≡ false
  no_root b a =
      let e : adrift k (rec b) (around far rec b (rec b).par) ≡ false = ap (λ x. adrift k (rec b) (shown rec x)) a.leads ∙ fitted a.below in
      is_false _ (λ h. both_ways _ e (both (not (same (rec b).status I)) _ h).1)

  -- what the par port of an attached board shows
  pub shows_above : (b : ℕ) (a : Attached k far rec b) (t : Status) → shows t (around far rec b (rec b).par) ≡ same (rec a.up.board).status t
  shows_above b a t = ap (λ x. shows t (shown rec x)) a.leads

  -- alive abnormal roots
  pub alive_root_there : (b : ℕ) → alive_root k far rec b ≡ true → Alive k far rec b
  alive_root_there b h =
      let a = both (not (eqb b 0)) _ h in
      let c = both (is_root k far rec b) _ a.1 in
      record {
        not_0 = eqb-false _ _ (not-true _ a.0);
        root = c.0;
        alive = ⊎_elim (λ e. inl (same_true _ _ e)) (λ e. inr (same_true _ _ e)) (either _ _ c.1);
      }

  pub is_alive_root : (b : ℕ) → Alive k far rec b → alive_root k far rec b ≡ true
  is_alive_root b a =
      rw (ne_eqb b 0 a.not_0, a.root) (⊎_elim (λ (e : (rec b).status ≡ C). rw e) (λ (e : (rec b).status ≡ EB). rw e) a.alive)

  -- what a port shows and offers
  pub sees : (b p : ℕ) (e : End) → far b p ≡ Some e → around far rec b p ≡ Some (seen_at rec e)
  sees b p e h = ap (shown rec) h

  pub offer : (b p : ℕ) (l : V) → Offers k (around far rec b) p l → Offer k far rec b p l
  offer b p l o = go (far b p) refl o.offer
    where
      taken : (e : End) (t : Bool) → same (rec e.board).status C ≡ t → cond t (k.extended (rec e.board).length e.weight) None ≡ Some l → ((rec e.board).status ≡ C) × (k.extended (rec e.board).length e.weight ≡ Some l)
      taken e true s h = (same_true _ _ s, h)
      taken e false s h = absurd (nothing h refl)

      go : (f : Option End) → far b p ≡ f → offered k (shown rec f) ≡ Some l → Offer k far rec b p l
      go None e h = absurd (nothing h refl)
      go (Some u) e h = let t = taken u _ refl h in record { from = u; leads = e; correct = t.0; extends = t.1 }

  pub offers : {n : ℕ} → Cabled n far → (b p : ℕ) (l : V) → Offer k far rec b p l → Offers k (around far rec b) p l
  offers cabled b p l o = record {
    port = (cabled.near b p o.from o.leads).1;
    offer = ap (λ x. offered k (shown rec x)) o.leads ∙ rw (true_same _ _ o.correct) o.extends;
  }

  -- the board at the other end has the one below for a child: if all its children are EF, that one is EF
  pub heard : {n : ℕ} → Cabled n far → (b : ℕ) → ((rec b).status ≡ I → ⊥) → (a : Attached k far rec b) → ChildrenEF k (rec a.up.board) (around far rec a.up.board) → (rec b).status ≡ EF
  heard cabled b m a all =
      let r = cabled.there b _ _ a.leads in
      let back = cabled.back b _ _ a.leads in
      let named : eqb (rec b).par (rec b).par ≡ true = eq-eqb _ _ refl in
      let not_I : same (rec b).status I ≡ false = false_same _ _ m in
      all a.up.port (seen_at rec (end_at b (rec b).par a.up.weight)) r.1 (sees _ _ _ back) (rw (named, not_I) (ap not (fitted a.below)))
