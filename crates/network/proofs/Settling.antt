-- No board is enabled exactly when the hall is settled.
use Rattle.std.proofs.Common.{◌≡◌, ℕ, zero, suc, ◌+◌, ◌^◌, ◌<◌, ◌≤◌, true, false, not, ◌&&◌, ◌⊎◌, Some, None, Option, sym, refl, ap, ◌∙◌, subst, inl, inr, ⊎_elim, arith, eqb-true}
use native.Mathlib.Decide.{ℕ_discrete}
use borrow.Author.Tests.{both_ways, not-true}
use Rattle.lengths.specs.Kind.{Kind, Laws, Within}
use Rattle.rules.specs.Rules.{child, misfit, shows, LesserOffer, ChildrenEF}
use Rattle.rules.specs.Status.{same}
use Rattle.rules.specs.declared.neighbourhood.Seen.{Seen}
use Rattle.rules.specs.declared.record.Record.{Record}
use Rattle.rules.specs.declared.status.Status.{Status}
use Rattle.rules.specs.declared.status.Status.TheVariants.{I, C, EB, EF}
use Rattle.rules.specs.declared.verdict.Verdict.{Verdict}
use Rattle.rules.specs.declared.verdict.Verdict.TheVariants.{RC, REB, REF, RI, RR}
use Rattle.network.specs.Cables.{Cabled, Weighed, around, shown, end_at}
use Rattle.rules.specs.Records.{root_of}
use Rattle.network.specs.Turns.{HasVerdict, Quiet}
use Rattle.network.specs.Ways.{Joined, here, along, Way, at_root, onward, Least, Settled}
use Rattle.network.specs.declared.End.{End}
use Rattle.network.proofs.Components.{joined_dec}
use Rattle.network.proofs.Lengths.{at_most, not_less, rises}
use Rattle.network.proofs.Views.{tell, both, is_false, nothing, only, same_true, same_false, true_same, clash, Of, is_I, is_C, is_EB, is_EF, status_of_any, fits, is_root, Attached, attached, no_root, shows_above, Offer, offer, offers, seen_at}
use Rattle.network.proofs.Walks.{joined_way}

-- a way stays in board 0's component
way_joined : {V : Type 0} {k : Kind V} {far : ℕ → ℕ → Option End} {b : ℕ} {l : V} → Way k far b l → Joined far 0 b
way_joined at_root = here
way_joined (onward w p e m f x) = along (way_joined w) p e f

-- a way is no shorter than the start
way_long : {V : Type 0} {k : Kind V} (laws : Laws k) {far : ℕ → ℕ → Option End} {b : ℕ} {l : V} → Way k far b l → k.coded k.start ≤ k.coded l
way_long laws at_root = omega arith
way_long laws (onward {l = l} w p e m f x) = omega (arith, way_long laws w, laws.ordered l m (laws.longer l m _ x))

module _ {V : Type 0} {k : Kind V} (laws : Laws k) {n : ℕ} {far : ℕ → ℕ → Option End} (cabled : Cabled n far) (rec : ℕ → Record V) where
  -- a child of board b, seen at a port, is attached to b
  record ChildOf (b u : ℕ) : Type 0 where
    not_I : (rec u).status ≡ I → ⊥
    attached : Attached k far rec u
    is : attached.up.board ≡ b

  child_of : (b p : ℕ) (e : End) → far b p ≡ Some e → child k (rec b) (seen_at rec e) ≡ true → ChildOf b e.board
  child_of b p e f h =
      let s = seen_at rec e in
      let a = both s.named (not (same s.status I) && not (misfit k s.status s.length (rec b).status (rec b).length s.weight)) h in
      let c = both (not (same s.status I)) (not (misfit k s.status s.length (rec b).status (rec b).length s.weight)) a.1 in
      let named : (rec e.board).par ≡ e.port = eqb-true _ _ a.0 in
      record {
        not_I = same_false _ _ (not-true _ c.0);
        attached = record { up = end_at b p e.weight; leads = rw named (cabled.back b p e f); below = fits k _ _ _ _ _ (not-true _ c.1) };
        is = refl;
      }

  -- every child seen is EF if every board attached to b is
  children_EF : (b : ℕ) → ((u : ℕ) → ChildOf b u → (rec u).status ≡ EF) → ChildrenEF k (rec b) (around far rec b)
  children_EF b h p s l e c = go (far b p) refl e
    where
      go : (o : Option End) → far b p ≡ o → shown rec o ≡ Some s → s.status ≡ EF
      go None f g = absurd (nothing g refl)
      go (Some x) f g =
          let i : seen_at rec x ≡ s = only refl g in
          let d = child_of b p x f (subst (λ (y : Seen V). child k (rec b) y ≡ true) (sym i) c) in
          sym (ap (λ y. y.status) i) ∙ h x.board d

  module _ (root : rec 0 ≡ root_of k) (quiet : Quiet k n far rec) where
    root-status : (rec 0).status ≡ C
    root-status = ap (λ r. r.status) root

    unattached : (b : ℕ) → Attached k far rec b → b ≡ 0 → ⊥
    unattached b a e =
        let p : (rec b).par ≡ 255 = ap (λ x. (rec x).par) e ∙ ap (λ r. r.par) root in
        omega (arith, (cabled.near b _ _ a.leads).1)

    inside : (b : ℕ) → Attached k far rec b → b < n
    inside b a = (cabled.near b _ _ a.leads).0

    -- a C board has no lesser offer, and so cannot get EB
    no_lesser : (b : ℕ) → b < n → (b ≡ 0 → ⊥) → (rec b).status ≡ C → LesserOffer k (around far rec b) (rec b).length → ⊥
    no_lesser b l z s o = quiet b RC (l, z, (s, o))

    no-break : (b : ℕ) → b < n → (b ≡ 0 → ⊥) → (rec b).status ≡ C → (is_root k far rec b ≡ true) ⊎ (shows EB (around far rec b (rec b).par) ≡ true) → ⊥
    no-break b l z s h = quiet b REB (l, z, (s, no_lesser b l z s, h))

    not_0 : (b : ℕ) (s : Status) → (rec b).status ≡ s → same s C ≡ false → b ≡ 0 → ⊥
    not_0 b s e d i = clash e (ap (λ x. (rec x).status) i ∙ root-status) d

    -- no board is EB: all children of the longest would be EF
    no-EB : (f b : ℕ) → 2 ^ 63 ≤ f + k.coded (rec b).length → b < n → (rec b).status ≡ EB → ⊥
    no-EB zero b m l s = omega (arith, laws.bounded (rec b).length)
    no-EB (suc f) b m l s = quiet b REF (l, not_0 b EB s refl, (s, children_EF b (λ u c. go u c (status_of_any (rec u).status) (λ j i. no-EB f u j i))))
      where
        go : (u : ℕ) → ChildOf b u → Of (rec u).status → (2 ^ 63 ≤ f + k.coded (rec u).length → u < n → (rec u).status ≡ EB → ⊥) → (rec u).status ≡ EF
        go u c (is_I t) ih = absurd (c.not_I t)
        go u c (is_EF t) ih = t
        go u c (is_EB t) ih =
            let i : k.coded (rec b).length < k.coded (rec u).length = subst (λ (x : ℕ). k.coded (rec x).length < k.coded (rec u).length) c.is (rises laws u c.attached) in
            absurd (ih (omega arith) (inside u c.attached) t)
        go u c (is_C t) ih =
            let a = c.attached in
            let above : (rec a.up.board).status ≡ EB = ap (λ x. (rec x).status) c.is ∙ s in
            absurd (no-break u (inside u a) (unattached u a) t (inr (shows_above k far rec u a EB ∙ true_same _ _ above)))

    none-EB : (b : ℕ) → b < n → (rec b).status ≡ EB → ⊥
    none-EB b = no-EB (2 ^ 63) b (omega arith)

    -- no board is EF: the shortest would be an abnormal root
    no-EF : (f b : ℕ) → k.coded (rec b).length < f → b < n → (rec b).status ≡ EF → ⊥
    no-EF zero b m l s = omega arith
    no-EF (suc f) b m l s = go (tell (is_root k far rec b)) (λ u. no-EF f u)
      where
        go : (is_root k far rec b ≡ true) ⊎ (is_root k far rec b ≡ false) → ((u : ℕ) → k.coded (rec u).length < f → u < n → (rec u).status ≡ EF → ⊥) → ⊥
        go (inl r) ih = quiet b RI (l, not_0 b EF s refl, (s, r, λ o. quiet b RR (l, not_0 b EF s refl, (o, inr (s, r)))))
        go (inr r) ih =
            let a = attached k far rec b r (λ i. clash s i refl) in
            let up = (cabled.there b _ _ a.leads).0 in
            ⊎_elim (λ t. ih a.up.board (omega (arith, rises laws b a)) up (sym t ∙ s)) (λ t. none-EB a.up.board up t) a.below.agree

    none-EF : (b : ℕ) → b < n → (rec b).status ≡ EF → ⊥
    none-EF b = no-EF (suc (k.coded (rec b).length)) b (omega arith)

    -- a C board other than board 0 hangs below a C board, exactly
    record Hangs (b : ℕ) : Type 0 where
      up : End
      leads : far b (rec b).par ≡ Some up
      correct : (rec up.board).status ≡ C
      extends : k.extended (rec up.board).length up.weight ≡ Some (rec b).length

    hangs : (b : ℕ) → b < n → (b ≡ 0 → ⊥) → (rec b).status ≡ C → Hangs b
    hangs b l z s =
        let r : is_root k far rec b ≡ false = is_false _ (λ h. no-break b l z s (inl h)) in
        let a = attached k far rec b r (λ i. clash s i refl) in
        let c : (rec a.up.board).status ≡ C = ⊎_elim (λ t. sym t ∙ s) (λ t. absurd (none-EB a.up.board (cabled.there b _ _ a.leads).0 t)) a.below.agree in
        let o = offers k far rec cabled b (rec b).par a.below.reach (record { from = a.up; leads = a.leads; correct = c; extends = a.below.extends }) in
        let m : k.less a.below.reach (rec b).length ≡ false = is_false _ (λ h. no_lesser b l z s (record { port = (rec b).par; length = a.below.reach; offers = o; lesser = h })) in
        record { up = a.up; leads = a.leads; correct = c; extends = a.below.extends ∙ ap Some (laws.untied _ _ m a.below.long) }

    -- its length is that of a way
    correct-way : (f b : ℕ) → k.coded (rec b).length < f → b < n → (rec b).status ≡ C → Way k far b (rec b).length
    correct-way zero b m l s = absurd (omega arith)
    correct-way (suc f) b m l s = go (ℕ_discrete b 0) (λ u. correct-way f u)
      where
        go : Dec (b ≡ 0) → ((u : ℕ) → k.coded (rec u).length < f → u < n → (rec u).status ≡ C → Way k far u (rec u).length) → Way k far b (rec b).length
        go (yes e) ih = rw (e, root) at_root
        go (no z) ih =
            let h = hangs b l z s in
            let i = laws.ordered _ _ (laws.longer _ _ _ h.extends) in
            let w = ih h.up.board (omega arith) (cabled.there b _ _ h.leads).0 h.correct in
            onward w h.up.port (end_at b (rec b).par h.up.weight) (rec b).length (cabled.back b _ _ h.leads) h.extends

    -- a board to which a way leads is C, with no greater length
    record Good (b : ℕ) (l : V) : Type 0 where
      correct : (rec b).status ≡ C
      no_more : k.coded (rec b).length ≤ k.coded l

    next-good : (b : ℕ) (l : V) → Good b l → (p : ℕ) (e : End) (m : V) → far b p ≡ Some e → k.extended l e.weight ≡ Some m → (e.board ≡ 0 → ⊥) → Good e.board m
    next-good b l g p e m f x z = go (status_of_any (rec u).status)
      where
        u : ℕ
        u = e.board

        within : Within k (rec b).length e.weight m
        within = laws.monotone (rec b).length l m e.weight (not_less laws _ _ g.no_more) x

        below : u < n
        below = (cabled.there b p e f).0

        given : Offer k far rec u e.port within.reached
        given = record { from = end_at b p e.weight; leads = cabled.back b p e f; correct = g.correct; extends = within.extends }

        go : Of (rec u).status → Good u m
        go (is_I s) = absurd (quiet u RR (below, z, (record { port = e.port; length = within.reached; offers = offers k far rec cabled u _ _ given }, inl s)))
        go (is_EB s) = absurd (none-EB u below s)
        go (is_EF s) = absurd (none-EF u below s)
        go (is_C s) =
            let h : k.less within.reached (rec u).length ≡ false = is_false _ (λ h. no_lesser u below z s (record { port = e.port; length = within.reached; offers = offers k far rec cabled u _ _ given; lesser = h })) in
            record { correct = s; no_more = omega (arith, at_most laws _ _ h, at_most laws _ _ within.short) }

    good : {b : ℕ} {l : V} → Way k far b l → Good b l
    good at_root = record { correct = root-status; no_more = rw root (omega arith) }
    good (onward {b = b} {l = l} w p e m f x) = go (ℕ_discrete e.board 0) (good w)
      where
        go : Dec (e.board ≡ 0) → Good b l → Good e.board m
        go (no z) g = next-good b l g p e m f x z
        go (yes z) g =
            let i : rec e.board ≡ root_of k = ap rec z ∙ root in
            record { correct = ap (λ r. r.status) i; no_more = rw i (way_long laws (onward w p e m f x)) }

    least : (b : ℕ) → b < n → (rec b).status ≡ C → Least k far b (rec b).length
    least b l s = record { way = correct-way (suc (k.coded (rec b).length)) b (omega arith) l s; least = λ m w. not_less laws _ _ (good w).no_more }

  -- where no board is enabled, the hall is settled
  pub quiet_settled : (root : rec 0 ≡ root_of k) → 0 < n → n ≤ 64 → Weighed k far → Quiet k n far rec → Settled k n far rec
  quiet_settled root some few admitted quiet = record {
    correct = λ b l w. is-correct b w;
    shortest = λ b l w. least root quiet b l (is-correct b w);
    parented = λ b l w z.
        let h = hangs root quiet b l z (is-correct b w) in
        record { up = h.up; leads = h.leads; length = (rec h.up.board).length; least = least root quiet h.up.board (cabled.there b _ _ h.leads).0 h.correct; extends = h.extends };
    isolated = λ b l m. go b l m (status_of_any (rec b).status);
  }
    where
      is-correct : (b : ℕ) → Joined far 0 b → (rec b).status ≡ C
      is-correct b w = (good root quiet (joined_way laws cabled some few admitted b w).1).correct

      go : (b : ℕ) → b < n → (Joined far 0 b → ⊥) → Of (rec b).status → (rec b).status ≡ I
      go b l m (is_I s) = s
      go b l m (is_C s) = absurd (m (way_joined (least root quiet b l s).way))
      go b l m (is_EB s) = absurd (none-EB root quiet b l s)
      go b l m (is_EF s) = absurd (none-EF root quiet b l s)

  module _ (settled : Settled k n far rec) where
    -- a lesser offer to a board of board 0's component would be a lesser way
    offer-way : (b p : ℕ) (l : V) → Joined far 0 b → Offer k far rec b p l → Way k far b l
    offer-way b p l w o =
        let u = o.from.board in
        let i = (cabled.there b p o.from o.leads).0 in
        onward (settled.shortest u i (along w p o.from o.leads)).way o.from.port (end_at b p o.from.weight) l (cabled.back b p o.from o.leads) o.extends

    -- its boards are attached, to boards that are C
    fits-parent : (b : ℕ) → b < n → (b ≡ 0 → ⊥) → Joined far 0 b → Attached k far rec b
    fits-parent b l z w =
        let p = settled.parented b l w z in
        let i = (cabled.there b _ _ p.leads).0 in
        let j = along w _ _ p.leads in
        let c = settled.correct p.up.board i j in
        let least = settled.shortest p.up.board i j in
        let e : p.length ≡ (rec p.up.board).length = laws.untied _ _ (least.least _ p.least.way) (p.least.least _ least.way) in
        record {
          up = p.up;
          leads = p.leads;
          below = record { reach = (rec b).length; extends = rw e at p.extends; long = laws.irreflexive _; not_I = λ t. clash c t refl; agree = inl (settled.correct b l w ∙ sym c) };
        }

    unbroken : (b : ℕ) → Joined far 0 b → Attached k far rec b → (is_root k far rec b ≡ true) ⊎ (shows EB (around far rec b (rec b).par) ≡ true) → ⊥
    unbroken b w a (inl r) = both_ways _ (no_root k far rec b a) r
    unbroken b w a (inr r) =
        let above : (rec a.up.board).status ≡ EB = same_true _ _ (sym (shows_above k far rec b a EB) ∙ r) in
        clash (settled.correct a.up.board (cabled.there b _ _ a.leads).0 (along w _ _ a.leads)) above refl

    joined-quiet : (b : ℕ) (v : Verdict) → Joined far 0 b → HasVerdict k n far rec b v → ⊥
    joined-quiet b RC w h =
        let o = h.2.1 in
        both_ways _ ((settled.shortest b h.0 w).least o.length (offer-way b _ _ w (offer k far rec b _ _ o.offers))) o.lesser
    joined-quiet b REB w h = unbroken b w (fits-parent b h.0 h.1 w) h.2.2
    joined-quiet b REF w h = clash (settled.correct b h.0 w) h.2.0 refl
    joined-quiet b RI w h = clash (settled.correct b h.0 w) h.2.0 refl
    joined-quiet b RR w h = let s = settled.correct b h.0 w in ⊎_elim (λ e. clash s e refl) (λ e. clash s e.0 refl) h.2.1

    apart-quiet : (b : ℕ) (v : Verdict) → (Joined far 0 b → ⊥) → HasVerdict k n far rec b v → ⊥
    apart-quiet b RC m h = clash (settled.isolated b h.0 m) h.2.0 refl
    apart-quiet b REB m h = clash (settled.isolated b h.0 m) h.2.0 refl
    apart-quiet b REF m h = clash (settled.isolated b h.0 m) h.2.0 refl
    apart-quiet b RI m h = clash (settled.isolated b h.0 m) h.2.0 refl
    apart-quiet b RR m h =
        let o = offer k far rec b _ _ h.2.0.offers in
        let u = o.from in
        clash (settled.isolated u.board (cabled.there b _ _ o.leads).0 (λ w. m (along w u.port (end_at b _ u.weight) (cabled.back b _ _ o.leads)))) o.correct refl

  -- and where it is settled, no board is enabled
  pub settled_quiet : Settled k n far rec → Quiet k n far rec
  settled_quiet settled b v h = go (joined_dec cabled 0 b (omega (arith, h.0)))
    where
      go : Dec (Joined far 0 b) → ⊥
      go (yes w) = joined-quiet settled b v w h
      go (no m) = apart-quiet settled b v m h
