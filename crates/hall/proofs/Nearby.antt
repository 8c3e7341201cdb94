-- Who sees nothing new when some boards move: those that are not near.
use Rattle.std.proofs.Common.{◌≡◌, ℕ, ◌+◌, ◌^◌, ◌<◌, ◌≤◌, Bool, true, false, ◌&&◌, ◌||◌, eqb, ltb, Some, None, Option, sym, refl, ap, ◌∙◌, subst, arith}
use mathlib.Core.Logic.{by_cases}
use native.Mathlib.Decide.{ℕ_discrete}
use borrow.Author.Tests.{both_ways}
use Rattle.lengths.specs.Kind.{Kind}
use Rattle.rules.specs.Rules.{Enabled, rule_of, TakesLeast}
use Rattle.rules.specs.declared.verdict.Plan.{Plan}
use Rattle.rules.specs.declared.record.Record.{Record}
use Rattle.rules.specs.declared.verdict.Verdict.{Verdict}
use Rattle.network.specs.Cables.{around, shown, end_at}
use Rattle.network.specs.Turns.{Part}
use Rattle.network.specs.declared.End.{End}
use Rattle.sets.specs.Sets.{has, LeastFrom}
use Rattle.sets.proofs.Walking.{one_further, all_passed}
use Rattle.hall.specs.Hall.{boards_in, far_in, records_in, MovesBy, TellsEnabled, EnabledSet, JudgedBoard, JudgedAgain, PlanIn, plan_of, AllPlanned, Turned, Reaches, NearAll}
use Rattle.hall.specs.Tables.{far_of}
use Rattle.hall.specs.declared.cabling.Cabling.{Cabling}
use Rattle.hall.specs.declared.plans.Plans.{Plans}
use Rattle.hall.specs.declared.tables.Hall.{Hall}
use Rattle.hall.proofs.CableLaw.{cabled, in_table}
use Rattle.hall.proofs.Judging.{with_itself}
use Rattle.hall.proofs.Verdicts.{plan_tells, all_told}

pub kept_in : (x y : Bool) → x ≡ true → (x || y) ≡ true
kept_in true y e = refl
kept_in false y e = absurd (both_ways false refl e)

-- one port more
pub port_more : {V : Type 0} (h : Hall V) (s b m r t : ℕ) → Reaches h s b m r → t < 2 ^ 64 → ((c : ℕ) → has r c ≡ true → has t c ≡ true) → ((e : End) → far_in h b m ≡ Some e → has t e.board ≡ true) → Reaches h s b (m + 1) t
port_more h s b m r t i small more here = record {
  small = small;
  these = λ c in-s. more c (i.these c in-s);
  far = λ p e lt at. by_cases (ℕ_discrete p m) (λ same. here e (ap (far_in h b) (sym same) ∙ at)) (λ ne. more e.board (i.far p e (omega arith) at));
}

-- the far board at a port, where it has joined the set
pub far_board : {V : Type 0} (h : Hall V) (b m r t n : ℕ) (x : End) → Some x ≡ far_in h b m → n ≡ x.board → ((c : ℕ) → has t c ≡ (has r c || (eqb c n && ltb n 64))) → (e : End) → far_in h b m ≡ Some e → has t e.board ≡ true
far_board h b m r t n x at same w e is =
    let one : e ≡ x = let a = at ∙ is in cc in
    let here = in_table h.cabling.wired h.cabling.few b m x (sym at) in
    ap (λ (y : End). has t y.board) one ∙ with_itself r t x.board here.far_board (subst (λ y. (c : ℕ) → has t c ≡ (has r c || (eqb c y && ltb y 64))) same w)

-- r has the neighbours of board b
abbrev Around : {V : Type 0} → Hall V → ℕ → ℕ → Type 0
Around h r b = (p : ℕ) (e : End) → far_in h b p ≡ Some e → has r e.board ≡ true

-- r has the boards of s, and the neighbours of those below m
pub record NearBelow {V : Type 0} (h : Hall V) (s m r : ℕ) : Type 0 where
  pub small : r < 2 ^ 64
  pub these : (c : ℕ) → has s c ≡ true → has r c ≡ true
  pub neighbours : (b : ℕ) → b < m → has s b ≡ true → Around h r b

-- one board more
pub near_more : {V : Type 0} (h : Hall V) (s from m r t : ℕ) → NearBelow h s from r → LeastFrom s from m → Reaches h r m 8 t → NearBelow h s (m + 1) t
near_more h s from m r t i l x = record {
  small = x.small;
  these = λ c in-s. x.these c (i.these c in-s);
  neighbours = one_further (Around h t) s from (λ b lt in-s p e at. x.these e.board (i.neighbours b lt in-s p e at)) m l (λ p e at. x.far p e ((cabled h.cabling.wired).near m p e at).1 at);
}

pub near_all : {V : Type 0} (h : Hall V) (s m r n : ℕ) → NearBelow h s m r → ((b : ℕ) → m ≤ b → has s b ≡ false) → NearAll h s n r
near_all h s m r n i none = record {
  small = i.small;
  these = i.these;
  neighbours = λ b p e lt in-s at. all_passed (Around h r) s m i.neighbours none b in-s p e at;
}

module _ {V : Type 0} (k : Kind V) (old new : Hall V) (moved near : ℕ) (turned : Turned k old moved new) (reach : NearAll new moved (boards_in new) near) where
  -- a board that did not move has its old record
  same_record : (b : ℕ) → has moved b ≡ false → records_in k new b ≡ records_in k old b
  same_record b out = go (turned.by b) (subst (λ t. MovesBy k old t b (turned.by b)) out (turned.movers b)) (turned.moves b)
    where
      go : (r : Option Verdict) → r ≡ None → Part k (boards_in old) (far_in old) (records_in k old) b r (records_in k new b) → records_in k new b ≡ records_in k old b
      go None e p = p
      go (Some v) e p = let z : ◌≡◌ {A = ℕ} 0 1 = cc in absurd (omega arith)

  -- nobody near a board that is not near has moved
  not_moved : (b : ℕ) → has near b ≡ false → has moved b ≡ false
  not_moved b out = go (has moved b) refl
    where
      go : (t : Bool) → has moved b ≡ t → t ≡ false
      go true e = absurd (both_ways (has near b) out (reach.these b e))
      go false e = refl

  far_unmoved : (b p : ℕ) (e : End) → has near b ≡ false → far_in new b p ≡ Some e → has moved e.board ≡ false
  far_unmoved b p e out at = go (has moved e.board) refl
    where
      go : (t : Bool) → has moved e.board ≡ t → t ≡ false
      go true in_moved = let law = cabled new.cabling.wired in absurd (both_ways (has near b) out (reach.neighbours e.board e.port (end_at b p e.weight) (law.near e.board e.port (end_at b p e.weight) (law.back b p e at)).0 in_moved (law.back b p e at)))
      go false x = refl

  same_view : (b : ℕ) → has near b ≡ false → (p : ℕ) → around (far_in new) (records_in k new) b p ≡ around (far_in old) (records_in k old) b p
  same_view b out p = go (far_in new b p) refl ∙ ap (λ (c : Cabling). shown (records_in k old) (far_of c.ends b p)) turned.cabling
    where
      go : (o : Option End) → far_in new b p ≡ o → shown (records_in k new) o ≡ shown (records_in k old) o
      go None e = refl
      go (Some x) e = ap (λ (r : Record V). Some (record { status = r.status; length = r.length; weight = x.weight; named = eqb r.par x.port })) (same_record x.board (far_unmoved b p x out e))

  same_enabled : (b : ℕ) → has near b ≡ false → (v : Verdict) → Enabled k (records_in k new b) (around (far_in new) (records_in k new) b) v ≡ Enabled k (records_in k old b) (around (far_in old) (records_in k old) b) v
  same_enabled b out v = λ i. Enabled k (same_record b (not_moved b out) i) (λ p. same_view b out p i) v

  -- so its verdict is the old one
  tells_before : (s : ℕ) → EnabledSet k old s → (b : ℕ) → has near b ≡ false → (t : Bool) → t ≡ has s b → TellsEnabled k new b t
  tells_before s e b out true is =
      let v = e.only b (sym is) in
      (v.0, (subst (λ (c : Cabling). b < c.n) (sym turned.cabling) v.1.0, v.1.1, subst (λ (P : Type 0). P) (sym (same_enabled b out v.0)) v.1.2))
  tells_before s e b out false is = λ v x.
      both_ways (has s b) (sym is) (e.all b v (subst (λ (c : Cabling). b < c.n) turned.cabling x.0, x.1, subst (λ (P : Type 0). P) (same_enabled b out v) x.2))

  -- and so is its plan
  same_plan : (b : ℕ) → has near b ≡ false → (p : Option Plan) → PlanIn k old b p → PlanIn k new b p
  same_plan b out None x = λ v y. x v (subst (λ (c : Cabling). b < c.n) turned.cabling y.0, y.1, subst (λ (P : Type 0). P) (same_enabled b out v) y.2)
  same_plan b out (Some p) x = (
    (subst (λ (c : Cabling). b < c.n) (sym turned.cabling) x.0.0, x.0.1, subst (λ (P : Type 0). P) (sym (same_enabled b out (rule_of p))) x.0.2),
    subst (λ (P : Type 0). P) (sym (λ i. TakesLeast k (λ q. same_view b out q i) p)) x.1,
  )

  -- the enabled boards are those that were, and of those near the ones that are now
  pub enabled_anew : (s r : ℕ) (before after : Plans) → EnabledSet k old s → JudgedAgain k new s near before r after → EnabledSet k new r
  enabled_anew s r before after e j = all_told k new r j.small (λ b lt. told b (has near b) refl (j.each b))
    where
      told : (b : ℕ) (t : Bool) → has near b ≡ t → JudgedBoard k new t (has s b) b (plan_of before b) (has r b) (plan_of after b) → TellsEnabled k new b (has r b)
      told b true x y = plan_tells k new b (plan_of after b) (has r b) y.1 y.0
      told b false x y = tells_before s e b x (has r b) y.0

  -- and each of them has its plan
  pub planned_anew : (s r : ℕ) (before after : Plans) → AllPlanned k old before s → JudgedAgain k new s near before r after → AllPlanned k new after r
  planned_anew s r before after plans j b in-r = planned (has near b) refl (j.each b)
    where
      planned : (t : Bool) → has near b ≡ t → JudgedBoard k new t (has s b) b (plan_of before b) (has r b) (plan_of after b) → PlanIn k new b (plan_of after b)
      planned true x y = y.0
      planned false x y = subst (PlanIn k new b) (sym y.1) (same_plan b x (plan_of before b) (plans b (sym y.0 ∙ in-r)))
