-- What a write to the table of far ends does, and that adding and removing a cable keep the law of cables.
use Rattle.std.proofs.Common.{◌≡◌, ℕ, ◌<◌, ◌⊎◌, List, [], length, get_or, set, Some, None, Option, sym, ap, ◌∙◌, ap₂, inl, inr, ⊎_elim, arith, length-set, get_or-set_other, get_or-set_same}
use mathlib.Core.Logic.Dec
use mathlib.Core.Logic.{by_cases}
use native.Mathlib.Decide.{ℕ_discrete, dec_lt}
use Rattle.std.proofs.lemmas.List.{get_or_past}
use Rattle.network.specs.Cables.{Cabled, Adds, Removes, end_at}
use Rattle.network.specs.declared.End.{End}
use Rattle.hall.specs.Tables.{far_of, Rows}

-- a write at one port
abbrev pub put : List (List (Option End)) → ℕ → ℕ → Option End → List (List (Option End))
put ends b p v = set ends b (set (get_or ends b []) p v)

inside : (ends : List (List (Option End))) → Rows ends → (b : ℕ) → b < 64 → b < length ends
inside ends rows b h =
    by_cases (dec_lt b (length ends)) (λ y. y)
    (λ out. let past : get_or ends b [] ≡ [] = get_or_past ends b [] (omega arith) in let l = ap length (sym past) ∙ rows b h in absurd (omega arith))

pub spot : (c r a p : ℕ) → Dec ((c ≡ a) × (r ≡ p))
spot c r a p = Dec.and (ℕ_discrete c a) (ℕ_discrete r p)

pub put_rows : (ends : List (List (Option End))) → Rows ends → (b p : ℕ) (v : Option End) → b < 64 → Rows (put ends b p v)
put_rows ends rows b p v hb c h =
    let in_b = inside ends rows b hb in
    by_cases (ℕ_discrete c b)
    (λ e. ap (λ x. length (get_or (put ends b p v) x [])) e ∙ ap length (get_or-set_same ends b (set (get_or ends b []) p v) [] in_b) ∙ length-set (get_or ends b []) p v ∙ rows b hb)
    (λ ne. ap length (get_or-set_other ends b c (set (get_or ends b []) p v) [] ne) ∙ rows c h)

pub put_same : (ends : List (List (Option End))) → Rows ends → (b p : ℕ) (v : Option End) → b < 64 → p < 8 → far_of (put ends b p v) b p ≡ v
put_same ends rows b p v hb hp =
    let in_b = inside ends rows b hb in
    let l = rows b hb in
    let in_p : p < length (get_or ends b []) = omega arith in
    ap (λ x. get_or x p None) (get_or-set_same ends b (set (get_or ends b []) p v) [] in_b) ∙ get_or-set_same (get_or ends b []) p v None in_p

pub put_other : (ends : List (List (Option End))) → Rows ends → (b p : ℕ) (v : Option End) → b < 64 → (c r : ℕ) → ((c ≡ b) × (r ≡ p) → ⊥) → far_of (put ends b p v) c r ≡ far_of ends c r
put_other ends rows b p v hb c r ne =
    let in_b = inside ends rows b hb in
    by_cases (ℕ_discrete c b)
    (λ e. ap (λ x. far_of (put ends b p v) x r) e ∙ ap (λ x. get_or x r None) (get_or-set_same ends b (set (get_or ends b []) p v) [] in_b) ∙ get_or-set_other (get_or ends b []) p r v None (λ f. ne (e, f)) ∙ ap (λ x. far_of ends x r) (sym e))
    (λ nb. ap (λ x. get_or x r None) (get_or-set_other ends b c (set (get_or ends b []) p v) [] nb))

-- two writes, to different ports
pub adds : (ends : List (List (Option End))) → Rows ends → (a p b q w : ℕ) → a < 64 → b < 64 → p < 8 → q < 8 → (a ≡ b → ⊥) → Adds (far_of ends) a p b q w (far_of (put (put ends a p (Some (end_at b q w))) b q (Some (end_at a p w))))
adds ends rows a p b q w ha hb hp hq ne =
    let first = put ends a p (Some (end_at b q w)) in
    let rows' = put_rows ends rows a p (Some (end_at b q w)) ha in
    record {
      one_end = put_other first rows' b q _ hb a p (λ h. ne h.0) ∙ put_same ends rows a p _ ha hp;
      other_end = put_same first rows' b q _ hb hq;
      rest = λ c r na nb. put_other first rows' b q _ hb c r nb ∙ put_other ends rows a p _ ha c r na;
    }

pub removes : (ends : List (List (Option End))) → Rows ends → (a p : ℕ) (e : End) → a < 64 → e.board < 64 → p < 8 → e.port < 8 → (e.board ≡ a → ⊥) → Removes (far_of ends) a p e (far_of (put (put ends a p None) e.board e.port None))
removes ends rows a p e ha hb hp hq ne =
    let first = put ends a p None in
    let rows' = put_rows ends rows a p None ha in
    record {
      one_end = put_other first rows' e.board e.port None hb a p (λ h. ne (sym h.0)) ∙ put_same ends rows a p None ha hp;
      other_end = put_same first rows' e.board e.port None hb hq;
      rest = λ c r na nb. put_other first rows' e.board e.port None hb c r nb ∙ put_other ends rows a p None ha c r na;
    }

clash : {o : Option End} {x : End} → o ≡ None → o ≡ Some x → ⊥
clash {o} {x} p q = let z : ◌≡◌ {A = ℕ} 0 1 = cc in omega arith

-- a cable more
module _ {far after : ℕ → ℕ → Option End} {n a p b q w : ℕ} (cab : Cabled n far) (ha : a < n) (hb : b < n) (hp : p < 8) (hq : q < 8) (ne : a ≡ b → ⊥) (fa : far a p ≡ None) (fb : far b q ≡ None) (ad : Adds far a p b q w after) where
  old_stays : (c r : ℕ) (x : End) → far c r ≡ Some x → after c r ≡ Some x
  old_stays c r x h = ad.rest c r (λ s. clash (ap₂ far s.0 s.1 ∙ fa) h) (λ s. clash (ap₂ far s.0 s.1 ∙ fb) h) ∙ h

  stands : (c r : ℕ) (x : End) → after c r ≡ Some x → ((c ≡ a) × (r ≡ p) × (x ≡ end_at b q w)) ⊎ (((c ≡ b) × (r ≡ q) × (x ≡ end_at a p w)) ⊎ (far c r ≡ Some x))
  stands c r x h =
      by_cases (spot c r a p)
      (λ s. inl (s.0, s.1, let f = sym (ap₂ after s.0 s.1) ∙ h in let g = ad.one_end in cc))
      (λ na. by_cases (spot c r b q)
      (λ s. inr (inl (s.0, s.1, let f = sym (ap₂ after s.0 s.1) ∙ h in let g = ad.other_end in cc)))
      (λ nb. inr (inr (sym (ad.rest c r na nb) ∙ h))))

  weigh : {x y : End} → x ≡ y → y.weight ≡ x.weight
  weigh e = sym (ap (λ (y : End). y.weight) e)

  pub adds_cabled : Cabled n after
  adds_cabled = record {
    near = λ c r x h. ⊎_elim (λ s. (rw s.0 ha, rw s.1 hp)) (⊎_elim (λ s. (rw s.0 hb, rw s.1 hq)) (λ f. cab.near c r x f)) (stands c r x h);
    there = λ c r x h. ⊎_elim (λ s. (rw s.2 hb, rw s.2 hq)) (⊎_elim (λ s. (rw s.2 ha, rw s.2 hp)) (λ f. cab.there c r x f)) (stands c r x h);
    back = λ c r x h. ⊎_elim
        (λ s. ap (λ (y : End). after y.board y.port) s.2 ∙ ad.other_end ∙ ap Some (λ i. end_at (sym s.0 i) (sym s.1 i) (weigh s.2 i)))
        (⊎_elim
        (λ s. ap (λ (y : End). after y.board y.port) s.2 ∙ ad.one_end ∙ ap Some (λ i. end_at (sym s.0 i) (sym s.1 i) (weigh s.2 i)))
        (λ f. old_stays _ _ _ (cab.back c r x f)))
        (stands c r x h);
    apart = λ c r x h e. ⊎_elim (λ s. ne (sym s.0 ∙ sym e ∙ ap (λ (y : End). y.board) s.2)) (⊎_elim (λ s. ne (sym (ap (λ (y : End). y.board) s.2) ∙ e ∙ s.0)) (λ f. cab.apart c r x f e)) (stands c r x h);
  }

-- a cable less
module _ {far after : ℕ → ℕ → Option End} {n a p : ℕ} {e : End} (cab : Cabled n far) (at : far a p ≡ Some e) (re : Removes far a p e after) where
  pub was : (c r : ℕ) (x : End) → after c r ≡ Some x → far c r ≡ Some x
  was c r x h =
      by_cases (spot c r a p)
      (λ s. absurd (clash (ap₂ after s.0 s.1 ∙ re.one_end) h))
      (λ na. by_cases (spot c r e.board e.port)
      (λ s. absurd (clash (ap₂ after s.0 s.1 ∙ re.other_end) h))
      (λ nb. sym (re.rest c r na nb) ∙ h))

  -- the far end of a cable that is still there is not an end of the one removed
  kept : (c r : ℕ) (x : End) → after c r ≡ Some x → after x.board x.port ≡ Some (end_at c r x.weight)
  kept c r x h =
      let f = was c r x h in
      let back = cab.back c r x f in
      re.rest x.board x.port
      (λ s. let here : Some e ≡ Some (end_at c r x.weight) = sym at ∙ sym (ap₂ far s.0 s.1) ∙ back in
      let is : e ≡ end_at c r x.weight = cc in
      clash (ap₂ after (sym (ap (λ (y : End). y.board) is)) (sym (ap (λ (y : End). y.port) is)) ∙ re.other_end) h)
      (λ s. let there : Some (end_at a p e.weight) ≡ Some (end_at c r x.weight) = sym (cab.back a p e at) ∙ sym (ap₂ far s.0 s.1) ∙ back in
      let is : end_at a p e.weight ≡ end_at c r x.weight = cc in
      clash (ap₂ after (sym (ap (λ (y : End). y.board) is)) (sym (ap (λ (y : End). y.port) is)) ∙ re.one_end) h)
      ∙ back

  pub removes_cabled : Cabled n after
  removes_cabled = record {
    near = λ c r x h. cab.near c r x (was c r x h);
    there = λ c r x h. cab.there c r x (was c r x h);
    back = kept;
    apart = λ c r x h. cab.apart c r x (was c r x h);
  }
