-- Halls with the same tables: what each call answers, and the tables that it leaves, are the same.
use Rattle.std.proofs.Common.{◌≡◌, ℕ, ◌+◌, ◌<◌, Bool, true, eqb, List, ◌++◌, Some, None, Ok, Err, Option, Result, sym, refl, ap, ◌∙◌, subst, arith}
use mathlib.Core.Logic.{by_cases}
use native.Mathlib.Decide.{ℕ_discrete}
use Rattle.lengths.specs.Kind.{Kind, Laws}
use Rattle.rules.specs.Rules.{Enabled, Effect}
use Rattle.rules.specs.declared.record.Record.{Record}
use Rattle.rules.specs.declared.verdict.Verdict.{Verdict}
use Rattle.rules.specs.declared.verdict.Verdict.TheVariants.{RC, REB, REF, RI, RR}
use Rattle.network.specs.Cables.{around, shown, Adds, Removes}
use Rattle.network.specs.Turns.{Part}
use Rattle.network.specs.declared.End.{End}
use Rattle.network.proofs.Counts.{one_count}
use Rattle.network.proofs.Views.{nothing, only}
use Rattle.sets.specs.Sets.{has}
use Rattle.sets.proofs.Bits.{has_zero, same_members, same_test}
use Rattle.hall.specs.Faults.{refusal}
use Rattle.hall.specs.Tables.{far_of}
use Rattle.hall.specs.Hall.{boards_in, far_in, records_in, counts_in, count_of, counted, Makes, Anew, Wires, wire_checks, Cuts, cut_checks, Planted, plant_checks, VerdictIn, IsVerdict, MovesBy, EnabledSet, Turned, Turns, TurnFault, beyond, nobody, disabled, AllEnabled, Plants, Looks, Tallies}
use Rattle.rules.specs.Records.{Numbered}
use Rattle.hall.specs.Runs.{Settles}
use Rattle.hall.specs.Runs.Settles.{at_rest, asked}
use Rattle.hall.specs.declared.fault.Fault.{Fault}
use Rattle.hall.specs.declared.questions.Look.{Look}
use Rattle.hall.specs.declared.tables.Hall.{Hall}
use Rattle.hall.specs.declared.tables.Tally.{Tally}
use Rattle.hall.proofs.CableLaw.{cabled}
use Rattle.hall.proofs.Rewiring.{spot}
use Rattle.session.specs.Texts.{board_text, ShownFrom, past, board}
use Rattle.session.proofs.OneMove.{one_verdict, one_effect}

-- two halls have the same boards, cables, records and counts
pub record Alike {V : Type 0} (k : Kind V) (g h : Hall V) : Type 0 where
  pub boards : boards_in g ≡ boards_in h
  pub cables : (b p : ℕ) → far_in g b p ≡ far_in h b p
  pub records : (b : ℕ) → b < boards_in g → records_in k g b ≡ records_in k h b
  pub counts : (b : ℕ) (v : Verdict) → counts_in g b v ≡ counts_in h b v

pub flip : {V : Type 0} {k : Kind V} {g h : Hall V} → Alike k g h → Alike k h g
flip a = record {
  boards = sym a.boards;
  cables = λ b p. sym (a.cables b p);
  records = λ b lt. sym (a.records b (omega (arith, a.boards)));
  counts = λ b v. sym (a.counts b v);
}

-- a board sees the same in both
near_same : {V : Type 0} {k : Kind V} (g h : Hall V) → Alike k g h → (b p : ℕ) → around (far_in g) (records_in k g) b p ≡ around (far_in h) (records_in k h) b p
near_same {V} {k} g h a b p = go (far_in g b p) refl ∙ ap (shown (records_in k h)) (a.cables b p)
  where
    go : (o : Option End) → far_in g b p ≡ o → shown (records_in k g) o ≡ shown (records_in k h) o
    go None e = refl
    go (Some x) e =
        ap (λ (r : Record V). Some (record { status = r.status; length = r.length; weight = x.weight; named = eqb r.par x.port }))
        (a.records x.board ((cabled g.cabling.wired).there b p x e).0)

module _ {V : Type 0} {k : Kind V} (laws : Laws k) where
  -- a verdict in one is a verdict in the other
  verdict_same : (g h : Hall V) → Alike k g h → (b : ℕ) (v : Verdict) → VerdictIn k g b v → VerdictIn k h b v
  verdict_same g h a b v x = (
    omega (arith, x.0, a.boards),
    x.1,
    subst (λ near. Enabled k (records_in k h b) near v) (λ i p. near_same g h a b p i) (subst (λ own. Enabled k own (around (far_in g) (records_in k g) b) v) (a.records b x.0) x.2),
  )

  pub one_is_verdict : (g h : Hall V) → Alike k g h → (b : ℕ) (r s : Option Verdict) → IsVerdict k g b r → IsVerdict k h b s → r ≡ s
  one_is_verdict g h a b None None p q = refl
  one_is_verdict g h a b None (Some v) p q = absurd (p v (verdict_same h g (flip a) b v q))
  one_is_verdict g h a b (Some u) None p q = absurd (q u (verdict_same g h a b u p))
  one_is_verdict g h a b (Some u) (Some v) p q =
      ap Some (one_verdict laws (records_in k h b) (around (far_in h) (records_in k h) b) u v (verdict_same g h a b u p).2 q.2)

  one_mover : (g h : Hall V) → Alike k g h → (chosen : Bool) (b : ℕ) (r s : Option Verdict) → MovesBy k g chosen b r → MovesBy k h chosen b s → r ≡ s
  one_mover g h a chosen b r s p q = grind (arith, one_is_verdict)

  one_part : (g h : Hall V) → Alike k g h → (b : ℕ) → b < boards_in g → (r : Option Verdict) (x y : Record V) → Part k (boards_in g) (far_in g) (records_in k g) b r x → Part k (boards_in h) (far_in h) (records_in k h) b r y → x ≡ y
  one_part g h a b lt None x y p q = p ∙ a.records b lt ∙ sym q
  one_part g h a b lt (Some v) x y p q =
      one_effect laws (records_in k h b) (around (far_in h) (records_in k h) b) v x y
      (subst (λ near. Effect k (records_in k h b) near v x) (λ i p. near_same g h a b p i) (subst (λ own. Effect k own (around (far_in g) (records_in k g) b) v x) (a.records b lt) p.1))
      q.1

  one_turned : (g h g' h' : Hall V) (s : ℕ) → Alike k g h → Turned k g s g' → Turned k h s h' → Alike k g' h'
  one_turned g h g' h' s a p q =
      let by : (b : ℕ) → p.by b ≡ q.by b = λ b. one_mover g h a (has s b) b (p.by b) (q.by b) (p.movers b) (q.movers b) in
      record {
        boards = ap (λ c. c.n) p.cabling ∙ a.boards ∙ sym (ap (λ c. c.n) q.cabling);
        cables = λ b o. ap (λ c. far_of c.ends b o) p.cabling ∙ a.cables b o ∙ sym (ap (λ c. far_of c.ends b o) q.cabling);
        records = λ b lt. one_part g h a b (omega (arith, ap (λ c. c.n) p.cabling)) (p.by b) _ _ (p.moves b) (subst (λ r. Part k (boards_in h) (far_in h) (records_in k h) b r (records_in k h' b)) (sym (by b)) (q.moves b));
        counts = λ b v. p.counts b v ∙ ap (λ c. counted c (p.by b) v) (a.counts b v) ∙ ap (λ r. counted (counts_in h b v) r v) (by b) ∙ sym (q.counts b v);
      }

  -- a refusal leaves both as they were
  pub kept : {g h g' h' : Hall V} → g' ≡ g → h' ≡ h → Alike k g h → Alike k g' h'
  kept {g} {h} {g'} {h'} p q a = subst (λ x. Alike k x h') (sym p) (subst (Alike k g) (sym q) a)

  -- a change begins the counts anew
  changed : {g h g' h' : Hall V} → Alike k g h → Anew g g' → Anew h h' → ((b p : ℕ) → far_in g' b p ≡ far_in h' b p) → ((b : ℕ) → b < boards_in g → records_in k g' b ≡ records_in k h' b) → Alike k g' h'
  changed a p q cables records = record {
    boards = p.boards ∙ a.boards ∙ sym q.boards;
    cables = cables;
    records = λ b lt. records b (omega (arith, p.boards));
    counts = λ b v. p.counts b v ∙ sym (q.counts b v);
  }

  -- tables that agree at a spot, and elsewhere by the tables before
  at_spot : {X : Type 0} (f g : ℕ → ℕ → X) {c r a p : ℕ} → (c ≡ a) × (r ≡ p) → f a p ≡ g a p → f c r ≡ g c r
  at_spot f g e x = (λ i. f (e.0 i) (e.1 i)) ∙ x ∙ sym (λ i. g (e.0 i) (e.1 i))

  one_adds : {f g f' g' : ℕ → ℕ → Option End} {a p b q w : ℕ} → ((c r : ℕ) → f c r ≡ g c r) → Adds f a p b q w f' → Adds g a p b q w g' → (c r : ℕ) → f' c r ≡ g' c r
  one_adds {f} {g} {f'} {g'} {a} {p} {b} {q} {w} e x y c r =
      by_cases (spot c r a p) (λ s. at_spot f' g' s (x.one_end ∙ sym y.one_end))
      (λ m. by_cases (spot c r b q) (λ s. at_spot f' g' s (x.other_end ∙ sym y.other_end)) (λ n. x.rest c r m n ∙ e c r ∙ sym (y.rest c r m n)))

  one_removes : {f g f' g' : ℕ → ℕ → Option End} {a p : ℕ} {o : End} → ((c r : ℕ) → f c r ≡ g c r) → Removes f a p o f' → Removes g a p o g' → (c r : ℕ) → f' c r ≡ g' c r
  one_removes {f} {g} {f'} {g'} {a} {p} {o} e x y c r =
      by_cases (spot c r a p) (λ s. at_spot f' g' s (x.one_end ∙ sym y.one_end))
      (λ m. by_cases (spot c r o.board o.port) (λ s. at_spot f' g' s (x.other_end ∙ sym y.other_end)) (λ n. x.rest c r m n ∙ e c r ∙ sym (y.rest c r m n)))

  one_numbered : (s p c : ℕ) (x y : Record V) → Numbered k s p c x → Numbered k s p c y → x ≡ y
  one_numbered s p c x y u v = grind arith

  -- A change is made where its checks pass, and else refused: R tells the answer in one hall, with the checks' refusal x, and S in the other.
  one_change : {g h g' h' : Hall V} {x y : Option Fault} (R S : Result (Unit {0}) Fault → Type 0) → x ≡ y → Alike k g h → ((f : Fault) → R (Err f) → (x ≡ Some f) × (g' ≡ g)) → ((f : Fault) → S (Err f) → (y ≡ Some f) × (h' ≡ h)) → ((o : Unit {0}) → R (Ok o) → x ≡ None) → ((o : Unit {0}) → S (Ok o) → y ≡ None) → ((o o' : Unit {0}) → R (Ok o) → S (Ok o') → Alike k g' h') → (r s : Result (Unit {0}) Fault) → R r → S s → (r ≡ s) × Alike k g' h'
  one_change R S e l refused refused' made made' both (Ok o) (Ok o') u v = (refl, both o o' u v)
  one_change R S e l refused refused' made made' both (Ok o) (Err f) u v = absurd (nothing (refused' f v).0 (sym e ∙ made o u))
  one_change R S e l refused refused' made made' both (Err f) (Ok o) u v = absurd (nothing (refused f u).0 (e ∙ made' o v))
  one_change R S e l refused refused' made made' both (Err f) (Err f') u v =
      let p = refused f u in let q = refused' f' v in (ap Err (only p.0 (e ∙ q.0)), kept p.1 q.1 l)

  pub one_wires : (g h g' h' : Hall V) (a p b q w : ℕ) → Alike k g h → (r s : Result (Unit {0}) Fault) → Wires k g a p b q w r g' → Wires k h a p b q w s h' → (r ≡ s) × Alike k g' h'
  one_wires g h g' h' a p b q w l =
      let checks : refusal (wire_checks k g a p b q w) ≡ refusal (wire_checks k h a p b q w) = let n = l.boards in let x = l.cables a p in let y = l.cables b q in cc in
      one_change (λ r. Wires k g a p b q w r g') (λ r. Wires k h a p b q w r h') checks l (λ f u. u) (λ f u. u) (λ o u. u.0) (λ o u. u.0)
      (λ o o' u v. changed l u.1 v.1 (one_adds l.cables u.3 v.3) (λ c lt. u.2 c ∙ l.records c lt ∙ sym (v.2 c)))

  pub one_cuts : (g h g' h' : Hall V) (a p : ℕ) → Alike k g h → (r s : Result (Unit {0}) Fault) → Cuts k g a p r g' → Cuts k h a p s h' → (r ≡ s) × Alike k g' h'
  one_cuts g h g' h' a p l =
      let checks : refusal (cut_checks g a p) ≡ refusal (cut_checks h a p) = let n = l.boards in let x = l.cables a p in cc in
      one_change (λ r. Cuts k g a p r g') (λ r. Cuts k h a p r h') checks l (λ f u. u) (λ f u. u) (λ o u. u.0) (λ o u. u.0)
      (λ o o' u v.
      let e : u.3.0 ≡ v.3.0 = only u.3.1 (l.cables a p ∙ v.3.1) in
      changed l u.1 v.1 (one_removes l.cables (subst (λ end. Removes (far_in g) a p end (far_in g')) e u.3.2) v.3.2) (λ c lt. u.2 c ∙ l.records c lt ∙ sym (v.2 c)))

  pub one_planted : (g h g' h' : Hall V) (b status par code : ℕ) → Alike k g h → (r s : Result (Unit {0}) Fault) → Planted k g b status par code r g' → Planted k h b status par code s h' → (r ≡ s) × Alike k g' h'
  one_planted g h g' h' b status par code l =
      let checks : refusal (plant_checks k g b status par code) ≡ refusal (plant_checks k h b status par code) = let n = l.boards in cc in
      one_change (λ r. Planted k g b status par code r g') (λ r. Planted k h b status par code r h') checks l (λ f u. u) (λ f u. u) (λ o u. u.0) (λ o u. u.0)
      (λ o o' u v. changed l u.1 v.1 (λ c r. u.2 c r ∙ l.cables c r ∙ sym (v.2 c r)) (records u.3 v.3))
    where
      records : Plants k g b status par code g' → Plants k h b status par code h' → (o : ℕ) → o < boards_in g → records_in k g' o ≡ records_in k h' o
      records u v o lt =
          by_cases (ℕ_discrete o b)
          (λ e. ap (records_in k g') e ∙ one_numbered status par code _ _ u.planted v.planted ∙ sym (ap (records_in k h') e))
          (λ ne. u.others o ne ∙ l.records o lt ∙ sym (v.others o ne))

  -- a turn that is accepted in one is not refused in the other
  not_refused : (g h : Hall V) (s : ℕ) → Alike k g h → AllEnabled k g s → (s ≡ 0 → ⊥) → (f : Fault) → TurnFault k h s f → ⊥
  not_refused g h s l all some f (beyond b in-s gone) = let v = all b in-s in omega (arith, v.1.0, l.boards)
  not_refused g h s l all some f (nobody e) = some e
  not_refused g h s l all some f (disabled there idle) =
      let v = all idle.board idle.chosen in
      idle.idle v.0 (verdict_same g h l idle.board v.0 v.1)

  one_fault : (g h : Hall V) (s : ℕ) → Alike k g h → (d e : Fault) → TurnFault k g s d → TurnFault k h s e → d ≡ e
  one_fault g h s l d e u v = grind (arith, has_zero)

  pub one_turns : (g h g' h' : Hall V) (set : ℕ) → Alike k g h → (r s : Result ℕ Fault) → Turns k g set r g' → Turns k h set s h' → (r ≡ s) × Alike k g' h'
  one_turns g h g' h' set l (Ok m) (Ok n) u v = (ap Ok (one_count u.3 v.3), one_turned g h g' h' set l u.2 v.2)
  one_turns g h g' h' set l (Ok m) (Err e) u v = absurd (not_refused g h set l u.0 u.1 e v.0)
  one_turns g h g' h' set l (Err d) (Ok n) u v = absurd (not_refused h g set (flip l) v.0 v.1 d u.0)
  one_turns g h g' h' set l (Err d) (Err e) u v = (ap Err (one_fault g h set l d e u.0 v.0), kept u.1 v.1 l)

  -- the enabled boards of both
  enabled_in : (g h : Hall V) (s t : ℕ) → Alike k g h → EnabledSet k g s → EnabledSet k h t → (b : ℕ) → has s b ≡ true → has t b ≡ true
  enabled_in g h s t l p q b in-s = let v = p.only b in-s in q.all b v.0 (verdict_same g h l b v.0 v.1)

  one_enabled : (g h : Hall V) (s t : ℕ) → Alike k g h → EnabledSet k g s → EnabledSet k h t → s ≡ t
  one_enabled g h s t l p q = same_members 64 s t p.small q.small (λ i lt. same_test (has s i) (has t i) (enabled_in g h s t l p q i) (enabled_in h g t s (flip l) q p i))

  -- the same picker settles both alike
  pub one_settles : {P : Type 0} {picks : P → ℕ → ℕ × P} (g h : Hall V) {p q q' : P} {g' h' : Hall V} → Alike k g h → Settles k picks p g q g' → Settles k picks p h q' h' → Alike k g' h'
  one_settles g h l (at_rest e) (at_rest f) = l
  one_settles g h l (at_rest e) (asked s f some t later) = absurd (some (sym (one_enabled g h 0 s l e f)))
  one_settles g h l (asked s e some t later) (at_rest f) = absurd (some (one_enabled g h s 0 l e f))
  one_settles {picks = picks} g h {p = p} {g' = g'} {h' = h'} l (asked {next = x} s e some t later) (asked {q = r} {next = y} s' f some' t' later') =
      let same = one_enabled g h s s' l e f in
      one_settles x y (one_turned g h x y (picks p s).0 l t (subst (λ z. Turned k h (picks p z).0 y) (sym same) t')) later (subst (λ z. Settles k picks (picks p z).1 y r h') (sym same) later')

  pub one_tally : (g h : Hall V) (b : ℕ) → Alike k g h → (r s : Result Tally Fault) → Tallies g b r → Tallies h b s → r ≡ s
  one_tally g h b l (Ok t) (Ok u) p q =
      let same : (v : Verdict) → count_of t v ≡ count_of u v = λ v. p.1 v ∙ l.counts b v ∙ sym (q.1 v) in
      λ i. Ok (record { corrected = same RC i; broadcast = same REB i; fedback = same REF i; isolated = same RI i; rejoined = same RR i })
  one_tally g h b l (Ok t) (Err e) p q = absurd (omega (arith, p.0, q.1, l.boards))
  one_tally g h b l (Err d) (Ok u) p q = absurd (omega (arith, q.0, p.1, l.boards))
  one_tally g h b l (Err d) (Err e) p q = ap Err (p.0 ∙ sym q.0)

  one_board : (g h : Hall V) (b : ℕ) → Alike k g h → (x y : Look V) → Looks k g b (Ok x) → Looks k h b (Ok y) → board_text k b x ≡ board_text k b y
  one_board g h b l x y p q =
      let own = p.1 ∙ l.records b p.0 ∙ sym q.1 in
      let verdict = one_is_verdict g h l b x.verdict y.verdict p.2 q.2 in
      λ i. board_text k b (record { «record» = own i; verdict = verdict i; alive = x.alive })

  pub one_shown : (g h : Hall V) (b : ℕ) → Alike k g h → (t u : List ℕ) → ShownFrom k g b t → ShownFrom k h b u → t ≡ u
  one_shown g h b l t u (past p) (past q) = refl
  one_shown g h b l t u (past p) (board y q rest) = absurd (omega (arith, p, q.0, l.boards))
  one_shown g h b l t u (board x p more) (past q) = absurd (omega (arith, p.0, q, l.boards))
  one_shown g h b l t u (board x {more = m} p more) (board y {more = n} q rest) =
      let line = one_board g h b l x y p q in
      let others = one_shown g h (b + 1) l m n more rest in
      λ i. line i ++ others i

  pub one_made : (n : ℕ) (g h : Hall V) → Makes k n (Ok g) → Makes k n (Ok h) → Alike k g h
  one_made n g h p q =
      let few : boards_in g ≡ n = p.2.boards in
      record {
        boards = few ∙ sym q.2.boards;
        cables = λ b o. p.2.cables b o ∙ sym (q.2.cables b o);
        records = λ b lt. by_cases (ℕ_discrete b 0)
            (λ z. ap (records_in k g) z ∙ sym (ap (records_in k h) z))
            (λ ne. p.2.records b (omega arith) (omega arith) ∙ sym (q.2.records b (omega arith) (omega arith)));
        counts = λ b v. p.2.counts b v ∙ sym (q.2.counts b v);
      }
