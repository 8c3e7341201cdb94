-- Every run keeps the claims, from the laws of lengths and what each call does.
use Rattle.std.proofs.Common.{◌≡◌, ℕ, zero, suc, ◌+◌, ◌-◌, ◌^◌, ◌<◌, ◌≤◌, min, Bool, true, false, cond, eqb, List, [], ◌∷◌, Some, None, Ok, Err, Option, sym, refl, ap, ◌∙◌, subst, add-zero, add_assoc, arith}
use mathlib.Core.Logic.{by_cases}
use borrow.Author.Tests.{both_ways, not-false}
use Rattle.lengths.specs.Kind.{Kind, Laws}
use Rattle.rules.specs.declared.verdict.Verdict.{Verdict}
use Rattle.network.specs.Cables.{Cabled, Weighed, Adds}
use Rattle.network.specs.Toil.{toil}
use Rattle.network.specs.Turns as network
use Rattle.network.specs.Turns.{Turn, Quiet, Repair, AliveRoots, alive_root, used}
use Rattle.network.specs.Turns.Turns.{no_turn, one_more}
use Rattle.sets.specs.Counts.{Count}
use Rattle.sets.specs.Counts.Count.{nobody, one_such, not_such}
use Rattle.network.specs.declared.End.{End}
use Rattle.network.proofs.NoNewRoots.{no_new_root}
use Rattle.network.proofs.Repairs.{repairs}
use Rattle.network.proofs.Settling.{quiet_settled, settled_quiet}
use Rattle.network.proofs.ToilFalls.{toil_falls}
use Rattle.pickers.specs.Choices.{Chooses}
use Rattle.sets.specs.Sets.{has}
use Rattle.sets.proofs.Bits.{has_zero, some_board}
use Rattle.hall.specs.Faults.{Checks, refusal, first_of}
use Rattle.hall.specs.Hall.{boards_in, far_in, records_in, counts_in, counted, IsVerdict, VerdictIn, MovesBy, EnabledSet, Turned, wire_checks}
use Rattle.hall.specs.Runs.{Settles, Settling, Call, Does, Run, last_change, settle_moves, moves_since, EachIn, EachOf, EachTurn, NoNewRoot, AtRest, IsSettled, Bounded, EveryRun}
use Rattle.hall.specs.Runs.Settles.{at_rest, asked}
use Rattle.hall.specs.Runs.Settling.{no_more, one_turn}
use Rattle.hall.specs.Runs.Does.{wires, cuts, plants, turns, refuses_turn, settles}
use Rattle.hall.specs.Runs.Run.{begun, called}
use Rattle.hall.specs.declared.cabling.Cabling.{Cabling}
use Rattle.hall.specs.declared.fault.Fault.{Fault}
use Rattle.hall.specs.declared.tables.Hall.{Hall}
use Rattle.hall.specs.Tables.{far_of}
use Rattle.hall.proofs.CableLaw.{cabled}
use Rattle.hall.proofs.Rewiring.{spot, was}

-- the law of cables, in a hall
lawful : {V : Type 0} (h : Hall V) → Cabled (boards_in h) (far_in h)
lawful h = cabled h.cabling.wired

-- no board is enabled where the set of them is empty
pub resting : {V : Type 0} (k : Kind V) (h : Hall V) → EnabledSet k h 0 → AtRest k h
resting k h e b v has-v = both_ways (has 0 b) (has_zero b) (e.all b v has-v)

-- a choice of enabled boards moves somebody
someone : {V : Type 0} (k : Kind V) (h next : Hall V) (s choice : ℕ) → EnabledSet k h s → (s ≡ 0 → ⊥) → Chooses choice s → (t : Turned k h choice next) → (b : ℕ) × (v : Verdict) × (t.by b ≡ Some v)
someone k h next s choice e ne c t =
    let b = some_board choice c.small (λ z. ne (c.some z)) in
    let v = e.only b.0 (c.within b.0 b.1) in
    let m : IsVerdict k h b.0 (t.by b.0) = subst (λ x. MovesBy k h x b.0 (t.by b.0)) b.1 (t.movers b.0) in
    go b.0 v.0 v.1 (t.by b.0) refl m
  where
    go : (b : ℕ) (v : Verdict) → VerdictIn k h b v → (r : Option Verdict) → t.by b ≡ r → IsVerdict k h b r → (b : ℕ) × (v : Verdict) × (t.by b ≡ Some v)
    go b v x None e' m = absurd (m v x)
    go b v x (Some u) e' m = (b, u, e')

-- the hall's toil
abbrev pub toil_in : {V : Type 0} → Kind V → Hall V → ℕ
toil_in k h = toil k (boards_in h) (far_in h) (records_in k h)

pub less_toil : {V : Type 0} (k : Kind V) → Laws k → (h next : Hall V) (s choice : ℕ) → EnabledSet k h s → (s ≡ 0 → ⊥) → Chooses choice s → Turned k h choice next → toil_in k next < toil_in k h
less_toil k laws h next s choice e ne c t =
    let m = someone k h next s choice e ne c t in
    subst (λ (x : Cabling). toil k x.n (far_of x.ends) (records_in k next) < toil_in k h) (sym t.cabling)
    (toil_falls laws (lawful h) (records_in k h) refl t.by (records_in k next) t.moves m.0 m.1 m.2)

-- a turn makes no new alive abnormal root
turn_roots : {V : Type 0} (k : Kind V) → Laws k → (h next : Hall V) (s : ℕ) → Turned k h s next → NoNewRoot k h next
turn_roots k laws h next s t b alive =
    no_new_root laws (lawful h) (records_in k h) t.by (records_in k next) t.moves b
    (subst (λ (x : Cabling). alive_root k (far_of x.ends) (records_in k next) b ≡ true) t.cabling alive)

settle_roots : {V : Type 0} (k : Kind V) → Laws k → {h end : Hall V} → (d : Settling k h end) → EachIn (NoNewRoot k) d
settle_roots k laws (no_more rest) = tt
settle_roots k laws (one_turn s choice e ne c t later) = (turn_roots k laws _ _ choice t, settle_roots k laws later)

call_roots : {V : Type 0} (k : Kind V) → Laws k → {c : Call} {h next : Hall V} → (d : Does k c h next) → EachOf (NoNewRoot k) d
call_roots k laws (wires a p b q w r d) = tt
call_roots k laws (cuts a p r d) = tt
call_roots k laws (plants b s p c r d) = tt
call_roots k laws (turns s m d) = turn_roots k laws _ _ s d.2
call_roots k laws (refuses_turn s f d) = tt
call_roots k laws (settles d) = settle_roots k laws d

run_roots : {V : Type 0} (k : Kind V) → Laws k → {calls : List Call} {h : Hall V} → (run : Run k calls h) → EachTurn (NoNewRoot k) run
run_roots k laws (begun n m) = tt
run_roots k laws (called run c d) = (run_roots k laws run, call_roots k laws d)

-- every cable of a run has an admitted weight
passes : (f : Fault) (t : Bool) (later : Option Fault) → first_of f t later ≡ None → (t ≡ false) × (later ≡ None)
passes f true later e = let z : ◌≡◌ {A = ℕ} 0 1 = cc in absurd (omega arith)
passes f false later e = (refl, e)

abbrev AllPass : Checks → Type 0
AllPass [] = Unit {0}
AllPass (c ∷ cs) = (c.1 ≡ false) × AllPass cs

all_pass : (cs : Checks) → refusal cs ≡ None → AllPass cs
all_pass [] e = tt
all_pass (c ∷ cs) e = let p = passes c.0 c.1 (refusal cs) e in (p.0, all_pass cs p.1)

admitted_weight : {V : Type 0} (k : Kind V) (h : Hall V) (a p b q w : ℕ) → refusal (wire_checks k h a p b q w) ≡ None → k.admitted w ≡ true
admitted_weight k h a p b q w e = not-false (k.admitted w) (all_pass (wire_checks k h a p b q w) e).1.1.1.1.0

weight_of : {o : Option End} {x y : End} → o ≡ Some x → o ≡ Some y → y.weight ≡ x.weight
weight_of {o} {x} {y} p q = let e : y ≡ x = cc in ap (λ (z : End). z.weight) e

adds_weighed : {V : Type 0} (k : Kind V) {far after : ℕ → ℕ → Option End} (a p b q w : ℕ) → Adds far a p b q w after → k.admitted w ≡ true → Weighed k far → Weighed k after
adds_weighed k {far} {after} a p b q w ad ok old c r x h =
    by_cases (spot c r a p)
    (λ s. ap k.admitted (weight_of ad.one_end (sym (λ i. after (s.0 i) (s.1 i)) ∙ h)) ∙ ok)
    (λ na. by_cases (spot c r b q)
    (λ s. ap k.admitted (weight_of ad.other_end (sym (λ i. after (s.0 i) (s.1 i)) ∙ h)) ∙ ok)
    (λ nb. old c r x (sym (ad.rest c r na nb) ∙ h)))

same_weighed : {V : Type 0} (k : Kind V) (h next : Hall V) → next.cabling ≡ h.cabling → Weighed k (far_in h) → Weighed k (far_in next)
same_weighed k h next e old = subst (λ (x : Cabling). Weighed k (far_of x.ends)) (sym e) old

settle_cabling : {V : Type 0} (k : Kind V) {h end : Hall V} → Settling k h end → end.cabling ≡ h.cabling
settle_cabling k (no_more rest) = refl
settle_cabling k (one_turn s choice e ne c t later) = settle_cabling k later ∙ t.cabling

call_weighed : {V : Type 0} (k : Kind V) {c : Call} (h next : Hall V) → Does k c h next → Weighed k (far_in h) → Weighed k (far_in next)
call_weighed k h next (wires a p b q w (Ok u) d) old = adds_weighed k a p b q w d.3 (admitted_weight k h a p b q w d.0) old
call_weighed k h next (wires a p b q w (Err f) d) old = subst (λ x. Weighed k (far_in x)) (sym d.1) old
call_weighed k h next (cuts a p (Ok u) d) old = λ c r x f. old c r x (was (lawful h) d.3.1 d.3.2 c r x f)
call_weighed k h next (cuts a p (Err f) d) old = subst (λ x. Weighed k (far_in x)) (sym d.1) old
call_weighed k h next (plants b s p c (Ok u) d) old = λ c r x f. old c r x (sym (d.2 c r) ∙ f)
call_weighed k h next (plants b s p c (Err f) d) old = subst (λ x. Weighed k (far_in x)) (sym d.1) old
call_weighed k h next (turns s m d) old = same_weighed k h next d.2.cabling old
call_weighed k h next (refuses_turn s f d) old = subst (λ x. Weighed k (far_in x)) (sym d.1) old
call_weighed k h next (settles d) old = same_weighed k h next (settle_cabling k d) old

run_weighed : {V : Type 0} (k : Kind V) {calls : List Call} {h : Hall V} → Run k calls h → Weighed k (far_in h)
run_weighed k (begun n m) = λ b p x f. let z : ◌≡◌ {A = ℕ} 0 1 = let e = m.2.cables b p in cc in absurd (omega arith)
run_weighed k (called {before = before} {after = after} run c d) = call_weighed k before after d (run_weighed k run)

-- Since the change that left `first`, the hall has come by turns in which the boards moved m, and the tallies tell it.
record Kept {V : Type 0} (k : Kind V) (first h : Hall V) (m : ℕ → Verdict → ℕ) : Type 0 where
  cables : h.cabling ≡ first.cabling
  turned : network.Turns k (boards_in first) (far_in first) (records_in k first) (records_in k h) m
  tallies : (b : ℕ) (v : Verdict) → counts_in h b v ≡ min (m b v) (2 ^ 64 - 1)

used_once : (r : Option Verdict) (v : Verdict) → used r v < 2
used_once None v = omega arith
used_once (Some u) v = go (eqb (network.rank u) (network.rank v))
  where
    go : (t : Bool) → cond {A = ℕ} t 1 0 < 2
    go true = omega arith
    go false = omega arith

stopping : (m u : ℕ) → u < 2 → cond (eqb u 1) (min (min m (2 ^ 64 - 1) + 1) (2 ^ 64 - 1)) (min m (2 ^ 64 - 1)) ≡ min (m + u) (2 ^ 64 - 1)
stopping m zero lt = omega arith
stopping m (suc zero) lt = omega arith
stopping m (suc (suc u)) lt = absurd (omega arith)

kept_turn : {V : Type 0} (k : Kind V) {first h next : Hall V} {m : ℕ → Verdict → ℕ} (s : ℕ) → Kept k first h m → (t : Turned k h s next) → Kept k first next (λ b v. m b v + used (t.by b) v)
kept_turn k {h = h} {next = next} {m = m} s kept t = record {
  cables = t.cabling ∙ kept.cables;
  turned = one_more kept.turned t.by (records_in k next) (subst (λ (x : Cabling). Turn k x.n (far_of x.ends) (records_in k h) t.by (records_in k next)) kept.cables t.moves);
  tallies = λ b v. t.counts b v ∙ ap (λ c. counted c (t.by b) v) (kept.tallies b v) ∙ stopping (m b v) (used (t.by b) v) (used_once (t.by b) v);
}

-- the same moves, counted in another way
recount : {V : Type 0} (k : Kind V) {first h : Hall V} {m m' : ℕ → Verdict → ℕ} → ((b : ℕ) (v : Verdict) → m b v ≡ m' b v) → Kept k first h m → Kept k first h m'
recount k {first} {h} e kept = subst (Kept k first h) (λ i b v. e b v i) kept

kept_settle : {V : Type 0} (k : Kind V) {first h end : Hall V} {m : ℕ → Verdict → ℕ} → Kept k first h m → (d : Settling k h end) → Kept k first end (λ b v. m b v + settle_moves d b v)
kept_settle k kept (no_more rest) = recount k (λ b v. sym (add-zero _)) kept
kept_settle k kept (one_turn s choice e ne c t later) = recount k (λ b v. add_assoc _ _ _) (kept_settle k (kept_turn k choice kept t) later)

kept_refused : {V : Type 0} (k : Kind V) {first h next : Hall V} {m : ℕ → Verdict → ℕ} → Kept k first h m → next ≡ h → Kept k first next (λ b v. m b v + 0)
kept_refused k {first} {h} {next} {m} kept e = recount k (λ b v. sym (add-zero _)) (subst (λ x. Kept k first x m) (sym e) kept)

kept_anew : {V : Type 0} (k : Kind V) (h : Hall V) → ((b : ℕ) (v : Verdict) → counts_in h b v ≡ 0) → Kept k h h (λ b v. 0)
kept_anew k h z = record { cables = refl; turned = no_turn; tallies = z }

since : {V : Type 0} (k : Kind V) {calls : List Call} {h : Hall V} → (run : Run k calls h) → Kept k (last_change run) h (moves_since run)
since k (begun {h = h} n m) = kept_anew k h m.2.counts
since k (called {after = next} run c (wires a p b q w (Ok u) d)) = kept_anew k next d.1.counts
since k (called run c (wires a p b q w (Err f) d)) = kept_refused k (since k run) d.1
since k (called {after = next} run c (cuts a p (Ok u) d)) = kept_anew k next d.1.counts
since k (called run c (cuts a p (Err f) d)) = kept_refused k (since k run) d.1
since k (called {after = next} run c (plants b s p e (Ok u) d)) = kept_anew k next d.1.counts
since k (called run c (plants b s p e (Err f) d)) = kept_refused k (since k run) d.1
since k (called run c (turns s m d)) = kept_turn k s (since k run) d.2
since k (called run c (refuses_turn s f d)) = kept_refused k (since k run) d.1
since k (called run c (settles d)) = kept_settle k (since k run) d

-- no more than n of n
count_most : {P : ℕ → Type 0} {n c : ℕ} → Count P n c → c ≤ n
count_most nobody = omega arith
count_most (one_such x p) = let h = count_most x in omega arith
count_most (not_such x p) = let h = count_most x in omega arith

bounded : {V : Type 0} (k : Kind V) → Laws k → {calls : List Call} {h : Hall V} → (run : Run k calls h) → (b : ℕ) → b < boards_in h → (v : Verdict) → Repair v → Bounded k (last_change run) b (moves_since run b v) (counts_in h b v)
bounded k laws {h = h} run b lt v rep =
    let kept = since k run in
    let first = last_change run in
    let r = repairs laws (lawful first) refl kept.turned b (subst (λ (x : Cabling). b < x.n) kept.cables lt) v rep in
    let few = count_most r.1 in
    record { roots = r.0; counted = r.1; few = r.2; tally = kept.tallies b v ∙ (let e : min (moves_since run b v) (2 ^ 64 - 1) ≡ moves_since run b v = omega (arith, r.2, first.cabling.few) in e) }

settled_when_quiet : {V : Type 0} (k : Kind V) → Laws k → (h : Hall V) → Weighed k (far_in h) → AtRest k h → IsSettled k h
settled_when_quiet k laws h weighed quiet = quiet_settled laws (lawful h) (records_in k h) refl h.cabling.some h.cabling.few weighed quiet

pub settle_rests : {V : Type 0} (k : Kind V) {h end : Hall V} → Settling k h end → AtRest k end
settle_rests k (no_more rest) = resting k _ rest
settle_rests k (one_turn s choice e ne c t later) = settle_rests k later

pub settle_settles : {V : Type 0} (k : Kind V) → Laws k → {calls : List Call} {h : Hall V} → Run k calls h → (end : Hall V) → Settling k h end → IsSettled k end
settle_settles k laws {h = h} run end d = settled_when_quiet k laws end (same_weighed k h end (settle_cabling k d) (run_weighed k run)) (settle_rests k d)

pub every_run : {V : Type 0} (k : Kind V) → Laws k → EveryRun k
every_run k laws calls h run = record {
  no_new_roots = run_roots k laws run;
  rests_when_settled = settled_quiet laws (lawful h) (records_in k h);
  settled_at_rest = settled_when_quiet k laws h (run_weighed k run);
  settles_next = settle_settles k laws run;
  repairs = bounded k laws run;
}

-- a settle with a picker is a settle, whoever chooses
pub settling : {V P : Type 0} (k : Kind V) (picks : P → ℕ → ℕ × P) → ((p : P) (s : ℕ) → s < 2 ^ 64 → Chooses (picks p s).0 s) → {p q : P} {h end : Hall V} → Settles k picks p h q end → Settling k h end
settling k picks law (at_rest rest) = no_more rest
settling k picks law (asked {p = p} s e ne t later) = one_turn s (picks p s).0 e ne (law p s e.small) t (settling k picks law later)
