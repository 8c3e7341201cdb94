-- In a component with c alive abnormal roots no board makes more than c + 1 moves by one repair rule.
use Rattle.std.proofs.Common.{◌≡◌, ℕ, zero, suc, ◌+◌, ◌-◌, ◌<◌, ◌≤◌, true, false, eqb, ◌⊎◌, Some, None, Option, sym, refl, ap, ◌∙◌, inl, inr, ⊎_elim, arith, eqb-true}
use borrow.Author.Tests.{both_ways}
use Rattle.lengths.specs.Kind.{Kind, Laws}
use Rattle.rules.specs.declared.record.Record.{Record}
use Rattle.rules.specs.declared.verdict.Verdict.{Verdict}
use Rattle.rules.specs.declared.verdict.Verdict.TheVariants.{RC, REB, REF, RI, RR}
use Rattle.network.specs.Cables.{Cabled}
use Rattle.rules.specs.Records.{root_of}
use Rattle.network.specs.Toil.{stage}
use Rattle.network.specs.Turns.{alive_root, AliveRoots, Part, Repair, Turn, Turns, no_turn, one_more, rank, used}
use Rattle.network.specs.Ways.{Joined, here, along}
use Rattle.network.specs.declared.End.{End}
use Rattle.network.proofs.Components.{joined_dec, joined_below}
use Rattle.network.proofs.Counts.{counted, count_either}
use Rattle.network.proofs.NoNewRoots.{no_new_root, root_stays}
use Rattle.network.proofs.Stages.{aim, starts, arrives, not_lower}
use Rattle.network.proofs.Views.{tell}

-- rules are told apart by their ranks
abbrev verdict_of : ℕ → Verdict
verdict_of zero = RC
verdict_of (suc zero) = REB
verdict_of (suc (suc zero)) = REF
verdict_of (suc (suc (suc zero))) = RI
verdict_of (suc (suc (suc (suc m)))) = RR

read_verdict : (v : Verdict) → verdict_of (rank v) ≡ v
read_verdict RC = refl
read_verdict REB = refl
read_verdict REF = refl
read_verdict RI = refl
read_verdict RR = refl

-- a rule was not used, or it was, once
abbrev Once : Option Verdict → Verdict → Type 0
Once o v = (used o v ≡ 0) ⊎ ((used o v ≡ 1) × (o ≡ Some v))

use_once : (o : Option Verdict) (v : Verdict) → Once o v
use_once None v = inl refl
use_once (Some u) v = ⊎_elim
    (λ (e : eqb (rank u) (rank v) ≡ true). inr (rw e, ap Some (sym (read_verdict u) ∙ ap verdict_of (eqb-true _ _ e) ∙ read_verdict v)))
    (λ (e : eqb (rank u) (rank v) ≡ false). inl (rw e))
    (tell (eqb (rank u) (rank v)))

-- m moves by the rule v: no more than roots were lost, or one more, and the board is at the rule's stage or above
abbrev Moves : Verdict → ℕ → ℕ → ℕ → Type 0
Moves v m lost stage = (m ≤ lost) ⊎ ((m ≤ lost + 1) × (aim v ≤ stage))

module _ {V : Type 0} {k : Kind V} (laws : Laws k) {n : ℕ} {far : ℕ → ℕ → Option End} (cabled : Cabled n far) where
  -- the alive abnormal roots of a component can be counted
  pub alive_roots_counted : (rec : ℕ → Record V) (b : ℕ) → b < n → (c : ℕ) × AliveRoots k n far rec b c
  alive_roots_counted rec b l = counted (λ u. Joined far b u × (alive_root k far rec u ≡ true)) n (λ u. both? u (joined_dec cabled b u l))
    where
      both? : (u : ℕ) → Dec (Joined far b u) → Dec (Joined far b u × (alive_root k far rec u ≡ true))
      both? u (no m) = no (λ h. m h.0)
      both? u (yes w) = ⊎_elim
          (λ (e : alive_root k far rec u ≡ true). yes (w, e))
          (λ (e : alive_root k far rec u ≡ false). no (λ h. both_ways _ e h.1))
          (tell (alive_root k far rec u))

  module _ (b : ℕ) (l : b < n) (v : Verdict) (r : Repair v) (c : ℕ) where
    -- after m moves by the rule: of c alive abnormal roots some are lost
    record SoFar (rec : ℕ → Record V) (m : ℕ) : Type 0 where
      root : rec 0 ≡ root_of k
      now : ℕ
      alive : AliveRoots k n far rec b now
      lost : ℕ
      all : now + lost ≡ c
      moves : Moves v m lost (stage k far rec b)

    -- every turn keeps this
    turn-by-turn : (rec : ℕ → Record V) (m : ℕ) → SoFar rec m → (by : ℕ → Option Verdict) (after : ℕ → Record V) → Turn k n far rec by after → SoFar after (m + used (by b) v)
    turn-by-turn rec m s by after turn = go (count_either fewer s.alive next.1)
      where
        next : (d : ℕ) × AliveRoots k n far after b d
        next = alive_roots_counted after b l

        root : after 0 ≡ root_of k
        root = root_stays laws cabled rec by after turn ∙ s.root

        fewer : (u : ℕ) → Joined far b u × (alive_root k far after u ≡ true) → Joined far b u × (alive_root k far rec u ≡ true)
        fewer u h = (h.0, no_new_root laws cabled rec by after turn u h.1)

        moved : by b ≡ Some v → Part k n far rec b (Some v) (after b)
        moved e = rw e at (turn b)

        lower : by b ≡ Some v → stage k far rec b < aim v
        lower e = starts laws far rec n b v r (moved e).0

        closed : (a p : ℕ) (e : End) → Joined far b a → far a p ≡ Some e → Joined far b e.board
        closed a p e w f = along w p e f

        -- a root is lost
        one-lost : next.0 < s.now → Moves v m s.lost (stage k far rec b) → Once (by b) v → m + used (by b) v ≤ c - next.0
        one-lost i (inl p) (inl z) = omega (arith, s.all)
        one-lost i (inl p) (inr z) = omega (arith, s.all)
        one-lost i (inr p) (inl z) = omega (arith, s.all)
        one-lost i (inr p) (inr z) = absurd (omega (arith, lower z.1))

        -- none is
        none-lost : ((u : ℕ) → Joined far b u → alive_root k far rec u ≡ true → alive_root k far after u ≡ true) → Moves v m s.lost (stage k far rec b)
            → Once (by b) v → Moves v (m + used (by b) v) s.lost (stage k far after b)
        none-lost f (inl p) (inl z) = inl (omega arith)
        none-lost f (inl p) (inr z) = let i = arrives laws cabled rec s.root by after turn (Joined far b) closed f b v here (moved z.1) in inr (omega arith, omega arith)
        none-lost f (inr p) (inl z) = let i = not_lower laws cabled rec s.root by after turn (Joined far b) closed f b here (by b) (turn b) in inr (omega arith, omega arith)
        none-lost f (inr p) (inr z) = absurd (omega (arith, lower z.1))

        go : (next.0 < s.now) ⊎ ((next.0 ≡ s.now) × ((u : ℕ) → u < n → Joined far b u × (alive_root k far rec u ≡ true) → Joined far b u × (alive_root k far after u ≡ true))) → SoFar after (m + used (by b) v)
        go (inl i) = record {
          root = root;
          now = next.0;
          alive = next.1;
          lost = c - next.0;
          all = omega (arith, s.all);
          moves = inl (one-lost i s.moves (use_once (by b) v));
        }
        go (inr same) = record {
          root = root;
          now = next.0;
          alive = next.1;
          lost = s.lost;
          all = omega (arith, s.all);
          moves = none-lost (λ u w e. (same.1 u (joined_below cabled b l w) (w, e)).1) s.moves (use_once (by b) v);
        }

    so_far : {first : ℕ → Record V} → first 0 ≡ root_of k → AliveRoots k n far first b c → {rec : ℕ → Record V} {count : ℕ → Verdict → ℕ} → Turns k n far first rec count → SoFar rec (count b v)
    so_far {first} root a no_turn = record { root = root; now = c; alive = a; lost = 0; all = omega arith; moves = inl (omega arith) }
    so_far {first} root a (one_more {rec = rec} {count = count} t by after turn) = turn-by-turn rec (count b v) (so_far root a t) by after turn

  -- moves by a repair rule: at most one more than there were alive abnormal roots in the board's component at first
  pub repairs : {first : ℕ → Record V} → first 0 ≡ root_of k → {rec : ℕ → Record V} {count : ℕ → Verdict → ℕ} → Turns k n far first rec count
      → (b : ℕ) → b < n → (v : Verdict) → Repair v → (c : ℕ) × AliveRoots k n far first b c × (count b v ≤ c + 1)
  repairs {first} root {rec} {count} t b l v r =
      let a = alive_roots_counted first b l in
      let s = so_far b l v r a.0 root a.1 t in
      let i : s.lost ≤ a.0 = omega (arith, s.all) in
      (a.0, a.1, ⊎_elim (λ (p : count b v ≤ s.lost). omega arith) (λ (p : (count b v ≤ s.lost + 1) × (aim v ≤ stage k far rec b)). omega arith) s.moves)
