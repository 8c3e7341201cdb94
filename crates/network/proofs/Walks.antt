-- Every board of board 0's component has a way, in a hall of at most 64 boards.
use Rattle.std.proofs.Common.{◌≡◌, ℕ, suc, ◌<◌, ◌≤◌, true, List, [], ◌∷◌, ◌++◌, length, Some, None, Option, sym, refl, ◌∙◌, subst, arith, length-append}
use Rattle.lengths.specs.Kind.{Kind, Laws, AllAdmitted}
use Rattle.lengths.specs.Kind
use Rattle.network.specs.Cables.{Cabled, Weighed}
use Rattle.network.specs.Ways.{Joined, Way, at_root, onward}
use Rattle.network.specs.declared.End.{End}
use Rattle.network.proofs.Components.{Walk, none, more, short_walk}
use Rattle.network.proofs.Views.{nothing, only}

module _ {V : Type 0} (k : Kind V) where
  -- one weight more at the end of a walk
  along_last : (v : Option V) (ws : List ℕ) (w : ℕ) → Kind.along k v (ws ++ (w ∷ [])) ≡ Kind.onward k (Kind.along k v ws) w
  along_last v [] w = refl
  along_last v (x ∷ ws) w = along_last (Kind.onward k v x) ws w

  all_last : (ws : List ℕ) (w : ℕ) → AllAdmitted k ws → k.admitted w ≡ true → AllAdmitted k (ws ++ (w ∷ []))
  all_last [] w h a = (a, tt)
  all_last (x ∷ ws) w h a = (h.0, all_last ws w h.1 a)

  -- the weights of a walk: at most j, all admitted, and what is reached along them is the length of a way
  record Weights (far : ℕ → ℕ → Option End) (j b : ℕ) : Type 0 where
    weights : List ℕ
    few : length weights ≤ j
    all : AllAdmitted k weights
    way : (l : V) → Kind.along k (Some k.start) weights ≡ Some l → Way k far b l

  weighed : {far : ℕ → ℕ → Option End} → Weighed k far → {j b : ℕ} → Walk far 0 j b → Weights far j b
  weighed {far} admitted none = record { weights = []; few = omega arith; all = tt; way = λ l e. subst (λ (x : V). Way k far 0 x) (only refl e) at_root }
  weighed {far} admitted (more {j = j} {b = b} w p e f) = one_more (weighed admitted w)
    where
      one_more : Weights far j b → Weights far (suc j) e.board
      one_more s = record {
        weights = s.weights ++ (e.weight ∷ []);
        few = simp length-append (omega (arith, s.few));
        all = all_last _ _ s.all (admitted b p e f);
        way = λ l h. go l _ refl (sym (along_last _ s.weights e.weight) ∙ h);
      }
        where
          go : (l : V) (o : Option V) → Kind.along k (Some k.start) s.weights ≡ o → Kind.onward k o e.weight ≡ Some l → Way k far e.board l
          go l None g h = absurd (nothing h refl)
          go l (Some m) g h = onward (s.way m g) p e l f h

-- a way to each board of the component
pub joined_way : {V : Type 0} {k : Kind V} → Laws k → {n : ℕ} {far : ℕ → ℕ → Option End} → Cabled n far → 0 < n → n ≤ 64 → Weighed k far → (b : ℕ) → Joined far 0 b → (l : V) × Way k far b l
joined_way {k = k} laws cabled some few admitted b w =
    let s = weighed k admitted (short_walk cabled 0 some 63 (omega arith) b w) in
    let r = laws.reaches s.weights s.few s.all in
    (r.value, s.way r.value r.is)
