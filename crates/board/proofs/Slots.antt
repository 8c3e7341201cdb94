-- Bytes that are a record's frame, and ports that were heard.
use Rattle.std.proofs.Common.{◌≡◌, ℕ, zero, suc, ◌*◌, ◌<◌, ◌≤◌, Bool, true, false, List, [], length, get_or, take, drop, sym, refl, ap, ◌∙◌, subst, zero-add, arith}
use Rattle.std.proofs.lemmas.List.{take_all, drop-drop}
use Rattle.std.proofs.lemmas.List.FromFn.{get_or-range_with_len}
use Rattle.std.specs.Bool.{MatchBool}
use Rattle.std.specs.List.{AllWithin, HoldsAt, range_with_len}
use Rattle.std.specs.Simd.{first_chunks}
use Rattle.lengths.specs.Kind.{Kind}
use Rattle.rules.specs.Status.{number_of}
use Rattle.rules.specs.declared.record.Record.{Record}
use Rattle.sets.specs.Sets.{has}
use Rattle.frames.specs.Record.{body_of}
use Rattle.frames.specs.Head.{head_length}
use Rattle.frames.specs.Stream.{recorded, RecordHead}
use Rattle.frames.proofs.Fronts.{front_record}
use Rattle.board.specs.Hear.{slot_at, IsFrame, Sole}
use Rattle.board.specs.Ready.{AllHeard, SomeUnheard}
use Rattle.board.specs.Station.{wired_at}
use Rattle.board.specs.declared.ports.Ports.{Ports}
use Rattle.board.proofs.Weights.{wired_port}

module _ {V : Type 0} (k : Kind V) where
  -- a record's head and a record's body, and nothing behind them
  pub is_frame : (bytes fields : List ℕ) (r : Record V) (port : ℕ) → fields ≡ bytes → ((i : ℕ) → get_or bytes i 0 < 256) → RecordHead bytes → Sole bytes → port ≤ 7 → drop 4 fields ≡ body_of k r port → IsFrame k bytes
  is_frame bytes fields r port same small head sole h body =
      let long : length bytes ≡ 16 = sym sole.all ∙ head.length_is in
      let whole : take (head_length bytes) bytes ≡ bytes = take_all _ bytes (omega (arith, sole.all)) in
      let f = front_record k bytes (recorded (number_of r.status) r.par port (k.coded r.length)) small head.whole head.kind_is (record {
        told = r;
        length_is = ap length whole ∙ long;
        own_port = h;
        body = ap (drop 4) (whole ∙ sym same) ∙ body;
        status_is = refl;
        par_is = refl;
        code_is = refl;
      }) in
      record { told = f.tells.told; port = port; own_port = h; frame_is = sym whole ∙ f.tells.frame_is }

-- the slot of a port is the chunk of that number
pub chunk_at : (n p : ℕ) (ear : List ℕ) → p < n → get_or (first_chunks 16 n ear) p [] ≡ slot_at ear p
chunk_at zero p ear h = absurd (omega arith)
chunk_at (suc n) zero ear h = refl
chunk_at (suc n) (suc p) ear h = chunk_at n p (drop 16 ear) (omega arith) ∙ ap (take 16) (drop-drop (16 * p) 16 ear ∙ ap (λ i. drop i ear) (omega arith))

-- a test of every port says that every wired one was heard, or that some wired port was not
pub heard_all : (s : Ports) (heard : ℕ) (b : Bool) → MatchBool b (AllWithin (λ p. wired_at s p ≡ true → has heard p ≡ true) (range_with_len 0 8) 0 8) ((k : ℕ) × (k < 8) × HoldsAt (λ p. (wired_at s p ≡ true) × (has heard p ≡ false)) (range_with_len 0 8) k) → MatchBool b (AllHeard s heard) (SomeUnheard s heard)
heard_all s heard true a = λ p w.
    let h = wired_port s p w in
    let at : get_or (range_with_len 0 8) p 0 ≡ p = get_or-range_with_len 0 8 p 0 h ∙ zero-add p in
    subst (λ x. wired_at s x ≡ true → has heard x ≡ true) at (a p 0 (omega arith) h) w
heard_all s heard false a = record { port = get_or (range_with_len 0 8) a.0 0; wired = (a.2 0).0; unheard = (a.2 0).1 }
