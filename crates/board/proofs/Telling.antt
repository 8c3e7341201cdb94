-- The frames that a board tells, port by port.
use Rattle.std.proofs.Common.{◌≡◌, ℕ, zero, suc, ◌+◌, ◌-◌, ◌*◌, ◌<◌, ◌≤◌, Bool, true, false, cond, List, [], ◌++◌, length, take, drop, sym, refl, ap, ◌∙◌, subst, ap₂, add-zero, add-suc, add-one, arith}
use borrow.Rule.Slice.PartMut.{put_mid, Post-is}
use Rattle.std.proofs.lemmas.List.{append-nil, append_assoc, length-append, take_at, drop_at, drop-drop}
use Rattle.lengths.specs.Kind.{Kind}
use Rattle.rules.specs.declared.record.Record.{Record}
use Rattle.frames.specs.Record.{frame_of}
use Rattle.board.specs.Station.{wired_at}
use Rattle.board.specs.Tell.{wired_below, frames_below}
use Rattle.board.specs.declared.ports.Ports.{Ports}

one_or_none : (b : Bool) → cond b 1 0 ≤ 1
one_or_none true = omega arith
one_or_none false = omega arith

-- at most as many ports are wired as there are
pub wired_few : (s : Ports) (n : ℕ) → wired_below s n ≤ n
wired_few s zero = omega arith
wired_few s (suc n) = let h = wired_few s n in let o = one_or_none (wired_at s n) in omega arith

wired_more : (s : Ports) (n m : ℕ) → wired_below s n ≤ wired_below s (n + m)
wired_more s n zero = rw (add-zero n) (omega arith)
wired_more s n (suc m) = let h = wired_more s n m in rw (add-suc n m) (omega arith)

-- one port on
pub wired_next : (s : Ports) (n : ℕ) (b : Bool) → wired_at s n ≡ b → wired_below s (n + 1) ≡ wired_below s n + cond b 1 0
wired_next s n b e = rw (add-one n) (ap (λ x. wired_below s n + cond x 1 0) e)

-- before a wired port there is room for its frame
pub wired_room : (s : Ports) (n : ℕ) → n < 8 → wired_at s n ≡ true → 16 * wired_below s n + 16 ≤ 16 * wired_below s 8
wired_room s n h e =
    let next = wired_next s n true e in
    let up = wired_more s (n + 1) (8 - (n + 1)) in
    let last : n + 1 + (8 - (n + 1)) ≡ 8 = omega arith in
    let more : wired_below s (n + 1) ≤ wired_below s 8 = subst (λ x. wired_below s (n + 1) ≤ wired_below s x) last up in
    omega arith

-- a part of the output that was overwritten
pub overwritten : (out part frame : List ℕ) (start : ℕ) → part ≡ frame → put_mid start (start + 16 - start) out part ≡ take start out ++ (frame ++ drop (start + 16) out)
overwritten out part frame start e = ap₂ (λ x y. take start out ++ (x ++ y)) e (Post-is start (start + 16) out (omega arith))

module _ {V : Type 0} (k : Kind V) (own : Record V) (s : Ports) where
  long : (n : ℕ) (b : Bool) → length (cond b (frame_of k own n) []) ≡ 16 * cond b 1 0
  long n true = refl
  long n false = refl

  -- 16 bytes for each wired port
  pub frames_long : (n : ℕ) → length (frames_below k own s n) ≡ 16 * wired_below s n
  frames_long zero = refl
  frames_long (suc n) =
      let h = frames_long n in
      let l = long n (wired_at s n) in
      length-append (frames_below k own s n) (cond (wired_at s n) (frame_of k own n) []) ∙ omega arith

  frames_next : (n : ℕ) (b : Bool) → wired_at s n ≡ b → frames_below k own s (n + 1) ≡ frames_below k own s n ++ cond b (frame_of k own n) []
  frames_next n b e = rw (add-one n) (ap (λ x. frames_below k own s n ++ cond x (frame_of k own n) []) e)

  -- a frame is written behind those of the lower ports
  pub one_told : (n size : ℕ) (first before after : List ℕ) → wired_at s n ≡ true → size ≡ 16 * wired_below s n → before ≡ frames_below k own s n ++ drop size first → after ≡ take size before ++ (frame_of k own n ++ drop (size + 16) before) → after ≡ frames_below k own s (n + 1) ++ drop (size + 16) first
  one_told n size first before after wired size_is was is =
      let told = frames_below k own s n in
      let l : length told ≡ size = frames_long n ∙ sym size_is in
      let front : take size before ≡ told = ap (take size) was ∙ take_at told (drop size first) size l in
      let rest : drop (size + 16) before ≡ drop (size + 16) first =
      sym (drop-drop 16 size before) ∙ ap (drop 16) (ap (drop size) was ∙ drop_at told (drop size first) size l) ∙ drop-drop 16 size first in
      is
      ∙ ap₂ (λ x y. x ++ (frame_of k own n ++ y)) front rest
      ∙ sym (append_assoc told (frame_of k own n) (drop (size + 16) first))
      ∙ ap (λ x. x ++ drop (size + 16) first) (sym (frames_next n true wired))

  -- a port that is not wired is passed over
  pub none_told : (n size : ℕ) (first before : List ℕ) → wired_at s n ≡ false → before ≡ frames_below k own s n ++ drop size first → before ≡ frames_below k own s (n + 1) ++ drop size first
  none_told n size first before wired was = was ∙ ap (λ x. x ++ drop size first) (sym (frames_next n false wired ∙ append-nil (frames_below k own s n)))
