-- The frame at the front of some bytes, put together from its head and its body.
use Rattle.std.proofs.Common.{◌≡◌, ℕ, ◌<◌, ◌≤◌, ◌≢◌, List, length, get_or, take, sym, ◌∙◌, arith}
use Rattle.std.proofs.lemmas.List.{length-take-le, get_or-take}
use Rattle.lengths.specs.Kind.{Kind}
use Rattle.frames.specs.Items.{TellsBody, BodyDamage}
use Rattle.frames.specs.Head.{head_length, head_kind, Whole}
use Rattle.frames.specs.Stream.{Told, recorded, unknown, Damage, First}
use Rattle.frames.specs.declared.fault.FrameFault.{FrameFault}
use Rattle.frames.specs.declared.fault.FrameFault.TheVariants.{Short, Extent, Size, Field, Code}
use Rattle.frames.proofs.Bytes.{headed}
use Rattle.frames.proofs.Streams.{unreadable_alike}

-- a frame's bytes are those that it is the front of
pub alike : (bytes : List ℕ) (n : ℕ) → n ≤ length bytes → length (take n bytes) ≡ 16 → (i : ℕ) → i < 16 → get_or (take n bytes) i 0 ≡ get_or bytes i 0
alike bytes n h l i lt = get_or-take n bytes i 0 (omega (arith, length-take-le n bytes h))

module _ {V : Type 0} (k : Kind V) where
  -- what is wrong with a frame of a record's kind is wrong with the bytes that begin with it
  pub front_damage : (bytes : List ℕ) (f : FrameFault) → Whole bytes → head_kind bytes ≡ 1 → BodyDamage k (take (head_length bytes) bytes) f → Damage k bytes f
  front_damage bytes Short w e d = absurd d
  front_damage bytes Extent w e d = absurd d
  front_damage bytes Size w e d = (w, e, λ h. d (length-take-le _ bytes w.within ∙ h))
  front_damage bytes Field w e d =
      (record { whole = w; kind_is = e; length_is = sym (length-take-le _ bytes w.within) ∙ d.0 }, unreadable_alike k _ bytes (alike bytes _ w.within d.0) Field d.1)
  front_damage bytes Code w e d =
      (record { whole = w; kind_is = e; length_is = sym (length-take-le _ bytes w.within) ∙ d.0 }, unreadable_alike k _ bytes (alike bytes _ w.within d.0) Code d.1)

  -- a head of a record's kind and a record's body are a record's frame
  pub front_record : (bytes : List ℕ) (t : Told) → ((i : ℕ) → get_or bytes i 0 < 256) → Whole bytes → head_kind bytes ≡ 1 → TellsBody k (take (head_length bytes) bytes) t → First k bytes (head_length bytes) t
  front_record bytes (unknown kind b) small w e d = absurd d
  front_record bytes (recorded s p o c) small w e d =
      let frame = take (head_length bytes) bytes in
      let l : head_length bytes ≡ 16 = sym (length-take-le _ bytes w.within) ∙ d.length_is in
      let same = alike bytes _ w.within d.length_is in
      let g0 : get_or frame 0 0 ≡ 16 = omega (arith, same 0 (omega arith), small 0, small 1) in
      let g1 : get_or frame 1 0 ≡ 0 = omega (arith, same 1 (omega arith), small 0, small 1) in
      let g2 : get_or frame 2 0 ≡ 1 = omega (arith, same 2 (omega arith), small 2, small 3) in
      let g3 : get_or frame 3 0 ≡ 0 = omega (arith, same 3 (omega arith), small 2, small 3) in
      let parts = headed frame (omega (arith, d.length_is)) in
      let body = d.body in
      record {
        within = w.within;
        tells = record { told = d.told; own_port = d.own_port; frame_is = cc; status_is = d.status_is; par_is = d.par_is; code_is = d.code_is };
      }

  -- a frame of another kind
  pub front_other : (bytes : List ℕ) (kind : ℕ) (b : List ℕ) → Whole bytes → head_kind bytes ≡ kind → kind ≢ 1 → b ≡ take (head_length bytes) bytes → First k bytes (head_length bytes) (unknown kind b)
  front_other bytes kind b w e h same =
      let l = length-take-le (head_length bytes) bytes w.within in
      let at : (i : ℕ) → i < 4 → get_or (take (head_length bytes) bytes) i 0 ≡ get_or bytes i 0 = λ i lt. get_or-take (head_length bytes) bytes i 0 (omega (arith, w.least)) in
      record {
        within = w.within;
        tells = record {
          whole = same;
          long = omega (arith, w.least);
          length_is = omega (arith, at 0 (omega arith), at 1 (omega arith));
          kind_is = omega (arith, at 2 (omega arith), at 3 (omega arith));
          other = h;
        };
      }
