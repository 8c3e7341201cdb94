-- Every list of bytes stands for something.
use Rattle.std.proofs.Common.{◌≡◌, ℕ, zero, suc, ◌+◌, ◌<◌, ◌≤◌, List, [], ◌∷◌, length, get_or, take, drop, Some, None, Option, sym, refl, ap, ◌∙◌, arith}
use native.Mathlib.Decide.{dec_le, ℕ_discrete}
use Rattle.std.proofs.lemmas.List.{length-take-le, length-drop, get_or-drop, nil_from_length}
use Rattle.lengths.specs.Kind.{Kind, Laws}
use Rattle.rules.specs.Status.{number_of, status_of}
use Rattle.rules.specs.declared.record.Record.{Record}
use Rattle.frames.specs.Record.{Fields, code_in}
use Rattle.frames.specs.Head.{head_length, head_kind, Whole}
use Rattle.frames.specs.Stream.{Told, recorded, unknown, End, ended, stopped, RecordHead, Damage, First, Stands, Small, Meant}
use Rattle.frames.specs.declared.fault.FrameFault.{FrameFault}
use Rattle.frames.specs.declared.fault.FrameFault.TheVariants.{Short, Extent, Size, Field, Code}
use Rattle.frames.proofs.Fronts.{alike, front_record, front_other}
use Rattle.frames.proofs.Records.{status_of_any, body_read}
use Rattle.frames.proofs.Streams.{fields_alike, code_alike, first_size, unique}

-- what bytes begin with: a frame, or a fault
data Front {V : Type 0} (k : Kind V) (bytes : List ℕ) : Type 0 where
  framed : (n : ℕ) (t : Told) → First k bytes n t → Front k bytes
  faulty : (f : FrameFault) → Damage k bytes f → Front k bytes

record Meaning {V : Type 0} (k : Kind V) (place : ℕ) (bytes : List ℕ) : Type 0 where
  items : List Told
  end : End
  stands : Stands k place bytes items end

module _ {V : Type 0} {k : Kind V} (laws : Laws k) where
  by_code : (bytes : List ℕ) → Small bytes → RecordHead bytes → Fields bytes → (o : Option V) → k.decoded (code_in bytes) ≡ o → Front k bytes
  by_code bytes small h f None e = faulty Code (h, (f, e))
  by_code bytes small h f (Some v) e =
      let n = head_length bytes in
      let frame = take n bytes in
      let within = h.whole.within in
      let long : length frame ≡ 16 = length-take-le n bytes within ∙ h.length_is in
      let same : (i : ℕ) → i < 16 → get_or frame i 0 ≡ get_or bytes i 0 = alike bytes n within long in
      let back : (i : ℕ) → i < 16 → get_or bytes i 0 ≡ get_or frame i 0 = λ i l. sym (same i l) in
      let b : (i : ℕ) → i < 16 → get_or frame i 0 < 256 = λ i l. omega (arith, same i l, small i) in
      let fields = fields_alike bytes frame back f in
      let number = status_of_any (get_or frame 4 0) fields.status in
      let told : Record V = record { status = status_of (get_or frame 4 0); par = get_or frame 5 0; length = v } in
      let body = body_read laws frame long (λ i _. b i) fields told.status number v (ap k.decoded (code_alike frame bytes same) ∙ e) in
      framed n (recorded (number_of told.status) told.par (get_or frame 6 0) (k.coded v)) (front_record k bytes _ small h.whole h.kind_is (record { told = told; length_is = long; own_port = fields.port; body = body; status_is = refl; par_is = refl; code_is = refl }))

  by_fields : (bytes : List ℕ) → Small bytes → RecordHead bytes → Dec (get_or bytes 4 0 ≤ 3) → Dec (get_or bytes 6 0 ≤ 7) → Dec (get_or bytes 7 0 ≡ 0) → Front k bytes
  by_fields bytes small h (yes s) (yes p) (yes z) = by_code bytes small h (record { status = s; port = p; blank = z }) _ refl
  by_fields bytes small h (yes s) (yes p) (no z) = faulty Field (h, λ f. z f.blank)
  by_fields bytes small h (yes s) (no p) d = faulty Field (h, λ f. p f.port)
  by_fields bytes small h (no s) d e = faulty Field (h, λ f. s f.status)

  by_size : (bytes : List ℕ) → Small bytes → Whole bytes → head_kind bytes ≡ 1 → Dec (head_length bytes ≡ 16) → Front k bytes
  by_size bytes small w e (yes h) = by_fields bytes small (record { whole = w; kind_is = e; length_is = h }) (dec_le _ _) (dec_le _ _) (ℕ_discrete _ _)
  by_size bytes small w e (no h) = faulty Size (w, e, h)

  by_kind : (bytes : List ℕ) → Small bytes → Whole bytes → Dec (head_kind bytes ≡ 1) → Front k bytes
  by_kind bytes small w (yes e) = by_size bytes small w e (ℕ_discrete _ _)
  by_kind bytes small w (no e) = framed (head_length bytes) (unknown (head_kind bytes) (take (head_length bytes) bytes)) (front_other k bytes _ _ w refl e refl)

  by_extent : (bytes : List ℕ) → Small bytes → 4 ≤ length bytes → Dec (4 ≤ head_length bytes) → Dec (head_length bytes ≤ length bytes) → Front k bytes
  by_extent bytes small h (yes l) (yes m) = by_kind bytes small (record { head = h; least = l; within = m }) (ℕ_discrete _ _)
  by_extent bytes small h (yes l) (no m) = faulty Extent (h, λ w. m w.within)
  by_extent bytes small h (no l) d = faulty Extent (h, λ w. l w.least)

  front_of : (bytes : List ℕ) → Small bytes → Dec (4 ≤ length bytes) → Front k bytes
  front_of bytes small (yes h) = by_extent bytes small h (dec_le _ _) (dec_le _ _)
  front_of bytes small (no h) = faulty Short (omega arith)

  -- from what bytes begin with, and what is behind their first frame
  onward : (place : ℕ) (bytes : List ℕ) → 0 < length bytes → Front k bytes → ((n : ℕ) → 4 ≤ n → n ≤ length bytes → Meaning k (place + n) (drop n bytes)) → Meaning k place bytes
  onward place bytes h (faulty f d) next = record { items = []; end = stopped f place; stands = (refl, h, d) }
  onward place bytes h (framed n t first) next =
      let m = next n (first_size k bytes n t first).0 first.within in
      record { items = t ∷ m.items; end = m.end; stands = (n, first, m.stands) }

  meaning : (fuel place : ℕ) (bytes : List ℕ) → length bytes ≤ fuel → Small bytes → Meaning k place bytes
  meaning zero place bytes h small = record { items = []; end = ended; stands = nil_from_length bytes (omega arith) }
  meaning (suc fuel) place [] h small = record { items = []; end = ended; stands = refl }
  meaning (suc fuel) place (b ∷ bs) h small =
      onward place (b ∷ bs) (omega arith) (front_of (b ∷ bs) small (dec_le _ _)) (λ n l m. meaning fuel (place + n) (drop n (b ∷ bs)) (omega (arith, length-drop n (b ∷ bs))) (λ i. rw (get_or-drop n (b ∷ bs) i 0) (small (n + i))))

  -- bytes have one meaning
  pub total : (bytes : List ℕ) → Small bytes → Meant k bytes
  total bytes small =
      let m = meaning (length bytes) 0 bytes (omega arith) small in
      record { items = m.items; end = m.end; stands = m.stands; only = λ ts e s. unique laws ts m.items 0 bytes e m.end s m.stands }
