-- Records and their frames: one to one, for every kind of length.
use Rattle.std.proofs.Common.{◌≡◌, ℕ, zero, suc, ◌+◌, ◌^◌, ◌<◌, ◌≤◌, List, length, get_or, drop, Some, Ok, Err, Result, sym, refl, ap, ◌∙◌, subst, arith}
use mathlib.Core.Logic.{by_cases}
use native.Mathlib.Decide.{dec_lt}
use Rattle.std.proofs.lemmas.List.{drop-drop, get_or-drop, get_or_past, length-drop}
use Rattle.std.proofs.lemmas.Nat.{le_bytes_8, from_le_bytes-to_le_bytes_8}
use Rattle.lengths.specs.Kind.{Kind, Laws}
use Rattle.rules.proofs.Statuses.{same_status}
use Rattle.rules.specs.Status.{number_of, status_of}
use Rattle.rules.specs.declared.record.Record.{Record}
use Rattle.rules.specs.declared.status.Status.{Status}
use Rattle.rules.specs.declared.status.Status.TheVariants.{I, C, EB, EF}
use Rattle.frames.specs.Record.{eight_bytes, body_of, frame_of, Fields, code_in, Unreadable, Accepted, Refused, Reads, Written}
use Rattle.frames.specs.declared.fault.FrameFault.{FrameFault}
use Rattle.frames.specs.declared.fault.FrameFault.TheVariants.{Short, Extent, Size, Field, Code}
use Rattle.frames.specs.declared.sent.Sent.{Sent}
use Rattle.frames.proofs.Bytes.{headed, at_drop}

pub status_small : (s : Status) → number_of s ≤ 3
status_small I = omega arith
status_small C = omega arith
status_small EB = omega arith
status_small EF = omega arith

pub status_of_any : (n : ℕ) → n ≤ 3 → number_of (status_of n) ≡ n
status_of_any zero h = refl
status_of_any (suc zero) h = refl
status_of_any (suc (suc zero)) h = refl
status_of_any (suc (suc (suc n))) h = omega arith

-- the bytes of the code in a frame are those of the number that stands there
code_bytes : (frame : List ℕ) → length frame ≡ 16 → ((i : ℕ) → 8 ≤ i → i < 16 → get_or frame i 0 < 256) → eight_bytes (code_in frame) ≡ drop 8 frame
code_bytes frame long small =
    let at : (i : ℕ) → get_or (drop 8 frame) i 0 ≡ get_or frame (8 + i) 0 = λ i. get_or-drop 8 frame i 0 in
    let below : (i : ℕ) → get_or (drop 8 frame) i 0 < 256 =
    λ i. rw (at i) (by_cases (dec_lt (8 + i) 16) (small (8 + i) (omega arith)) (λ past. rw (get_or_past frame (8 + i) 0 (omega arith)) (omega arith))) in
    le_bytes_8 (drop 8 frame) (code_in frame) (omega (arith, length-drop 8 frame)) below (omega (arith, at 0, at 1, at 2, at 3, at 4, at 5, at 6, at 7))

module _ {V : Type 0} {k : Kind V} (laws : Laws k) where
  pub same_length : (a b : V) → k.coded a ≡ k.coded b → a ≡ b
  same_length a b e =
      let p = laws.read_back a in
      let q = laws.read_back b in
      let r = ap k.decoded e in
      cc

  -- fields that can be read are the body of a record, where the bytes of the code are below 256
  pub body_read : (frame : List ℕ) → length frame ≡ 16 → ((i : ℕ) → 8 ≤ i → i < 16 → get_or frame i 0 < 256) → Fields frame → (s : Status) → number_of s ≡ get_or frame 4 0 → (v : V) → k.decoded (code_in frame) ≡ Some v → drop 4 frame ≡ body_of k (record { status = s; par = get_or frame 5 0; length = v }) (get_or frame 6 0)
  body_read frame long small f s number v e =
      let at : (i : ℕ) → get_or (drop 4 frame) i 0 ≡ get_or frame (4 + i) 0 = λ i. get_or-drop 4 frame i 0 in
      let parts = headed (drop 4 frame) (omega (arith, length-drop 4 frame)) in
      let rest : drop 4 (drop 4 frame) ≡ drop 8 frame = drop-drop 4 4 frame in
      let code = code_bytes frame long small in
      let words = ap eight_bytes (laws.own_code (code_in frame) v e) in
      let blank = f.blank in
      cc (at 0, at 1, at 2, at 3)

  -- the code that stands in a frame is the one that was written
  pub code_written : (frame : List ℕ) (r : Record V) (port : ℕ) → drop 4 frame ≡ body_of k r port → code_in frame ≡ k.coded r.length
  code_written frame r port e =
      let at : (i : ℕ) → get_or frame (4 + i) 0 ≡ get_or (body_of k r port) i 0 = λ i. at_drop 4 i frame (body_of k r port) e in
      let n = k.coded r.length in
      let small : n < 2 ^ 64 = omega (arith, laws.bounded r.length) in
      let whole = from_le_bytes-to_le_bytes_8 n small in
      omega (arith, at 4, at 5, at 6, at 7, at 8, at 9, at 10, at 11, whole)

  -- a record's body has fields that can be read
  pub fields_written : (frame : List ℕ) (r : Record V) (port : ℕ) → port ≤ 7 → drop 4 frame ≡ body_of k r port → Fields frame
  fields_written frame r port h e =
      let at : (i : ℕ) → get_or frame (4 + i) 0 ≡ get_or (body_of k r port) i 0 = λ i. at_drop 4 i frame (body_of k r port) e in
      record {
        status = omega (arith, at 0, status_small r.status);
        port = omega (arith, at 2);
        blank = at 3;
      }

  -- no record has a body that cannot be read
  pub none_written : (frame : List ℕ) (f : FrameFault) → Unreadable k frame f → (r : Record V) (port : ℕ) → port ≤ 7 → drop 4 frame ≡ body_of k r port → ⊥
  none_written frame Short u r port h e = u
  none_written frame Extent u r port h e = u
  none_written frame Size u r port h e = u
  none_written frame Field u r port h e = u (fields_written frame r port h e)
  none_written frame Code u r port h e =
      let c = ap k.decoded (code_written frame r port e) in
      let b = laws.read_back r.length in
      let d = u.1 in
      let z : ◌≡◌ {A = ℕ} 0 1 = cc in
      omega arith

  -- two records and ports with one body are the same
  pub same_body : (frame : List ℕ) (q r : Record V) (p port : ℕ) → drop 4 frame ≡ body_of k q p → drop 4 frame ≡ body_of k r port → (q ≡ r) × (p ≡ port)
  same_body frame q r p port d e =
      let at : (i : ℕ) → get_or (body_of k q p) i 0 ≡ get_or (body_of k r port) i 0 = λ i. ap (λ xs. get_or xs i 0) (sym d ∙ e) in
      let s = same_status q.status r.status (at 0) in
      let l = same_length q.length r.length (sym (code_written frame q p d) ∙ code_written frame r port e) in
      ((λ i. record { status = s i; par = at 1 i; length = l i }), at 2)

  pub accepts : (frame : List ℕ) (r : Record V) (port : ℕ) → port ≤ 7 → drop 4 frame ≡ body_of k r port → Accepted k frame r port
  accepts frame r port h e = record { own_port = h; body = e; only = λ q p d. same_body frame q r p port d e }

  pub refuses : (frame : List ℕ) (f : FrameFault) → Unreadable k frame f → Refused k frame f
  refuses frame f u = record { why = u; none = none_written frame f u }

  -- what was written is read back
  pub reads_back : (r : Record V) (port : ℕ) → port ≤ 7 → (x : Result (Sent V) FrameFault) → Reads k (frame_of k r port) x → x ≡ Ok (record { «record» = r; port = port })
  reads_back r port h (Ok s) a = let o = a.only r port refl in λ i. Ok (record { «record» = sym o.0 i; port = sym o.1 i })
  reads_back r port h (Err f) a = absurd (a.none r port h refl)

  pub writes : (r : Record V) (port : ℕ) (bytes : List ℕ) → port ≤ 7 → bytes ≡ frame_of k r port → Written k r port bytes
  writes r port bytes h e = record { own_port = h; frame = e; back = λ x a. reads_back r port h x (subst (λ b. Reads k b x) e a) }
