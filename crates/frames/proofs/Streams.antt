-- What a stream stands for is one list of items and one end.
use Rattle.std.proofs.Common.{◌≡◌, ℕ, ◌+◌, ◌<◌, ◌≤◌, List, [], ◌∷◌, length, get_or, take, drop, Some, None, Ok, Err, Option, Result, sym, refl, ap, ◌∙◌, subst, arith}
use Rattle.std.proofs.lemmas.List.{length-take-le, get_or-take, drop-drop}
use Rattle.lengths.specs.Kind.{Kind, Laws}
use Rattle.rules.specs.Status.{number_of}
use Rattle.frames.specs.Record.{Fields, code_in, Unreadable}
use Rattle.frames.specs.Head.{head_length, head_kind, Whole}
use Rattle.frames.specs.Stream.{Told, recorded, unknown, End, ended, stopped, Tells, Damage, Ends, First, Stands, told_of, NoFrame}
use Rattle.frames.specs.Reading.{left, Passed, Halted, Steps, Repeats, Gives}
use Rattle.frames.specs.declared.fault.FrameFault.{FrameFault}
use Rattle.frames.specs.declared.fault.FrameFault.TheVariants.{Short, Extent, Size, Field, Code}
use Rattle.frames.specs.declared.item.Item.{Item}
use Rattle.frames.specs.declared.reader.Fault.{Fault}
use Rattle.frames.specs.declared.reader.Reader.{Reader}
use Rattle.frames.proofs.Records.{none_written, same_body}

-- the head's length is the frame's own
record Sized (frame : List ℕ) : Type 0 where
  long : 4 ≤ length frame
  length_is : head_length frame ≡ length frame

pub fields_alike : (xs ys : List ℕ) → ((i : ℕ) → i < 16 → get_or xs i 0 ≡ get_or ys i 0) → Fields xs → Fields ys
fields_alike xs ys e f = record {
  status = omega (arith, e 4 (omega arith), f.status);
  port = omega (arith, e 6 (omega arith), f.port);
  blank = omega (arith, e 7 (omega arith), f.blank);
}

pub code_alike : (xs ys : List ℕ) → ((i : ℕ) → i < 16 → get_or xs i 0 ≡ get_or ys i 0) → code_in xs ≡ code_in ys
code_alike xs ys e = omega (arith, e 8 (omega arith), e 9 (omega arith), e 10 (omega arith), e 11 (omega arith), e 12 (omega arith), e 13 (omega arith), e 14 (omega arith), e 15 (omega arith))

module _ {V : Type 0} (k : Kind V) where
  -- whether a record frame can be read is seen from its sixteen bytes
  pub unreadable_alike : (xs ys : List ℕ) → ((i : ℕ) → i < 16 → get_or xs i 0 ≡ get_or ys i 0) → (f : FrameFault) → Unreadable k xs f → Unreadable k ys f
  unreadable_alike xs ys e Short u = u
  unreadable_alike xs ys e Extent u = u
  unreadable_alike xs ys e Size u = u
  unreadable_alike xs ys e Field u = λ f. u (fields_alike ys xs (λ i h. sym (e i h)) f)
  unreadable_alike xs ys e Code u = (fields_alike xs ys e u.0, ap k.decoded (sym (code_alike xs ys e)) ∙ u.1)

  sized : (frame : List ℕ) (t : Told) → Tells k frame t → Sized frame
  sized frame (recorded status par port code) r = subst Sized (sym r.frame_is) (record { long = omega arith; length_is = refl })
  sized frame (unknown kind bytes) o = record { long = o.long; length_is = o.length_is }

  -- a frame at the front of some bytes is as long as their head says
  pub first_size : (bytes : List ℕ) (n : ℕ) (t : Told) → First k bytes n t → (4 ≤ n) × (head_length bytes ≡ n) × (head_kind bytes ≡ head_kind (take n bytes))
  first_size bytes n t f =
      let s = sized (take n bytes) t f.tells in
      let l = length-take-le n bytes f.within in
      let long : 4 ≤ n = omega (arith, s.long) in
      let at : (i : ℕ) → i < n → get_or (take n bytes) i 0 ≡ get_or bytes i 0 = λ i h. get_or-take n bytes i 0 h in
      (long, omega (arith, s.length_is, at 0 (omega arith), at 1 (omega arith)), omega (arith, at 2 (omega arith), at 3 (omega arith)))

  pub first_whole : (bytes : List ℕ) (n : ℕ) (t : Told) → First k bytes n t → Whole bytes
  first_whole bytes n t f = let s = first_size bytes n t f in let w = f.within in record { head = omega arith; least = omega arith; within = omega arith }

  -- bytes are faulty in one way only
  pub same_damage : (bytes : List ℕ) (f e : FrameFault) → Damage k bytes f → Damage k bytes e → f ≡ e
  same_damage bytes Short Short p q = refl
  same_damage bytes Short Extent p q = absurd (omega (arith, q.0))
  same_damage bytes Short Size p q = absurd (omega (arith, q.0.head))
  same_damage bytes Short Field p q = absurd (omega (arith, q.0.whole.head))
  same_damage bytes Short Code p q = absurd (omega (arith, q.0.whole.head))
  same_damage bytes Extent Short p q = absurd (omega (arith, p.0))
  same_damage bytes Extent Extent p q = refl
  same_damage bytes Extent Size p q = absurd (p.1 q.0)
  same_damage bytes Extent Field p q = absurd (p.1 q.0.whole)
  same_damage bytes Extent Code p q = absurd (p.1 q.0.whole)
  same_damage bytes Size Short p q = absurd (omega (arith, p.0.head))
  same_damage bytes Size Extent p q = absurd (q.1 p.0)
  same_damage bytes Size Size p q = refl
  same_damage bytes Size Field p q = absurd (p.2 q.0.length_is)
  same_damage bytes Size Code p q = absurd (p.2 q.0.length_is)
  same_damage bytes Field Short p q = absurd (omega (arith, p.0.whole.head))
  same_damage bytes Field Extent p q = absurd (q.1 p.0.whole)
  same_damage bytes Field Size p q = absurd (q.2 p.0.length_is)
  same_damage bytes Field Field p q = refl
  same_damage bytes Field Code p q = absurd (p.1 q.1.0)
  same_damage bytes Code Short p q = absurd (omega (arith, p.0.whole.head))
  same_damage bytes Code Extent p q = absurd (q.1 p.0.whole)
  same_damage bytes Code Size p q = absurd (q.2 p.0.length_is)
  same_damage bytes Code Field p q = absurd (q.1 p.1.0)
  same_damage bytes Code Code p q = refl

module _ {V : Type 0} {k : Kind V} (laws : Laws k) where
  -- a frame tells one thing
  pub same_told : (frame : List ℕ) (t u : Told) → Tells k frame t → Tells k frame u → t ≡ u
  same_told frame (recorded s p o c) (recorded s' p' o' c') a b =
      let e = same_body laws frame a.told b.told o o' (ap (drop 4) a.frame_is) (ap (drop 4) b.frame_is) in
      let es : s ≡ s' = a.status_is ∙ (ap (λ r. number_of r.status) e.0 ∙ sym b.status_is) in
      let ep : p ≡ p' = a.par_is ∙ (ap (λ r. r.par) e.0 ∙ sym b.par_is) in
      let ec : c ≡ c' = a.code_is ∙ (ap (λ r. k.coded r.length) e.0 ∙ sym b.code_is) in
      λ i. recorded (es i) (ep i) (e.1 i) (ec i)
  same_told frame (recorded s p o c) (unknown kind bytes) a b = absurd (b.other (sym b.kind_is ∙ ap head_kind a.frame_is))
  same_told frame (unknown kind bytes) (recorded s p o c) a b = absurd (a.other (sym a.kind_is ∙ ap head_kind b.frame_is))
  same_told frame (unknown kind bytes) (unknown kind' bytes') a b =
      λ i. unknown ((sym a.kind_is ∙ b.kind_is) i) ((a.whole ∙ sym b.whole) i)

  -- bytes begin with one frame
  pub same_first : (bytes : List ℕ) (n m : ℕ) (t u : Told) → First k bytes n t → First k bytes m u → (n ≡ m) × (t ≡ u)
  same_first bytes n m t u f g =
      let e : n ≡ m = sym (first_size k bytes n t f).1 ∙ (first_size k bytes m u g).1 in
      (e, same_told (take m bytes) t u (subst (λ x. Tells k (take x bytes) t) e f.tells) g.tells)

  no_record : (bytes : List ℕ) (n s p o c : ℕ) → First k bytes n (recorded s p o c) → (f : FrameFault) → Unreadable k bytes f → ⊥
  no_record bytes n s p o c first f u =
      let r = first.tells in
      let long : n ≡ 16 = sym (length-take-le n bytes first.within) ∙ ap length r.frame_is in
      let same : (i : ℕ) → i < 16 → get_or bytes i 0 ≡ get_or (take n bytes) i 0 = λ i h. sym (get_or-take n bytes i 0 (omega arith)) in
      none_written laws (take n bytes) f (unreadable_alike k bytes (take n bytes) same f u) r.told o r.own_port (ap (drop 4) r.frame_is)

  not_record : (bytes : List ℕ) (n kind : ℕ) (b : List ℕ) → First k bytes n (unknown kind b) → head_kind bytes ≡ 1 → ⊥
  not_record bytes n kind b first e =
      first.tells.other (sym first.tells.kind_is ∙ (sym (first_size k bytes n (unknown kind b) first).2 ∙ e))

  -- bytes that begin with a frame are not faulty
  pub no_damage : (bytes : List ℕ) (n : ℕ) (t : Told) → First k bytes n t → (f : FrameFault) → Damage k bytes f → ⊥
  no_damage bytes n t first Short d = omega (arith, (first_whole k bytes n t first).head)
  no_damage bytes n t first Extent d = d.1 (first_whole k bytes n t first)
  no_damage bytes n (unknown kind b) first Size d = not_record bytes n kind b first d.1
  no_damage bytes n (recorded s p o c) first Size d =
      d.2 ((first_size k bytes n (recorded s p o c) first).1 ∙ (sym (length-take-le n bytes first.within) ∙ ap length first.tells.frame_is))
  no_damage bytes n (unknown kind b) first Field d = not_record bytes n kind b first d.0.kind_is
  no_damage bytes n (recorded s p o c) first Field d = no_record bytes n s p o c first Field d.1
  no_damage bytes n (unknown kind b) first Code d = not_record bytes n kind b first d.0.kind_is
  no_damage bytes n (recorded s p o c) first Code d = no_record bytes n s p o c first Code d.1

  -- faulty bytes begin with no record's frame
  pub no_frame : (bytes : List ℕ) (f : FrameFault) → Damage k bytes f → NoFrame k bytes f
  no_frame bytes f d = record {
    why = d;
    none = λ q p after h e.
        let first : First k bytes 16 (recorded (number_of q.status) q.par p (k.coded q.length)) = record {
          within = omega (arith, ap length e);
          tells = record { told = q; own_port = h; frame_is = ap (take 16) e; status_is = refl; par_is = refl; code_is = refl };
        } in
        no_damage bytes 16 _ first f d;
  }

  -- a stream that ends does not begin with a frame
  no_end : (place : ℕ) (bytes : List ℕ) (n : ℕ) (t : Told) (e : End) → First k bytes n t → Ends k place bytes e → ⊥
  no_end place bytes n t ended first e = omega (arith, (first_whole k bytes n t first).head, ap length e)
  no_end place bytes n t (stopped f at) first e = no_damage bytes n t first f e.2

  same_end : (place : ℕ) (bytes : List ℕ) (d e : End) → Ends k place bytes d → Ends k place bytes e → d ≡ e
  same_end place bytes ended ended p q = refl
  same_end place bytes ended (stopped f at) p q = absurd (omega (arith, ap length p, q.1))
  same_end place bytes (stopped f at) ended p q = absurd (omega (arith, ap length q, p.1))
  same_end place bytes (stopped f at) (stopped e to) p q =
      λ i. stopped (same_damage k bytes f e p.2 q.2 i) ((p.0 ∙ sym q.0) i)

  -- bytes stand for one list of items and one end
  pub unique : (ts us : List Told) (place : ℕ) (bytes : List ℕ) (d e : End) → Stands k place bytes ts d → Stands k place bytes us e → (ts ≡ us) × (d ≡ e)
  unique [] [] place bytes d e p q = (refl, same_end place bytes d e p q)
  unique [] (u ∷ us) place bytes d e p q = absurd (no_end place bytes q.0 u d q.1 p)
  unique (t ∷ ts) [] place bytes d e p q = absurd (no_end place bytes p.0 t e p.1 q)
  unique (t ∷ ts) (u ∷ us) place bytes d e p q =
      let f = same_first bytes p.0 q.0 t u p.1 q.1 in
      let r = unique ts us (place + q.0) (drop q.0 bytes) d e (subst (λ n. Stands k (place + n) (drop n bytes) ts d) f.0 p.2) q.2 in
      ((λ i. f.1 i ∷ r.0 i), r.1)

  -- what was left before a step stands for the item and what is left after it
  pub passes : (before : Reader V) (t : Told) (after : Reader V) → Passed k before t after → (us : List Told) (e : End) → Stands k after.place (left after) us e → Stands k before.place (left before) (t ∷ us) e
  passes before t after p us e s =
      let there : left after ≡ drop p.size (left before) = ap (λ x. drop after.place x) p.same ∙ (ap (λ n. drop n before.input.now) p.moved ∙ sym (drop-drop p.size before.place before.input.now)) in
      (p.size, p.first, subst (λ n. Stands k n (drop p.size (left before)) us e) p.moved (subst (λ x. Stands k after.place x us e) there s))

  -- each step gives what the stream stands for
  pub gives : (before : Reader V) (r : Option (Result Item Fault)) (after : Reader V) → Steps k before r after → (ts : List Told) (e : End) → Stands k before.place (left before) ts e → Gives k r ts e after
  gives before None after p ts e s = unique ts [] before.place (left before) e ended s p.0
  gives before (Some (Err f)) after p ts e s = unique ts [] before.place (left before) e (stopped f.fault f.place) s (p.place_is, p.more, p.why)
  gives before (Some (Ok i)) after p [] e s = absurd (no_end before.place (left before) p.size (told_of i) e p.first s)
  gives before (Some (Ok i)) after p (t ∷ ts) e s =
      let f = same_first (left before) s.0 p.size t (told_of i) s.1 p.first in
      let there : left after ≡ drop p.size (left before) = ap (λ x. drop after.place x) p.same ∙ (ap (λ n. drop n before.input.now) p.moved ∙ sym (drop-drop p.size before.place before.input.now)) in
      let tail : Stands k (before.place + p.size) (drop p.size (left before)) ts e = subst (λ n. Stands k (before.place + n) (drop n (left before)) ts e) f.0 s.2 in
      record {
        rest = ts;
        begins = ap (λ x. x ∷ ts) f.1;
        stands = subst (λ x. Stands k after.place x ts e) (sym there) (subst (λ n. Stands k n (drop p.size (left before)) ts e) (sym p.moved) tail);
      }

  none_again : (r last : Reader V) (q : Option (Result Item Fault)) → left r ≡ [] → Steps k r q last → (q ≡ None) × (last ≡ r)
  none_again r last None e s = (refl, s.1)
  none_again r last (Some (Ok i)) e s = absurd (no_end r.place (left r) s.size (told_of i) ended s.first e)
  none_again r last (Some (Err f)) e s = absurd (omega (arith, ap length e, s.more))

  fault_again : (r last : Reader V) (f : Fault) (q : Option (Result Item Fault)) → Halted k r f r → Steps k r q last → (q ≡ Some (Err f)) × (last ≡ r)
  fault_again r last f None h s = absurd (omega (arith, ap length s.0, h.more))
  fault_again r last f (Some (Ok i)) h s = absurd (no_damage (left r) s.size (told_of i) s.first f.fault h.why)
  fault_again r last f (Some (Err e)) h s =
      ((λ i. Some (Err (record { place = (s.place_is ∙ sym h.place_is) i; fault = same_damage k (left r) e.fault f.fault s.why h.why i }))), s.stays)

  -- a reader that has come to the end or to a fault stays there
  pub repeats : (before : Reader V) (r : Option (Result Item Fault)) (after : Reader V) → Steps k before r after → Repeats k r after
  repeats before None after p = λ q last s. none_again after last q (subst (λ x. left x ≡ []) (sym p.1) p.0) s
  repeats before (Some (Ok i)) after p = tt
  repeats before (Some (Err f)) after p = λ q last s. fault_again after last f q (subst (λ x. Halted k x f x) (sym p.stays) (subst (λ x. Halted k before f x) p.stays p)) s
