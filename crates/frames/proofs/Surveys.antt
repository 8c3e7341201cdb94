-- A survey: what was counted so far, and what is left, are all that the stream stands for.
use Rattle.std.proofs.Common.{◌≡◌, ℕ, ◌+◌, ◌≤◌, List, [], ◌∷◌, drop, None, Option, refl, ap, ◌∙◌, subst, arith}
use Rattle.lengths.specs.Kind.{Kind, Laws}
use Rattle.frames.specs.Stream.{Told, recorded, unknown, End, Stands}
use Rattle.frames.specs.Reading.{left, Opens, Passed, one_record, one_unknown, count, fault_at, Surveyed}
use Rattle.frames.specs.declared.reader.Fault.{Fault}
use Rattle.frames.specs.declared.reader.Reader.{Reader}
use Rattle.frames.specs.declared.survey.Survey.{Survey}
use Rattle.frames.proofs.Streams.{unique, passes}

-- the bytes stand for items that end in these, and of the others as many were counted as the survey says
pub record Counted {V : Type 0} (k : Kind V) (bytes : List ℕ) (us : List Told) (e : End) (s : Survey) : Type 0 where
  pub items : List Told
  pub stands : Stands k 0 bytes items e
  pub records_are : s.records + count one_record us ≡ count one_record items
  pub unknown_are : s.unknown + count one_unknown us ≡ count one_unknown items

-- a reader of the bytes that has counted what it has read, and has come to no fault
pub record Counting {V : Type 0} (k : Kind V) (bytes : List ℕ) (r : Reader V) (s : Survey) : Type 0 where
  pub same : r.input.now ≡ bytes
  pub few : s.records + s.unknown ≤ r.place
  pub counted : (us : List Told) (e : End) → Stands k r.place (left r) us e → Counted k bytes us e s
  pub none : s.stop ≡ None

one_of_two : (t : Told) → one_record t + one_unknown t ≡ 1
one_of_two (recorded s p o c) = refl
one_of_two (unknown kind b) = refl

module _ {V : Type 0} {k : Kind V} (laws : Laws k) where
  -- at the first byte nothing was counted
  pub counting_none : (bytes : List ℕ) (r : Reader V) (s : Survey) → Opens k bytes r → (s.records ≡ 0) × ((s.unknown ≡ 0) × (s.stop ≡ None)) → Counting k bytes r s
  counting_none bytes r s o zero =
      let there : left r ≡ bytes = ap (λ n. drop n r.input.now) o.place_is ∙ o.input_is in
      let no_record = zero.0 in
      let no_unknown = zero.1.0 in
      record {
        same = o.input_is;
        few = omega (arith, no_record, no_unknown);
        counted = λ us e x. record {
          items = us;
          stands = subst (λ n. Stands k n bytes us e) o.place_is (subst (λ b. Stands k r.place b us e) there x);
          records_are = omega (arith, no_record);
          unknown_are = omega (arith, no_unknown);
        };
        none = zero.1.1;
      }

  -- one frame more
  pub counting_more : (bytes : List ℕ) (before after : Reader V) (t : Told) (s s' : Survey) → Counting k bytes before s → Passed k before t after → s'.records ≡ s.records + one_record t → s'.unknown ≡ s.unknown + one_unknown t → s'.stop ≡ s.stop → Counting k bytes after s'
  counting_more bytes before after t s s' c p en em es =
      record {
        same = p.same ∙ c.same;
        few = omega (arith, one_of_two t, c.few, p.moved, p.some);
        counted = λ us e x.
            let all = c.counted (t ∷ us) e (passes laws before t after p us e x) in
            record { items = all.items; stands = all.stands; records_are = omega (arith, all.records_are); unknown_are = omega (arith, all.unknown_are) };
        none = es ∙ c.none;
      }

  -- at the end all was counted
  pub counted_all : (bytes : List ℕ) (e : End) (s : Survey) → Counted k bytes [] e s → s.stop ≡ fault_at e → Surveyed k bytes s
  counted_all bytes e s c f = record {
    meant = record { items = c.items; end = e; stands = c.stands; only = λ ts d q. unique laws ts c.items 0 bytes d e q c.stands };
    records_are = omega (arith, c.records_are);
    unknown_are = omega (arith, c.unknown_are);
    stop_is = f;
  }

  -- a reader that stands at the end has counted all, and the survey stops as the end says
  pub counted_to_end : (bytes : List ℕ) (r : Reader V) (e : End) (s : Survey) (stop : Option Fault) → Counting k bytes r s → Stands k r.place (left r) [] e → stop ≡ fault_at e → Surveyed k bytes (record s { stop = stop })
  counted_to_end bytes r e s stop c x f =
      let all = c.counted [] e x in
      counted_all bytes e (record s { stop = stop }) (record { items = all.items; stands = all.stands; records_are = all.records_are; unknown_are = all.unknown_are }) f
