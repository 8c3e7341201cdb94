-- What a slot shows, and that a board which is up to date sees what a hall shows it.
use Rattle.std.proofs.Common.{◌≡◌, ℕ, ◌≤◌, Bool, true, false, cond, ◌&&◌, eqb, leb, List, get_or, drop, Some, None, Option, Ok, Err, Result, sym, refl, ap, ◌∙◌, subst, ap₂, arith, eq-eqb, eqb-true, le-leb, leb-true}
use borrow.Author.Tests.{both_ways}
use Rattle.lengths.specs.Kind.{Kind, Laws}
use Rattle.rules.specs.Rules.{Moves}
use Rattle.rules.specs.declared.record.Record.{Record}
use Rattle.network.specs.Cables.{around, shown}
use Rattle.rules.specs.Records.{root_of}
use Rattle.network.specs.declared.End.{End}
use Rattle.hall.specs.Hall.{MoveOn}
use Rattle.hall.proofs.Verdicts.{move_of}
use Rattle.std.specs.Result.{result_ok}
use Rattle.rules.specs.Status.{status_of}
use Rattle.frames.specs.Record.{body_of, Fields, code_in, Unreadable, Reads}
use Rattle.frames.specs.declared.fault.FrameFault.{FrameFault}
use Rattle.frames.specs.declared.fault.FrameFault.TheVariants.{Short, Extent, Size, Field, Code}
use Rattle.frames.specs.declared.sent.Sent.{Sent}
use Rattle.frames.proofs.Bytes.{at_drop}
use Rattle.rules.proofs.Statuses.{status_back}
use Rattle.frames.proofs.Records.{code_written, fields_written}
use Rattle.board.specs.Hear.{slot_at}
use Rattle.board.specs.Move.{legible, shown_by, sight, seen_in, MovesAs, HearsEnd, AsInHall}
use Rattle.board.specs.Station.{weight_at, length_or, own_of, Stands}
use Rattle.board.specs.declared.ports.Ports.{Ports}
use Rattle.board.specs.declared.states.Owing.{Owing}
use Rattle.board.specs.declared.states.Ready.{Ready}
use Rattle.board.specs.declared.station.Station.{Station}

-- legible fields are those of a record's frame
legible_fields : (slot : List ℕ) (a b c : Bool) → leb (get_or slot 4 0) 3 ≡ a → leb (get_or slot 6 0) 7 ≡ b → eqb (get_or slot 7 0) 0 ≡ c → (a && (b && c)) ≡ true → Fields slot
legible_fields slot true true true p q r e = record { status = leb-true _ _ p; port = leb-true _ _ q; blank = eqb-true _ _ r }
legible_fields slot true true false p q r e = absurd (both_ways false refl e)
legible_fields slot true false c p q r e = absurd (both_ways false refl e)
legible_fields slot false b c p q r e = absurd (both_ways false refl e)

if_legible : {T : Type 0} (b : Bool) (x y : Option T) → (b ≡ true → x ≡ y) → y ≡ None → cond b x None ≡ y
if_legible true x y h e = h refl
if_legible false x y h e = sym e

-- the fields of a record's frame are legible
fields_legible : (slot : List ℕ) → Fields slot → legible slot ≡ true
fields_legible slot f = rw (le-leb _ _ f.status) (rw (le-leb _ _ f.port) (eq-eqb _ _ f.blank))

module _ {V : Type 0} {k : Kind V} (laws : Laws k) where
  -- a slot with a record's body shows the record
  pub sight_told : (slot : List ℕ) (r : Record V) (port w : ℕ) → port ≤ 7 → drop 4 slot ≡ body_of k r port → sight k (Some w) slot ≡ Some (record { status = r.status; length = r.length; weight = w; named = eqb r.par port })
  sight_told slot r port w h e =
      let ok : legible slot ≡ true = fields_legible slot (fields_written laws slot r port h e) in
      let code : k.decoded (code_in slot) ≡ Some r.length = ap k.decoded (code_written laws slot r port e) ∙ laws.read_back r.length in
      let s : status_of (get_or slot 4 0) ≡ r.status = ap status_of (at_drop 4 0 slot (body_of k r port) e) ∙ status_back r.status in
      let p : get_or slot 5 0 ≡ r.par = at_drop 4 1 slot (body_of k r port) e in
      let o : get_or slot 6 0 ≡ port = at_drop 4 2 slot (body_of k r port) e in
      ap (λ b. cond b (shown_by slot w (k.decoded (code_in slot))) None) ok
      ∙ ap (shown_by slot w) code
      ∙ (λ i. Some (record { status = s i; length = r.length; weight = w; named = eqb (p i) (o i) }))

  -- a slot that cannot be read shows nothing
  pub sight_none : (slot : List ℕ) (f : FrameFault) (w : ℕ) → Unreadable k slot f → sight k (Some w) slot ≡ None
  sight_none slot Short w u = absurd u
  sight_none slot Extent w u = absurd u
  sight_none slot Size w u = absurd u
  sight_none slot Field w u = if_legible (legible slot) _ None (λ ok. absurd (u (legible_fields slot _ _ _ refl refl refl ok))) refl
  sight_none slot Code w u = if_legible (legible slot) _ None (λ ok. ap (shown_by slot w) u.1) refl

  pub seen_none : (s : Ports) (ear slot : List ℕ) (p w : ℕ) (fault : FrameFault) → weight_at s p ≡ Some w → slot ≡ slot_at ear p → Unreadable k slot fault → None ≡ seen_in k s ear p
  seen_none s ear slot p w fault e f u = sym (ap₂ (sight k) e (sym f) ∙ sight_none slot fault w u)

  -- what a port shows that is wired, and whose slot was read
  pub seen_told : (s : Ports) (ear slot : List ℕ) (p w : ℕ) (read : Result (Sent V) FrameFault) (sent : Sent V) → weight_at s p ≡ Some w → slot ≡ slot_at ear p → Reads k slot read → Some sent ≡ result_ok read → Some (record { status = sent.«record».status; length = sent.«record».length; weight = w; named = eqb sent.«record».par sent.port }) ≡ seen_in k s ear p
  seen_told s ear slot p w (Ok x) sent e f a is =
      let same : x ≡ sent = cc in
      let shows = sym (ap₂ (sight k) e (sym f) ∙ sight_told slot x.«record» x.port w a.own_port a.body) in
      rw (← same) shows
  seen_told s ear slot p w (Err fault) sent e f a is = cc

  -- a board with another record has that record, unless it is the root
  pub own_again : (ports : Ports) (after : Station) (r : Record V) → Stands k false r ports after → own_of k after ≡ r
  own_again ports after r w =
      let l : length_or k.start (k.decoded after.code) ≡ r.length = ap (λ x. length_or k.start (k.decoded x)) w.code_is ∙ ap (length_or k.start) (laws.read_back r.length) in
      ap (λ b. cond b (root_of k) (record { status = after.status; par = after.par; length = length_or k.start (k.decoded after.code) })) w.root_is
      ∙ (λ i. record { status = w.status_is i; par = w.par_is i; length = l i })

  -- a board that is not the root moves by the rules, and its record is written as numbers
  pub by_rules : (before : Ready V) (after : Owing V) (own r : Record V) → before.station.root ≡ false → own ≡ own_of k before.station → Stands k false r before.station.ports after.station → Moves k own (seen_in k before.station.ports before.ear.now) after.verdict r → MovesAs k before.station.root before after
  by_rules before after own r common e w moves =
      let near = seen_in k before.station.ports before.ear.now in
      let told = subst (λ x. Moves k x near after.verdict r) e moves in
      subst (λ b. MovesAs k b before after) (sym common) (record {
        common = w.root_is;
        ports = w.ports_are;
        moves = subst (λ x. Moves k (own_of k before.station) near after.verdict x) (sym (own_again before.station.ports after.station r w)) told;
      })

  -- a port that heard the far end of its cable shows what a hall shows
  same_sight : (rec : ℕ → Record V) (far : Option End) (w : Option ℕ) (slot : List ℕ) → HearsEnd k rec far w slot → sight k w slot ≡ shown rec far
  same_sight rec None w slot h = ap (λ x. sight k x slot) h
  same_sight rec (Some e) w slot h =
      ap (λ x. sight k x slot) h.0 ∙ sight_told slot (rec e.board) e.port e.weight (omega (arith, h.1)) (ap (drop 4) h.2)

  -- a board that is up to date moves as the hall moves it
  pub as_in_hall : (before : Ready V) (after : Owing V) → MovesAs k before.station.root before after → AsInHall k before after
  as_in_hall before after m n far rec b u = by-root before.station.root u.root_is m
    where
      same : seen_in k before.station.ports before.ear.now ≡ around far rec b
      same = λ i p. same_sight rec (far b p) (weight_at before.station.ports p) (slot_at before.ear.now p) (u.ports p) i

      by-root : (t : Bool) → t ≡ eqb b 0 → MovesAs k t before after → MoveOn k n far rec b after.verdict (own_of k after.station)
      by-root true e x =
          let zero-th : b ≡ 0 = eqb-true _ _ (sym e) in
          subst (λ v. MoveOn k n far rec b v (own_of k after.station)) (sym x.0) ((λ v y. y.1 zero-th), ap (own_of k) x.1 ∙ u.own)
      by-root false e x =
          move_of k n far rec b u.there (λ z. both_ways (eqb b 0) (sym e) (eq-eqb b 0 z)) (own_of k before.station) u.own after.verdict (own_of k after.station)
          (subst (λ near. Moves k (own_of k before.station) near after.verdict (own_of k after.station)) same x.moves)
