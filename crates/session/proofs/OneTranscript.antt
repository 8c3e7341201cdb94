-- A script has one transcript.
use Rattle.std.proofs.Common.{◌≡◌, ℕ, ◌+◌, Bool, List, ◌∷◌, ◌++◌, Some, None, Ok, Err, Option, Result, sym, refl, ap, ◌∙◌, subst, ⊎_elim, arith}
use Rattle.lengths.specs.Grade.{grade}
use Rattle.lengths.specs.GradeLaws.{grade_laws}
use Rattle.lengths.specs.Kind.{Kind, Laws}
use Rattle.lengths.specs.Metres.{metres}
use Rattle.lengths.specs.MetresLaws.{metres_laws}
use Rattle.lengths.specs.declared.grade.Grade.{Grade as GradeLength}
use Rattle.lengths.specs.declared.metres.Metres.{Metres as MetresLength}
use Rattle.words.proofs.Unique.{same_lines}
use Rattle.commands.proofs.Unique.{same_reading}
use Rattle.commands.specs.declared.command.Command.{Command}
use Rattle.commands.specs.declared.command.Command.TheVariants.{New, Wire, Cut, Plant, Turn, Settle, Tally, Show}
use Rattle.commands.specs.declared.command.Kind.{Kind as KindName}
use Rattle.commands.specs.declared.command.Kind.TheVariants as name
use Rattle.commands.specs.declared.command.PickerName.{PickerName}
use Rattle.commands.specs.declared.misread.Misread.{Misread}
use Rattle.hall.specs.declared.fault.Fault.{Fault}
use Rattle.hall.specs.declared.tables.Hall.{Hall}
use Rattle.session.specs.Answers.{Opens, Commands, Does, Follows, Replies, Shown, Printed, Answered}
use Rattle.session.specs.Halls.{MakesAny, ObeysAny, ShownAny}
use Rattle.session.specs.Replies.{Becomes, TurnsNamed, SettlesNamed, Obeys}
use Rattle.session.specs.Transcript.{Answers, nothing, answer, Transcript}
use Rattle.session.specs.declared.fault.ScriptFault.{ScriptFault}
use Rattle.session.specs.declared.fault.ScriptFault.TheVariants.{Hall as Refusing}
use Rattle.session.specs.declared.halls.AnyHall.{AnyHall}
use Rattle.session.specs.declared.halls.AnyHall.TheVariants.{Metres, Grade}
use Rattle.session.specs.declared.obey.Reply.{Reply}
use Rattle.session.specs.declared.obey.Reply.TheVariants.{Done, Moved, Counts}
use Rattle.session.proofs.OneHall.{Alike, one_wires, one_cuts, one_planted, one_turns, one_settles, one_tally, one_shown, one_made, kept}

-- the answer to a line from the answer of the hall
abbrev answered : {A : Type 0} → (A → Reply) → Result A Fault → Result Reply ScriptFault
answered reply (Ok a) = Ok (reply a)
answered reply (Err f) = Err (Refusing f)

becomes : {A : Type 0} (reply : A → Reply) {P : Result A Fault → Type 0} (r : Result Reply ScriptFault) → Becomes reply P r → (x : Result A Fault) × (r ≡ answered reply x) × P x
becomes reply (Ok x) p = (Ok p.0, ap Ok p.1, p.2)
becomes reply (Err e) p = (Err p.0, ap Err p.1, p.2)

one_becomes : {A : Type 0} (reply : A → Reply) {P Q : Result A Fault → Type 0} {X : Type 0} → ((x y : Result A Fault) → P x → Q y → (x ≡ y) × X) → (r s : Result Reply ScriptFault) → Becomes reply P r → Becomes reply Q s → (r ≡ s) × X
one_becomes reply {P = P} {Q = Q} one r s p q =
    let x = becomes reply {P = P} r p in
    let y = becomes reply {P = Q} s q in
    let o = one x.0 y.0 x.2 y.2 in
    (x.1 ∙ ap (answered reply) o.0 ∙ sym y.1, o.1)

module _ {V : Type 0} {k : Kind V} (laws : Laws k) where
  one_named : (g h g' h' : Hall V) (beyond : Bool) (set : ℕ) → Alike k g h → (r s : Result ℕ Fault) → TurnsNamed k g beyond set r g' → TurnsNamed k h beyond set s h' → (r ≡ s) × Alike k g' h'
  one_named g h g' h' beyond set l r s p q = grind (arith, one_turns laws, kept laws)

  one_settled : (g h g' h' : Hall V) → Alike k g h → (name : PickerName) → SettlesNamed k name g g' → SettlesNamed k name h h' → Alike k g' h'
  one_settled g h g' h' l name p q = grind (arith, one_settles laws)

  one_obeys : (g h g' h' : Hall V) → Alike k g h → (command : Command) (r s : Result Reply ScriptFault) → Obeys k g command r g' → Obeys k h command s h' → (r ≡ s) × Alike k g' h'
  one_obeys g h g' h' l (New n kind) r s p q = (p.0 ∙ sym q.0, kept laws p.1 q.1 l)
  one_obeys g h g' h' l (Wire a o b u w) r s p q = one_becomes (λ _. Done) (one_wires laws g h g' h' a o b u w l) r s p q
  one_obeys g h g' h' l (Cut b o) r s p q = one_becomes (λ _. Done) (one_cuts laws g h g' h' b o l) r s p q
  one_obeys g h g' h' l (Plant b status par code) r s p q = one_becomes (λ _. Done) (one_planted laws g h g' h' b status par code l) r s p q
  one_obeys g h g' h' l (Turn boards) r s p q = one_becomes Moved (one_named g h g' h' boards.beyond boards.set l) r s p q
  one_obeys g h g' h' l (Settle name) r s p q = (p.0 ∙ sym q.0, one_settled g h g' h' l name p.1 q.1)
  one_obeys g h g' h' l (Tally b) r s p q = one_becomes Counts (λ x y u v. (one_tally laws g h b l x y u v, kept laws p.1 q.1 l)) r s p.0 q.0
  one_obeys g h g' h' l Show r s p q = (p.0 ∙ sym q.0, kept laws p.1 q.1 l)

-- halls of one kind with the same tables
data AlikeAny : AnyHall → AnyHall → Type 0 where
  metres_alike : {g h : Hall MetresLength} → Alike metres g h → AlikeAny (Metres g) (Metres h)
  grade_alike : {g h : Hall GradeLength} → Alike grade g h → AlikeAny (Grade g) (Grade h)

-- no hall, or halls with the same tables
data AlikeHere : Option AnyHall → Option AnyHall → Type 0 where
  neither : AlikeHere None None
  both : {g h : AnyHall} → AlikeAny g h → AlikeHere (Some g) (Some h)

along : {g h g' h' : AnyHall} → g' ≡ g → h' ≡ h → AlikeAny g h → AlikeAny g' h'
along {g} {h} {g'} {h'} p q l = subst (λ x. AlikeAny x h') (sym p) (subst (AlikeAny g) (sym q) l)

along_here : {g h g' h' : Option AnyHall} → g' ≡ g → h' ≡ h → AlikeHere g h → AlikeHere g' h'
along_here {g} {h} {g'} {h'} p q l = subst (λ x. AlikeHere x h') (sym p) (subst (AlikeHere g) (sym q) l)

one_obeys_any : (g h g' h' : AnyHall) → AlikeAny g h → (command : Command) (r s : Result Reply ScriptFault) → ObeysAny g command r g' → ObeysAny h command s h' → (r ≡ s) × AlikeAny g' h'
one_obeys_any g h g' h' (metres_alike {g = x} {h = y} l) command r s p q =
    let o = one_obeys metres_laws x y p.0 q.0 l command r s p.2 q.2 in (o.0, along p.1 q.1 (metres_alike o.1))
one_obeys_any g h g' h' (grade_alike {g = x} {h = y} l) command r s p q =
    let o = one_obeys grade_laws x y p.0 q.0 l command r s p.2 q.2 in (o.0, along p.1 q.1 (grade_alike o.1))

one_shown_any : (g h : AnyHall) → AlikeAny g h → (t u : List ℕ) → ShownAny g t → ShownAny h u → t ≡ u
one_shown_any g h (metres_alike {g = x} {h = y} l) t u p q = one_shown metres_laws x y 0 l t u p q
one_shown_any g h (grade_alike {g = x} {h = y} l) t u p q = one_shown grade_laws x y 0 l t u p q

one_made_any : (kind : KindName) (n : ℕ) (g h : AnyHall) → MakesAny kind n (Ok g) → MakesAny kind n (Ok h) → AlikeAny g h
one_made_any name.Metres n g h p q = along p.1 q.1 (metres_alike (one_made metres_laws n p.0 q.0 p.2 q.2))
one_made_any name.Grade n g h p q = along p.1 q.1 (grade_alike (one_made grade_laws n p.0 q.0 p.2 q.2))

-- a hall is made or refused, and not both
made_or_not : (kind : KindName) (n : ℕ) (g : AnyHall) (f : Fault) → MakesAny kind n (Ok g) → MakesAny kind n (Err f) → ⊥
made_or_not kind n g f p q = grind arith

one_refused : (kind : KindName) (n : ℕ) (d e : Fault) → MakesAny kind n (Err d) → MakesAny kind n (Err e) → d ≡ e
one_refused kind n d e p q = grind arith

module _ (g h g' h' : Option AnyHall) (l : AlikeHere g h) where
  one_opens : (kind : KindName) (n : ℕ) (r s : Result Reply ScriptFault) → Opens kind n g r g' → Opens kind n h s h' → (r ≡ s) × AlikeHere g' h'
  one_opens kind n (Ok x) (Ok y) p q = (ap Ok (p.2 ∙ sym q.2), along_here p.1 q.1 (both (one_made_any kind n p.0 q.0 p.3 q.3)))
  one_opens kind n (Ok x) (Err e) p q = absurd (made_or_not kind n p.0 q.0 p.3 q.3)
  one_opens kind n (Err d) (Ok y) p q = absurd (made_or_not kind n q.0 p.0 q.3 p.3)
  one_opens kind n (Err d) (Err e) p q = (ap Err (p.1 ∙ ap Refusing (one_refused kind n p.0 q.0 p.3 q.3) ∙ sym q.1), along_here p.2 q.2 l)

one_commands : (g h g' h' : Option AnyHall) → AlikeHere g h → (command : Command) (r s : Result Reply ScriptFault) → Commands command g r g' → Commands command h s h' → (r ≡ s) × AlikeHere g' h'
one_commands g h g' h' neither command r s p q = (p.0 ∙ sym q.0, along_here p.1 q.1 neither)
one_commands g h g' h' (both {g = x} {h = y} l) command r s p q =
    let o = one_obeys_any x y p.0 q.0 l command r s p.2 q.2 in (o.0, along_here p.1 q.1 (both o.1))

one_does : (g h g' h' : Option AnyHall) → AlikeHere g h → (command : Command) (r s : Result Reply ScriptFault) → Does command g r g' → Does command h s h' → (r ≡ s) × AlikeHere g' h'
one_does g h g' h' l (New n kind) = one_opens g h g' h' l kind n
one_does g h g' h' l (Wire a p b q w) = one_commands g h g' h' l (Wire a p b q w)
one_does g h g' h' l (Cut b p) = one_commands g h g' h' l (Cut b p)
one_does g h g' h' l (Plant b status par code) = one_commands g h g' h' l (Plant b status par code)
one_does g h g' h' l (Turn boards) = one_commands g h g' h' l (Turn boards)
one_does g h g' h' l (Settle name) = one_commands g h g' h' l (Settle name)
one_does g h g' h' l (Tally b) = one_commands g h g' h' l (Tally b)
one_does g h g' h' l Show = one_commands g h g' h' l Show

one_follows : (g h g' h' : Option AnyHall) → AlikeHere g h → (reading : Result Command Misread) (r s : Result Reply ScriptFault) → Follows reading g r g' → Follows reading h s h' → (r ≡ s) × AlikeHere g' h'
one_follows g h g' h' l (Ok command) r s p q = one_does g h g' h' l command r s p q
one_follows g h g' h' l (Err m) r s p q = (p.0 ∙ sym q.0, along_here p.1 q.1 l)

one_reply : (g h g' h' : Option AnyHall) (line : List ℕ) → AlikeHere g h → (r s : Result Reply ScriptFault) → Replies line g r g' → Replies line h s h' → (r ≡ s) × AlikeHere g' h'
one_reply g h g' h' line l r s p q =
    one_follows g h g' h' l q.0 r s (subst (λ x. Follows x g r g') (same_reading line p.0 q.0 p.1 q.1) p.2) q.2

one_shown_here : (g h : Option AnyHall) → AlikeHere g h → (t u : List ℕ) → Shown g t → Shown h u → t ≡ u
one_shown_here g h l t u p q = grind (arith, one_shown_any)

one_printed : (g h : Option AnyHall) → AlikeHere g h → (number : ℕ) (r : Result Reply ScriptFault) (t u : List ℕ) → Printed g number r t → Printed h number r u → t ≡ u
one_printed g h l number r t u p q = grind (arith, one_shown_here)

one_answer : (g h g' h' : Option AnyHall) (number : ℕ) (line : List ℕ) → AlikeHere g h → (t u : List ℕ) → Answered number line g g' t → Answered number line h h' u → (t ≡ u) × AlikeHere g' h'
one_answer g h g' h' number line l t u p q =
    let o = one_reply g h g' h' line l p.0 q.0 p.1 q.1 in
    (one_printed g' h' o.1 number q.0 t u (subst (λ r. Printed g' number r t) o.0 p.2) q.2, o.1)

one_answers : (g h : Option AnyHall) (number : ℕ) (lines : List (List ℕ)) → AlikeHere g h → (t u : List ℕ) → Answers number g lines t → Answers number h lines u → t ≡ u
one_answers g h number lines l t u nothing nothing = refl
one_answers g h number (line ∷ lines) l t u (answer g' x {more = m} p ps) (answer h' y {more = n} q qs) =
    let o = one_answer g h g' h' number line l x y p q in
    let rest = one_answers g' h' (number + 1) lines o.1 m n ps qs in
    λ i. o.0 i ++ rest i

pub one_transcript : (script t u : List ℕ) → Transcript script t → Transcript script u → t ≡ u
one_transcript script t u p q =
    ⊎_elim
    (λ x. ⊎_elim (λ y. x.1 ∙ sym y.1) (λ y. absurd (omega (arith, x.0, y.0))) q)
    (λ x. ⊎_elim (λ y. absurd (omega (arith, x.0, y.0))) (λ y.
    one_answers None None 1 y.1.0 neither t u (subst (λ lines. Answers 1 None lines t) (same_lines x.1.0 y.1.0 script x.1.1 y.1.1) x.1.2) y.1.2) q)
    p
