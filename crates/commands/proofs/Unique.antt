-- A line has one reading.
use Rattle.std.proofs.Common.{◌≡◌, ℕ, ◌+◌, ◌*◌, false, cond, eqb, List, [], ◌∷◌, length, get_or, replicate, Ok, Err, Result, sym, refl, ap, ◌∙◌, subst, ⊎_elim, arith}
use Rattle.sets.specs.Sets.{has}
use Rattle.sets.proofs.Bits.{same_members, same_test}
use Rattle.words.specs.Numerals.{Numeral}
use Rattle.words.proofs.Unique.{same_words, same_number}
use Rattle.commands.specs.declared.boards.Boards.{Boards}
use Rattle.commands.specs.declared.command.Command.{Command}
use Rattle.commands.specs.declared.command.Command.TheVariants as command
use Rattle.commands.specs.declared.command.Kind.{Kind}
use Rattle.commands.specs.declared.command.Kind.TheVariants.{Metres, Grade}
use Rattle.commands.specs.declared.misread.Misread.{Misread}
use Rattle.commands.specs.declared.misread.Misread.TheVariants.{Malformed, Unknown, Count, Field}
use Rattle.commands.specs.declared.command.PickerName.{PickerName}
use Rattle.commands.specs.declared.command.PickerName.TheVariants.{All, Ring}
use Rattle.commands.specs.declared.verb.Verb.{Verb}
use Rattle.commands.specs.declared.verb.Verb.TheVariants as verb
use Rattle.commands.specs.Commands.{verb_of, Says, Written, Reading}
use Rattle.commands.specs.Fields.{Sort, numeral, kind_word, picker_word, Fits, Counts, sorts, name_of, kind_name, picker_name, Misfit, Numerals}
use Rattle.commands.specs.Sets.{SetOf}

-- Sets: those with the same members are the same

same_set : (a b : Boards) (ns : List ℕ) → SetOf a ns → SetOf b ns → a ≡ b
same_set a b ns p q =
    let sets = same_members 64 a.set b.set p.small q.small (λ i lt. same_test (has a.set i) (has b.set i) (λ m. q.held i lt (p.named i lt m)) (λ m. p.held i lt (q.named i lt m))) in
    let tests = same_test a.beyond b.beyond (λ t. q.others.1 (p.others.0 t)) (λ t. p.others.1 (q.others.0 t)) in
    λ j. record { set = sets j; beyond = tests j }

-- Words: those of two verbs differ in their first two bytes, and those of two kinds or two pickers in their length

abbrev key : List ℕ → ℕ
key name = get_or name 0 0 * 256 + get_or name 1 0

abbrev verb_by : ℕ → Verb
verb_by k =
    cond (eqb k (key (name_of verb.New))) verb.New
    (cond (eqb k (key (name_of verb.Wire))) verb.Wire
    (cond (eqb k (key (name_of verb.Cut))) verb.Cut
    (cond (eqb k (key (name_of verb.Plant))) verb.Plant
    (cond (eqb k (key (name_of verb.Turn))) verb.Turn
    (cond (eqb k (key (name_of verb.Settle))) verb.Settle
    (cond (eqb k (key (name_of verb.Tally))) verb.Tally verb.Show))))))

by_name : (v : Verb) → verb_by (key (name_of v)) ≡ v
by_name verb.New = refl
by_name verb.Wire = refl
by_name verb.Cut = refl
by_name verb.Plant = refl
by_name verb.Turn = refl
by_name verb.Settle = refl
by_name verb.Tally = refl
by_name verb.Show = refl

same_verb : (v w : Verb) → name_of v ≡ name_of w → v ≡ w
same_verb v w e = sym (by_name v) ∙ ap (λ name. verb_by (key name)) e ∙ by_name w

same_kind : (k l : Kind) → kind_name k ≡ kind_name l → k ≡ l
same_kind Metres Metres e = refl
same_kind Metres Grade e = absurd (omega (arith, ap length e))
same_kind Grade Metres e = absurd (omega (arith, ap length e))
same_kind Grade Grade e = refl

same_picker : (p q : PickerName) → picker_name p ≡ picker_name q → p ≡ q
same_picker All All e = refl
same_picker All Ring e = absurd (omega (arith, ap length e))
same_picker Ring All e = absurd (omega (arith, ap length e))
same_picker Ring Ring e = refl

-- Fields: they say one command of a verb

same_numbers : (ms ns : List ℕ) (fs : List (List ℕ)) → Numerals ms fs → Numerals ns fs → ms ≡ ns
same_numbers [] [] fs p q = refl
same_numbers [] (n ∷ ns) [] p q = absurd q
same_numbers [] (n ∷ ns) (f ∷ fs) p q = absurd p
same_numbers (m ∷ ms) [] [] p q = absurd p
same_numbers (m ∷ ms) [] (f ∷ fs) p q = absurd q
same_numbers (m ∷ ms) (n ∷ ns) [] p q = absurd p
same_numbers (m ∷ ms) (n ∷ ns) (f ∷ fs) p q =
    let first = same_number f m n p.0 q.0 in
    let more = same_numbers ms ns fs p.1 q.1 in
    λ j. first j ∷ more j

-- the values of a command: its kind of length, its picker, its numbers and its boards, where it has such
record Values : Type 0 where
  kind : Kind
  picker : PickerName
  numbers : List ℕ
  boards : Boards

abbrev none : Boards
none = record { set = 0; beyond = false }

abbrev plain : List ℕ → Values
plain ns = record { kind = Metres; picker = All; numbers = ns; boards = none }

abbrev values_of : Command → Values
values_of (command.New n k) = record { kind = k; picker = All; numbers = n ∷ []; boards = none }
values_of (command.Wire a p b q w) = plain (a ∷ p ∷ b ∷ q ∷ w ∷ [])
values_of (command.Cut a p) = plain (a ∷ p ∷ [])
values_of (command.Plant b s p code) = plain (b ∷ s ∷ p ∷ code ∷ [])
values_of (command.Turn boards) = record { kind = Metres; picker = All; numbers = []; boards = boards }
values_of (command.Settle p) = record { kind = Metres; picker = p; numbers = []; boards = none }
values_of (command.Tally b) = plain (b ∷ [])
values_of command.Show = plain []

abbrev rebuild : Verb → Values → Command
rebuild verb.New v = command.New (get_or v.numbers 0 0) v.kind
rebuild verb.Wire v = command.Wire (get_or v.numbers 0 0) (get_or v.numbers 1 0) (get_or v.numbers 2 0) (get_or v.numbers 3 0) (get_or v.numbers 4 0)
rebuild verb.Cut v = command.Cut (get_or v.numbers 0 0) (get_or v.numbers 1 0)
rebuild verb.Plant v = command.Plant (get_or v.numbers 0 0) (get_or v.numbers 1 0) (get_or v.numbers 2 0) (get_or v.numbers 3 0)
rebuild verb.Turn v = command.Turn v.boards
rebuild verb.Settle v = command.Settle v.picker
rebuild verb.Tally v = command.Tally (get_or v.numbers 0 0)
rebuild verb.Show v = command.Show

rebuilt : (c : Command) → rebuild (verb_of c) (values_of c) ≡ c
rebuilt (command.New n k) = refl
rebuilt (command.Wire a p b q w) = refl
rebuilt (command.Cut a p) = refl
rebuilt (command.Plant b s p code) = refl
rebuilt (command.Turn boards) = refl
rebuilt (command.Settle p) = refl
rebuilt (command.Tally b) = refl
rebuilt command.Show = refl

record Opens (v : Values) (fs : List (List ℕ)) : Type 0 where
  n : ℕ
  f : List ℕ
  fields : fs ≡ f ∷ kind_name v.kind ∷ []
  number : Numeral f n
  values : v ≡ record { kind = v.kind; picker = All; numbers = n ∷ []; boards = none }

record Turns (v : Values) (fs : List (List ℕ)) : Type 0 where
  ns : List ℕ
  numbers : Numerals ns fs
  boards : SetOf v.boards ns
  values : v ≡ record { kind = Metres; picker = All; numbers = []; boards = v.boards }

record Settles (v : Values) (fs : List (List ℕ)) : Type 0 where
  fields : fs ≡ picker_name v.picker ∷ []
  values : v ≡ record { kind = Metres; picker = v.picker; numbers = []; boards = none }

record Lists (v : Values) (fs : List (List ℕ)) : Type 0 where
  numbers : Numerals v.numbers fs
  values : v ≡ plain v.numbers

abbrev Holds : Verb → Values → List (List ℕ) → Type 0
Holds verb.New v fs = Opens v fs
Holds verb.Wire v fs = Lists v fs
Holds verb.Cut v fs = Lists v fs
Holds verb.Plant v fs = Lists v fs
Holds verb.Turn v fs = Turns v fs
Holds verb.Settle v fs = Settles v fs
Holds verb.Tally v fs = Lists v fs
Holds verb.Show v fs = Lists v fs

says_holds : (c : Command) (fs : List (List ℕ)) → Says c fs → Holds (verb_of c) (values_of c) fs
says_holds (command.New n k) fs h = record { n = n; f = h.0; fields = h.1; number = h.2; values = refl }
says_holds (command.Wire a p b q w) fs h = record { numbers = h; values = refl }
says_holds (command.Cut a p) fs h = record { numbers = h; values = refl }
says_holds (command.Plant b s p code) fs h = record { numbers = h; values = refl }
says_holds (command.Turn boards) fs h = record { ns = h.0; numbers = h.1; boards = h.2; values = refl }
says_holds (command.Settle p) fs h = record { fields = h; values = refl }
says_holds (command.Tally b) fs h = record { numbers = h; values = refl }
says_holds command.Show fs h = record { numbers = h; values = refl }

same_opens : (v w : Values) (fs : List (List ℕ)) → Opens v fs → Opens w fs → v ≡ w
same_opens v w fs p q =
    let both : p.f ∷ kind_name v.kind ∷ [] ≡ q.f ∷ kind_name w.kind ∷ [] = sym p.fields ∙ q.fields in
    let words : p.f ≡ q.f = cc in
    let names : kind_name v.kind ≡ kind_name w.kind = cc in
    let kinds = same_kind v.kind w.kind names in
    let counts = same_number q.f p.n q.n (subst (λ f. Numeral f p.n) words p.number) q.number in
    p.values ∙ (λ j. record { kind = kinds j; picker = All; numbers = counts j ∷ []; boards = none }) ∙ sym q.values

same_turns : (v w : Values) (fs : List (List ℕ)) → Turns v fs → Turns w fs → v ≡ w
same_turns v w fs p q =
    let numbers = same_numbers p.ns q.ns fs p.numbers q.numbers in
    let sets = same_set v.boards w.boards q.ns (subst (SetOf v.boards) numbers p.boards) q.boards in
    p.values ∙ (λ j. record { kind = Metres; picker = All; numbers = []; boards = sets j }) ∙ sym q.values

same_settles : (v w : Values) (fs : List (List ℕ)) → Settles v fs → Settles w fs → v ≡ w
same_settles v w fs p q =
    let both : picker_name v.picker ∷ [] ≡ picker_name w.picker ∷ [] = sym p.fields ∙ q.fields in
    let pickers = same_picker v.picker w.picker (cc) in
    p.values ∙ (λ j. record { kind = Metres; picker = pickers j; numbers = []; boards = none }) ∙ sym q.values

same_lists : (v w : Values) (fs : List (List ℕ)) → Lists v fs → Lists w fs → v ≡ w
same_lists v w fs p q = p.values ∙ ap plain (same_numbers v.numbers w.numbers fs p.numbers q.numbers) ∙ sym q.values

same_values : (x : Verb) (v w : Values) (fs : List (List ℕ)) → Holds x v fs → Holds x w fs → v ≡ w
same_values verb.New v w fs p q = same_opens v w fs p q
same_values verb.Wire v w fs p q = same_lists v w fs p q
same_values verb.Cut v w fs p q = same_lists v w fs p q
same_values verb.Plant v w fs p q = same_lists v w fs p q
same_values verb.Turn v w fs p q = same_turns v w fs p q
same_values verb.Settle v w fs p q = same_settles v w fs p q
same_values verb.Tally v w fs p q = same_lists v w fs p q
same_values verb.Show v w fs p q = same_lists v w fs p q

same_command : (c d : Command) (fs : List (List ℕ)) → verb_of c ≡ verb_of d → Says c fs → Says d fs → c ≡ d
same_command c d fs e p q =
    let values = same_values (verb_of d) (values_of c) (values_of d) fs (subst (λ x. Holds x (values_of c) fs) e (says_holds c fs p)) (says_holds d fs q) in
    sym (rebuilt c) ∙ (λ j. rebuild (e j) (values j)) ∙ rebuilt d

-- Refusals: none stands beside another, or beside a command

abbrev Fitting : List Sort → List (List ℕ) → Type 0
Fitting [] fs = Unit {0}
Fitting (s ∷ ss) [] = Unit {0}
Fitting (s ∷ ss) (f ∷ fs) = Fits s f × Fitting ss fs

no_misfit : (ss : List Sort) (fs : List (List ℕ)) (here byte : ℕ) → Fitting ss fs → Misfit ss fs here byte → ⊥
no_misfit [] fs here byte p m = m
no_misfit (s ∷ ss) [] here byte p m = m
no_misfit (s ∷ ss) (f ∷ fs) here byte p m = ⊎_elim (λ q. q.0 p.0) (λ q. no_misfit ss fs (here + length f + 1) byte p.1 q.1) m

same_misfit : (ss : List Sort) (fs : List (List ℕ)) (here a b : ℕ) → Misfit ss fs here a → Misfit ss fs here b → a ≡ b
same_misfit [] fs here a b p q = absurd p
same_misfit (s ∷ ss) [] here a b p q = absurd p
same_misfit (s ∷ ss) (f ∷ fs) here a b p q =
    ⊎_elim
    (λ x. ⊎_elim (λ y. x.1 ∙ sym y.1) (λ y. absurd (x.0 y.0)) q)
    (λ x. ⊎_elim (λ y. absurd (y.0 x.0)) (λ y. same_misfit ss fs (here + length f + 1) a b x.1 y.1) q)
    p

numbers_fit : (ns : List ℕ) (fs : List (List ℕ)) → Numerals ns fs → Fitting (replicate (length fs) numeral) fs
numbers_fit [] [] h = tt
numbers_fit [] (f ∷ fs) h = absurd h
numbers_fit (n ∷ ns) [] h = absurd h
numbers_fit (n ∷ ns) (f ∷ fs) h = ((n, h.0), numbers_fit ns fs h.1)

says_fits : (c : Command) (fs : List (List ℕ)) → Says c fs → Fitting (sorts (verb_of c) (length fs)) fs
says_fits (command.New n k) fs h = subst (Fitting (numeral ∷ kind_word ∷ [])) (sym h.1) ((n, h.2), ((k, refl), tt))
says_fits (command.Wire a p b q w) fs h = numbers_fit (a ∷ p ∷ b ∷ q ∷ w ∷ []) fs h
says_fits (command.Cut a p) fs h = numbers_fit (a ∷ p ∷ []) fs h
says_fits (command.Plant b s p code) fs h = numbers_fit (b ∷ s ∷ p ∷ code ∷ []) fs h
says_fits (command.Turn boards) fs h = numbers_fit h.0 fs h.1
says_fits (command.Settle p) fs h = subst (Fitting (picker_word ∷ [])) (sym h) ((p, refl), tt)
says_fits (command.Tally b) fs h = numbers_fit (b ∷ []) fs h
says_fits command.Show fs h = numbers_fit [] fs h

numerals_length : (ns : List ℕ) (fs : List (List ℕ)) → Numerals ns fs → length ns ≡ length fs
numerals_length [] [] h = refl
numerals_length [] (f ∷ fs) h = absurd h
numerals_length (n ∷ ns) [] h = absurd h
numerals_length (n ∷ ns) (f ∷ fs) h = omega (arith, numerals_length ns fs h.1)

says_counts : (c : Command) (fs : List (List ℕ)) → Says c fs → Counts (verb_of c) (length fs)
says_counts (command.New n k) fs h = ap length h.1
says_counts (command.Wire a p b q w) fs h = sym (numerals_length (a ∷ p ∷ b ∷ q ∷ w ∷ []) fs h)
says_counts (command.Cut a p) fs h = sym (numerals_length (a ∷ p ∷ []) fs h)
says_counts (command.Plant b s p code) fs h = sym (numerals_length (b ∷ s ∷ p ∷ code ∷ []) fs h)
says_counts (command.Turn boards) fs h = tt
says_counts (command.Settle p) fs h = ap length h
says_counts (command.Tally b) fs h = sym (numerals_length (b ∷ []) fs h)
says_counts command.Show fs h = sym (numerals_length [] fs h)

well_formed : (line word : List ℕ) (fs : List (List ℕ)) → Written line word fs → Reading line (Err Malformed) → ⊥
well_formed line word fs h m = ⊎_elim (λ long. omega (arith, h.0)) (λ no. no (word ∷ fs) h.1) m

same_written : (line v w : List ℕ) (fs gs : List (List ℕ)) → Written line v fs → Written line w gs → (v ≡ w) × (fs ≡ gs)
same_written line v w fs gs p q = let both = same_words (v ∷ fs) (w ∷ gs) line p.1.1 q.1.1 in (cc, cc)

-- what is said of a line that begins with a verb's word: the verb, its fields, and whether they are as many as it takes
record Verbed (line : List ℕ) : Type 0 where
  v : Verb
  fs : List (List ℕ)
  written : Written line (name_of v) fs

same_verbed : (line : List ℕ) (a b : Verbed line) → (a.v ≡ b.v) × (a.fs ≡ b.fs)
same_verbed line a b =
    let both = same_written line (name_of a.v) (name_of b.v) a.fs b.fs a.written b.written in
    (same_verb a.v b.v both.0, both.1)

unknown : (line word : List ℕ) (gs : List (List ℕ)) → Written line word gs → ((v : Verb) → word ≡ name_of v → ⊥) → Verbed line → ⊥
unknown line word gs h other b = other b.v (same_written line word (name_of b.v) gs b.fs h b.written).0

miscounted : (line : List ℕ) (a b : Verbed line) → (Counts a.v (length a.fs) → ⊥) → Counts b.v (length b.fs) → ⊥
miscounted line a b off h =
    let same = same_verbed line b a in
    off (subst (λ fs. Counts a.v (length fs)) same.1 (subst (λ v. Counts v (length b.fs)) same.0 h))

misfitting : (line : List ℕ) (a b : Verbed line) (byte : ℕ) → Misfit (sorts a.v (length a.fs)) a.fs (length (name_of a.v) + 2) byte → Misfit (sorts b.v (length b.fs)) b.fs (length (name_of b.v) + 2) byte
misfitting line a b byte m =
    let same = same_verbed line a b in
    subst (λ fs. Misfit (sorts b.v (length fs)) fs (length (name_of b.v) + 2) byte) same.1
    (subst (λ v. Misfit (sorts v (length a.fs)) a.fs (length (name_of v) + 2) byte) same.0 m)

abbrev of_count : {line : List ℕ} → Reading line (Err Count) → Verbed line
of_count h = record { v = h.0; fs = h.1; written = h.2 }

abbrev of_field : {line : List ℕ} (byte : ℕ) → Reading line (Err (Field byte)) → Verbed line
of_field byte h = record { v = h.0; fs = h.1; written = h.2 }

abbrev of_command : {line : List ℕ} (c : Command) → Reading line (Ok c) → Verbed line
of_command c h = record { v = verb_of c; fs = h.0; written = h.1 }

pub same_reading : (line : List ℕ) (a b : Result Command Misread) → Reading line a → Reading line b → a ≡ b
same_reading line (Err Malformed) (Err Malformed) p q = refl
same_reading line (Err Malformed) (Err Unknown) p q = absurd (well_formed line q.0 q.1 q.2 p)
same_reading line (Err Malformed) (Err Count) p q = absurd (well_formed line (name_of q.0) q.1 q.2 p)
same_reading line (Err Malformed) (Err (Field b)) p q = absurd (well_formed line (name_of q.0) q.1 q.2 p)
same_reading line (Err Malformed) (Ok d) p q = absurd (well_formed line (name_of (verb_of d)) q.0 q.1 p)
same_reading line (Err Unknown) (Err Malformed) p q = absurd (well_formed line p.0 p.1 p.2 q)
same_reading line (Err Unknown) (Err Unknown) p q = refl
same_reading line (Err Unknown) (Err Count) p q = absurd (unknown line p.0 p.1 p.2 p.3 (of_count q))
same_reading line (Err Unknown) (Err (Field b)) p q = absurd (unknown line p.0 p.1 p.2 p.3 (of_field b q))
same_reading line (Err Unknown) (Ok d) p q = absurd (unknown line p.0 p.1 p.2 p.3 (of_command d q))
same_reading line (Err Count) (Err Malformed) p q = absurd (well_formed line (name_of p.0) p.1 p.2 q)
same_reading line (Err Count) (Err Unknown) p q = absurd (unknown line q.0 q.1 q.2 q.3 (of_count p))
same_reading line (Err Count) (Err Count) p q = refl
same_reading line (Err Count) (Err (Field b)) p q = absurd (miscounted line (of_count p) (of_field b q) p.3 q.3)
same_reading line (Err Count) (Ok d) p q = absurd (miscounted line (of_count p) (of_command d q) p.3 (says_counts d q.0 q.2))
same_reading line (Err (Field a)) (Err Malformed) p q = absurd (well_formed line (name_of p.0) p.1 p.2 q)
same_reading line (Err (Field a)) (Err Unknown) p q = absurd (unknown line q.0 q.1 q.2 q.3 (of_field a p))
same_reading line (Err (Field a)) (Err Count) p q = absurd (miscounted line (of_count q) (of_field a p) q.3 p.3)
same_reading line (Err (Field a)) (Err (Field b)) p q =
    let m = misfitting line (of_field a p) (of_field b q) a p.4 in
    ap (λ byte. Err (Field byte)) (same_misfit (sorts q.0 (length q.1)) q.1 (length (name_of q.0) + 2) a b m q.4)
same_reading line (Err (Field a)) (Ok d) p q =
    absurd (no_misfit (sorts (verb_of d) (length q.0)) q.0 (length (name_of (verb_of d)) + 2) a (says_fits d q.0 q.2) (misfitting line (of_field a p) (of_command d q) a p.4))
same_reading line (Ok c) (Err Malformed) p q = absurd (well_formed line (name_of (verb_of c)) p.0 p.1 q)
same_reading line (Ok c) (Err Unknown) p q = absurd (unknown line q.0 q.1 q.2 q.3 (of_command c p))
same_reading line (Ok c) (Err Count) p q = absurd (miscounted line (of_count q) (of_command c p) q.3 (says_counts c p.0 p.2))
same_reading line (Ok c) (Err (Field b)) p q =
    absurd (no_misfit (sorts (verb_of c) (length p.0)) p.0 (length (name_of (verb_of c)) + 2) b (says_fits c p.0 p.2) (misfitting line (of_field b q) (of_command c p) b q.4))
same_reading line (Ok c) (Ok d) p q =
    let same = same_verbed line (of_command c p) (of_command d q) in
    ap Ok (same_command c d q.0 same.0 (subst (Says c) same.1 p.2) q.2)
