use Rattle.std.proofs.Common.{◌≡◌, ℕ, ◌≤◌, List, length, Some, None, sym, subst, arith, rules}
use Rattle.std.proofs.lemmas.Bool.{both_ways}
use Rattle.std.proofs.lemmas.Option.{MatchOption-at_some, MatchOption-at_none}
use Rattle.std.proofs.lemmas.Result.{err_from_is_err_and}
use Rattle.words.specs.Words.{Counted}
use Rattle.commands.specs.declared.misread.Misread.TheVariants.{Unknown}
use Rattle.commands.specs.Fields.{Counts, name_of, sorts}
use Rattle.commands.specs.Steps.{Answered}
use Rattle.commands.proofs.Whole.{Parts, parts, at_byte, reading}
use Rattle.commands.proofs.read.read_command.Goals as goal
use Rattle.commands.proofs.read.read_command.Goals.{In_ok-count, In_ok-verb}

counted : (c : In_ok-count) → Counted c.args.line.now (Some c.in_ok-count.count)
counted c = let some : c.word_count.result ≡ Some c.in_ok-count.count = grind arith in subst (Counted c.args.line.now) some c.word_count.ensures

pub returns-in_err-verb : goal.returns-in_err-verb
returns-in_err-verb c =
    let e = err_from_is_err_and c.from_residual-in_err-verb.result c.from_residual-in_err-verb.ensures.1 in
    let unknown : Unknown ≡ c.in_err-verb.field-0.0 = grind arith in
    let none : c.verb_of.result ≡ None = grind arith in
    let all = counted (goal.at.returns-in_err-verb c).In_ok-count in
    let p = parts c.args.line.now c.first.result.0.now c.first.result.1.now c.in_ok-count.count all.0 (omega arith) c.first.ensures all.1 all.2 in
    rw (e.1, e.2, ← unknown) (c.first.result.0.now, p.0, p.1.written, MatchOption-at_none _ _ none c.verb_of.ensures)

-- the words of a line that begins with the word of a verb
verbed : (c : In_ok-verb) → (fs : List (List ℕ)) × Parts c.args.line.now (name_of c.in_ok-verb.verb) c.first.result.1.now c.in_ok-count.count fs
verbed c =
    let all = counted (goal.at.In_ok-verb c).In_ok-count in
    let p = parts c.args.line.now c.first.result.0.now c.first.result.1.now c.in_ok-count.count all.0 (omega arith) c.first.ensures all.1 all.2 in
    let named : c.verb_of.result ≡ Some c.in_ok-verb.verb = grind arith in
    let is = MatchOption-at_some _ _ _ named c.verb_of.ensures in
    (p.0, subst (λ w. Parts c.args.line.now w c.first.result.1.now c.in_ok-count.count p.0) is p.1)

pub returns-then-not-takes : goal.returns-then-not-takes
returns-then-not-takes c =
    let p = verbed (goal.at.returns-then-not-takes c).In_ok-verb in
    let v = c.in_ok-verb.verb in
    (v, p.0, p.1.written, λ k. both_ways c.takes.result c.if-not-takes.true (c.takes.ensures.1 (subst (Counts v) p.1.many k)))

pub map_err-requires : goal.map_err-requires
map_err-requires c = λ left is.
    let p = verbed (goal.at.map_err-requires c).In_ok-verb in
    let v = c.in_ok-verb.verb in
    let takes = subst (Counts v) (sym p.1.many) (c.takes.ensures.0 c.if-not-takes.false) in
    let answered = subst (Answered v c.first.result.1.now) is c.command_of.ensures in
    let within : left ≤ length c.args.line.now = (at_byte c.args.line.now (name_of v) (sorts v (length p.0)) p.0 left p.1.written (answered p.0 p.1.over takes)).0 in
    search rules

pub returns : goal.returns
returns c =
    let p = verbed (goal.at.returns c).In_ok-verb in
    let v = c.in_ok-verb.verb in
    let takes = subst (Counts v) (sym p.1.many) (c.takes.ensures.0 c.if-not-takes.false) in
    reading c.args.line.now v p.0 c.first.result.1.now c.in_ok-count.count p.1 takes c.command_of.result c.command_of.ensures c.map_err.result (λ x is. search rules) (λ left is. search rules)
