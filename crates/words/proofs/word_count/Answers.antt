use Rattle.std.proofs.Common.{Some, rules, eqb, sym, ◌∙◌, subst, arith}
use Rattle.std.specs.List.{AllByRecursion}
use Rattle.std.proofs.lemmas.Bool.{both_ways}
use Rattle.std.proofs.lemmas.Iterator.Splits.{YieldsList-from_slice_split}
use Rattle.std.proofs.lemmas.Iterator.Consumers.{YieldsList-turn, YieldsList-end}
use borrow.Author.Tests.{tests}
use Rattle.words.specs.Words.{Word, Counted}
use Rattle.words.proofs.Counting.{pieces, pieces_words, no_words}
use Rattle.words.proofs.word_count.Goals as goal

pub returns-then-not-is_word : goal.returns-then-not-is_word
returns-then-not-is_word c =
    let gives = YieldsList-from_slice_split _ (λ b. eqb b 32) c.args.line.now (search rules) (search rules) (search rules) (λ x b q k. search (rules, tests)) in
    let turn = YieldsList-turn gives c.loop-word.yielded _ c.loop-word.yielded_by _ _ c.in-Some.word c.in-Some.is c.next.ensures.steps in
    no_words c.args.line.now _ c.in-Some.word.now turn.0 turn.1 (λ w. both_ways c.is_word.result c.if-not-is_word.true (c.is_word.ensures.1 w))

pub returns : goal.returns
returns c =
    let gives = YieldsList-from_slice_split _ (λ b. eqb b 32) c.args.line.now (search rules) (search rules) (search rules) (λ x b q k. search (rules, tests)) in
    let end = YieldsList-end gives c.loop-word.yielded _ c.loop-word.yielded_by _ _ c.in-None.is c.next.ensures.steps in
    let all : Counted c.args.line.now (Some c.loop-word.count) = (pieces c.args.line.now, pieces_words c.args.line.now (subst (AllByRecursion Word) end.0 c.loop-word.invariant.1), sym (c.loop-word.invariant.0 ∙ end.1)) in
    search (all, arith)
