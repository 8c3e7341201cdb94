use Rattle.std.proofs.Common.{◌<◌, sym, ap, ◌∙◌}
use Rattle.std.proofs.lemmas.Nat.{one_shl}
use Rattle.sets.proofs.Bits.{in_sixty_four}
use Rattle.pickers.specs.Choices.{choose_one}
use Rattle.pickers.specs.Seeking.{follows}
use Rattle.pickers.proofs.ring.RingPicker.ask.Goals as goal

small : (c : goal.After-self-1) → c.in-Some.board < 64
small c = in_sixty_four c.args.boards c.in-Some.board c.ranges.boards.fits (follows c.args.boards c.args.self.now.last c.in-Some.board (sym c.in-Some.ensures))

pub overflow_shl-result : goal.overflow_shl-result
overflow_shl-result c = small c

pub returns : goal.returns
returns c =
    let is = c.in-Some.ensures in
    record {
      answer = one_shl c.in-Some.board 64 (small c) ∙ ap (λ o. (choose_one c.args.self.now o).0) is;
      next = ap (λ o. (choose_one c.args.self.now o).1) is;
    }
