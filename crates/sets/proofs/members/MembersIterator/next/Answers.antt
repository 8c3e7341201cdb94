use Rattle.std.proofs.Common.{refl, rules}
use Rattle.sets.proofs.Bits.{in_sixty_four}
use Rattle.sets.proofs.members.MembersIterator.next.Goals as goal

pub overflow_add-self : goal.overflow_add-self
overflow_add-self c = let inside = in_sixty_four c.args.self.now.set c.in_ok-board.board c.fits-self.0.1 c.in_ok-board.ensures.there in search rules

pub returns-clause-steps : goal.returns-clause-steps
returns-clause-steps c = (c.in_ok-board.ensures, refl, refl, in_sixty_four c.args.self.now.set c.in_ok-board.board c.fits-self.0.1 c.in_ok-board.ensures.there)

pub returns-clause-goes : goal.returns-clause-goes
returns-clause-goes c = let inside = in_sixty_four c.args.self.now.set c.in_ok-board.board c.fits-self.0.1 c.in_ok-board.ensures.there in search rules
