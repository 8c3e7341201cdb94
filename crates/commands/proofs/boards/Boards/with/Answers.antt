use Rattle.std.proofs.Common.{◌||◌, leb, sym, ap, ◌∙◌, arith}
use Rattle.std.proofs.lemmas.Bool.{or_left}
use Rattle.commands.proofs.Members.{set_more}
use Rattle.commands.proofs.boards.Boards.with.Goals as goal

pub returns-then-self : goal.returns-then-self
returns-then-self c = λ ns h.
    let kept = c.if-self.true ∙ sym (or_left c.args.self.beyond (leb 64 c.args.board) c.if-self.true) in
    set_more c.args.self _ ns c.args.board (omega arith) c.with.ensures kept h

pub returns-else-self : goal.returns-else-self
returns-else-self c = λ ns h.
    let told = sym (ap (λ t. t || leb 64 c.args.board) c.if-self.false) in
    set_more c.args.self _ ns c.args.board (omega arith) c.with.ensures told h
