use Rattle.std.proofs.Common.{Some, Ok, refl, subst, rules}
use Rattle.session.specs.Answers.{Does}
use Rattle.session.proofs.Answering.{does_other}
use Rattle.session.proofs.session.Session.reply.Goals as goal

pub returns : goal.returns
returns c =
    let command = c.in_ok-command.command in
    let r = c.obey.result in
    let after = Some c.obey.new.self in (
      Ok command,
      c.in_ok-command.ensures,
      subst (λ before. Does command before r after) (search rules)
          (does_other command (Some c.in_ok-hall.hall.now) r after c.in_default.not-New (c.obey.new.self, refl, c.obey.ensures)),
    )
