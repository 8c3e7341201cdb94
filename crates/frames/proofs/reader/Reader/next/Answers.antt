use Rattle.std.proofs.Common.{Some, None, Ok, Err, refl, arith, rules}
use Rattle.std.proofs.lemmas.Grind.{common_steps}
use Rattle.frames.proofs.Streams.{gives, repeats}
use Rattle.frames.proofs.reader.Reader.next.Goals as goal

pub returns-then-is_empty-clause-stream : goal.returns-then-is_empty-clause-stream
returns-then-is_empty-clause-stream g c = gives g.L.Length.lawful c.args.self.now None c.args.self.now (grind (arith, common_steps), refl)

pub returns-in-Ok-clause-stream : goal.returns-in-Ok-clause-stream
returns-in-Ok-clause-stream g c = gives g.L.Length.lawful c.args.self.now (Some (Ok c.in-Ok.framed.item)) _ (search rules)

pub returns-in-Err-clause-again : goal.returns-in-Err-clause-again
returns-in-Err-clause-again g c = repeats g.L.Length.lawful c.args.self.now (Some (Err (record { place = c.args.self.now.place; fault = c.in-Err.fault }))) c.args.self.now (search rules)

pub returns-in-Err-clause-stream : goal.returns-in-Err-clause-stream
returns-in-Err-clause-stream g c = gives g.L.Length.lawful c.args.self.now (Some (Err (record { place = c.args.self.now.place; fault = c.in-Err.fault }))) c.args.self.now (search rules)
