use Rattle.std.proofs.Common.{◌≡◌, ℕ, ◌<◌, ◌||◌, ◌&&◌, eqb, refl, ap, ◌∙◌, lt-ltb, rules}
use Rattle.std.proofs.Math.Bool.{and-true}
use Rattle.sets.specs.Sets.{has}
use Rattle.board.specs.Hear.{Audible, IsFrame}
use Rattle.board.proofs.states.Listening.hear.Goals as goal

pub returns : goal.returns
returns g c =
    let audible : Audible c.args.self c.args.ear.now c.args.port = search rules in
    let frame : IsFrame g.L.Length.meaning c.args.frame.now = search rules in
    let same : c.in-Some.ear.now ≡ c.args.ear.now = search rules in
    let small : c.args.port < 64 = search rules in
    let one : (p : ℕ) → has c.with.result p ≡ (has c.args.self.heard p || eqb p c.args.port) = λ p. c.with.ensures p ∙ ap (λ b. has c.args.self.heard p || b) (ap (λ b. eqb p c.args.port && b) (lt-ltb _ _ small) ∙ and-true _) in
    (audible, frame, record { same = refl; heard = one }, rw same at c.put_frame.ensures)
