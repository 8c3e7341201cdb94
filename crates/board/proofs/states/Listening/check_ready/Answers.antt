use Rattle.std.proofs.Common.{◌≡◌, length, rules}
use Rattle.board.proofs.states.Listening.check_ready.Goals as goal

pub returns : goal.returns
returns g c =
    let same : c.in_ok-whole.whole.now ≡ c.args.ear.now = search rules in
    let long : length c.args.ear.now ≡ 128 = search rules in
    (record { whole = long; heard = c.if-not-all_heard.ensures; frames = rw same at c.in_ok-check_slots.ensures }, same)
