use Rattle.std.proofs.Common.{◌≡◌, ◌+◌, ◌<◌, ◌++◌, true, false, drop, sym, ap, ◌∙◌, subst, arith, rules}
use Rattle.board.specs.Station.{wired_at}
use Rattle.board.specs.Tell.{frames_below}
use Rattle.board.proofs.Telling.{wired_few, wired_next, wired_room, overwritten, one_told, none_told}
use Rattle.board.proofs.tell.write_frames.Goals as goal
use Rattle.board.proofs.tell.write_frames.Goals.{then-wired+in-Some, else-wired, else-wired-via-else-wired, else-wired-via-then-wired+in-None-1}

pub overflow_add-size : goal.overflow_add-size
overflow_add-size g c =
    let wired : wired_at c.args.ports c.loop-port.port ≡ true = search rules in
    let room = wired_room c.args.ports c.loop-port.port (omega arith) wired in
    let few = wired_few c.args.ports 8 in
    omega arith

pub slice_bounds-copy_from_slice-end : goal.slice_bounds-copy_from_slice-end
slice_bounds-copy_from_slice-end g c =
    let wired : wired_at c.args.ports c.loop-port.port ≡ true = search rules in
    let room = wired_room c.args.ports c.loop-port.port (omega arith) wired in
    omega arith

pub loop-port-preserved : goal.loop-port-preserved
loop-port-preserved g c =
    let k = g.L.Length.meaning in
    let own = c.args.own in
    let s = c.args.ports in
    let port = c.loop-port.port in
    let size = c.loop-port.size in
    let out = c.args.out.now in
    let told = c.loop-port.invariant in
    elim c.if-wired.branch [
      | then-wired+in-Some w ↦
          (let wired : wired_at s port ≡ true = ap (wired_at s) (sym c.from.ensures) ∙ sym w.if-wired.ensures in
          let next = wired_next s port true wired in
          let wrote = w.out-is ∙ overwritten c.loop-port.out _ _ size (w.copy_from_slice.ensures.after ∙ w.in-Some.ensures.frame) in
          (omega (arith, w.size-is), subst (λ n. c.if-wired.out ≡ frames_below k own s (port + 1) ++ drop n out) (sym w.size-is) (one_told k own s port size out c.loop-port.out _ wired told.0 told.1 wrote)))
      | else-wired w ↦
          elim w.else-wired.branch [
            | else-wired-via-else-wired v ↦
                (let wired : wired_at s port ≡ false = ap (wired_at s) (sym c.from.ensures) ∙ sym v.if-wired.ensures in
                let next = wired_next s port false wired in
                let same = w.out-is ∙ none_told k own s port size out c.loop-port.out wired told.1 in
                (omega (arith, w.size-is), subst (λ n. c.if-wired.out ≡ frames_below k own s (port + 1) ++ drop n out) (sym w.size-is) same))
            | else-wired-via-then-wired+in-None-1 v ↦ (let far : 7 < port = search rules in absurd (omega arith))
          ]
    ]
