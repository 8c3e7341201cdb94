use Rattle.std.proofs.Common.{◌-◌, length}
use Rattle.frames_demo.proofs.show_stream.Given as goal

abbrev pub decreases-loop-next : goal.decreases-loop-next
decreases-loop-next l = length l.reader.input.now - l.reader.place
