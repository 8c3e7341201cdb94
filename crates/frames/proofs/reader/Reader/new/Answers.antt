use Rattle.std.proofs.Common.{refl}
use Rattle.frames.proofs.Totals.{total}
use Rattle.frames.proofs.reader.Reader.new.Goals as goal

pub returns : goal.returns
returns g c = record { input_is = refl; place_is = refl; meant = total g.L.Length.lawful _ }
