use Rattle.hall.proofs.CableLaw.{empty_rows, empty_free}
use Rattle.hall.proofs.cabling.cables.no_cables.Goals as goal

pub returns : goal.returns
returns c = record { rows = empty_rows; free = empty_free }
