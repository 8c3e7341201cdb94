-- Going through the lines of a script.
use Rattle.std.specs.Prelude.{◌≡◌, ℕ, List, [], Some, None, Option}
use Rattle.std.specs.Borrow.{Bor}
use Rattle.words.specs.Lines.{FirstLine}
use Rattle.words.specs.declared.lines.Lines.{Lines}

-- a step gives the first line of what is left, and leaves what follows it; no line is given once nothing is left
abbrev pub NextLine : Lines → Option (Bor (List ℕ)) → Lines → Type 0
NextLine before None after = (before.rest.now ≡ []) × (after.rest.now ≡ [])
NextLine before (Some line) after = FirstLine line.now after.rest.now before.rest.now
