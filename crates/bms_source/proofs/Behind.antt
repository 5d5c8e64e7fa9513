-- Rows of the front of lines, before those of what is left.
use Rattle.std.proofs.Common.{List, ◌++◌}
use Rattle.std.specs.Prelude.{Result, Ok, Err}
use Rattle.bms_source.specs.Told.{Told}
use Rattle.bms_source.specs.Rows.{Line}

abbrev pub behind : List Line → Result (List Line) Told → Result (List Line) Told
behind front (Ok rows) = Ok (front ++ rows)
behind front (Err e) = Err e
