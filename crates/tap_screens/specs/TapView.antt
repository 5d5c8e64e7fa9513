-- What is asked of a session's screens as the program holds it.
use Rattle.std.specs.Prelude.{Option, Some, None}
use Rattle.tap_screens.specs.declared.tap.Asked as held
use Rattle.tap_screens.specs.FolderView.{folder_seen}
use Rattle.tap_screens.specs.Taps.{Asked}

abbrev pub asked_seen : Option held.Asked → Option Asked
asked_seen None = None
asked_seen (Some asked) = Some (record { layouts = folder_seen asked.layouts; leaves = asked.leaves })
