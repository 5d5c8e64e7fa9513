use Rattle.std.proofs.Common.{◌≡◌, ◌++◌, take}
use Rattle.cli_scripts.proofs.desk.add_screens.Given as goal

abbrev pub invariant-screens : goal.invariant-screens
invariant-screens l = l.history.items ≡ l.initial.history.items ++ take l.screen-index l.screens
