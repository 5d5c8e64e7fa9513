use Rattle.std.proofs.Common.{◌≡◌, drop}
use Rattle.ds_terminal.specs.Runs.{all_shown}
use Rattle.cli_commands.specs.Held.{records_held}
use Rattle.cli_commands.proofs.shown.show_all.Given as goal

abbrev pub invariant-loop-index : goal.invariant-loop-index
invariant-loop-index l = all_shown l.index l.terminal (records_held (drop l.index l.records)) ≡ all_shown 0 l.fn.terminal (records_held l.records)
