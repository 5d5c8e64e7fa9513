use Rattle.std.proofs.Common.{◌≡◌, ◌++◌, drop}
use Rattle.cli_commands.specs.Held.{records_held}
use Rattle.cli_commands.specs.TurnsHeld.{turns_held}
use Rattle.cli_reports.specs.Stop.{all_records}
use Rattle.cli_reports.proofs.stop.all_records.Given as goal

abbrev pub invariant-loop-records : goal.invariant-loop-records
invariant-loop-records l =
    records_held l.all.items ++ all_records (turns_held (drop l.records-index l.turns)) ≡ all_records (turns_held l.turns)
