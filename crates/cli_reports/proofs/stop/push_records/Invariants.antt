use Rattle.std.proofs.Common.{◌≡◌, ◌++◌, drop}
use Rattle.cli_commands.specs.Held.{records_held}
use Rattle.cli_reports.proofs.stop.push_records.Given as goal

abbrev pub invariant-loop-bytes : goal.invariant-loop-bytes
invariant-loop-bytes l =
    records_held l.all.items ++ records_held (drop l.bytes-index l.records) ≡ records_held l.fn.all.items ++ records_held l.records
