use Rattle.std.proofs.Common.{◌≡◌, ◌+◌, ◌++◌, drop, map}
use Rattle.std.specs.String.{string_bytes}
use Rattle.cli_pictures.specs.Notes.{findings_listed}
use Rattle.cli_pictures.proofs.list.findings_listed.Given as goal

abbrev pub invariant-loop-index : goal.invariant-loop-index
invariant-loop-index l =
    map string_bytes l.lines.items ++ findings_listed l.entries (l.index + 1) (drop l.index l.findings) ≡ findings_listed l.entries 1 l.findings
