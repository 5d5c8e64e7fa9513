use Rattle.std.proofs.Common.{◌≡◌, drop}
use Rattle.cli_findings.specs.FieldName.{is_taken}
use Rattle.cli_findings.specs.Help.{names_in}
use Rattle.cli_findings.proofs.free_name.is_taken.Given as goal

abbrev pub invariant-loop-entry : goal.invariant-loop-entry
invariant-loop-entry l = is_taken (names_in (drop l.entry-index l.entries)) l.name ≡ is_taken (names_in l.entries) l.name
