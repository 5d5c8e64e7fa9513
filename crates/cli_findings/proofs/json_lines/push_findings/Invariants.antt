use Rattle.std.proofs.Common.{◌≡◌, ◌++◌, drop}
use Rattle.std.specs.String.{string_bytes}
use Rattle.std.specs.List.{flat_map}
use Rattle.cli_findings.specs.Report.{finding_line}
use Rattle.cli_findings.proofs.json_lines.push_findings.Given as goal

abbrev pub invariant-loop-finding : goal.invariant-loop-finding
invariant-loop-finding l =
    record {
      pushed : string_bytes l.out ++ flat_map (finding_line l.layout l.numbers l.fn.rehearsal) (drop l.finding-index l.findings)
          ≡ string_bytes l.fn.out ++ flat_map (finding_line l.layout l.numbers l.fn.rehearsal) l.findings;
      kept : l.rehearsal ≡ l.fn.rehearsal;
    }
