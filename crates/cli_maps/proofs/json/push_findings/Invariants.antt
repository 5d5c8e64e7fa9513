use Rattle.std.proofs.Common.{◌≡◌, ◌++◌, map, drop}
use Rattle.std.specs.List.{flat_map}
use Rattle.std.specs.String.{string_bytes}
use Rattle.cli_maps.specs.Json.{finding_line}
use Rattle.cli_maps.proofs.json.push_findings.Given as goal

abbrev pub invariant-loop-finding : goal.invariant-loop-finding
invariant-loop-finding l =
    record {
      pushed : string_bytes l.out ++ flat_map (finding_line l.path (map (λ line. line.now) l.lines) l.map l.layout l.fn.rehearsal) (drop l.finding-index l.findings)
          ≡ string_bytes l.fn.out ++ flat_map (finding_line l.path (map (λ line. line.now) l.lines) l.map l.layout l.fn.rehearsal) l.findings;
      kept : l.rehearsal ≡ l.fn.rehearsal;
    }
