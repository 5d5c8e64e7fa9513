use Rattle.std.proofs.Common.{◌≡◌, ◌++◌, false, map, drop}
use Rattle.std.specs.String.{string_bytes}
use Rattle.serde_json.specs.View.{items_of}
use Rattle.serde_json.specs.Written.{items_text}
use Rattle.cli_findings.specs.Sarif.{finding_result}
use Rattle.cli_findings.proofs.written_log.push_results.Given as goal

abbrev pub invariant-loop-finding : goal.invariant-loop-finding
invariant-loop-finding l =
    string_bytes l.out ++ items_text l.later (items_of (map (finding_result l.front l.path l.layout l.standing) (drop l.finding-index l.findings)))
    ≡ string_bytes l.fn.out ++ items_text false (items_of (map (finding_result l.fn.front l.fn.path l.fn.layout l.fn.standing) l.fn.findings))
