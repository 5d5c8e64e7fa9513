use Rattle.std.proofs.Common.{◌≡◌, ◌++◌, map, drop}
use Rattle.serde_json.specs.View.{view}
use Rattle.cli_findings.specs.Sarif.{rule_data}
use Rattle.cli_findings.proofs.sarif.rules_of.Given as goal

abbrev pub invariant-loop-rule : goal.invariant-loop-rule
invariant-loop-rule l = map view l.values.items ++ map rule_data (drop l.rule-index l.rules) ≡ map rule_data l.fn.rules
