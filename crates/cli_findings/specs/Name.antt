-- The word by which tools know a finding: the name of its rule.
use Rattle.std.specs.Prelude.{ℕ, List}
use Rattle.scr_check.specs.declared.finding.Finding.{Finding}
use Rattle.cli_findings.specs.Rule.{rule_of, rule_name}

abbrev pub name_of : Finding → List ℕ
name_of finding = rule_name (rule_of finding)
