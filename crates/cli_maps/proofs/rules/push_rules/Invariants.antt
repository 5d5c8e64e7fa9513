use Rattle.std.proofs.Common.{◌≡◌, ◌++◌, map, drop}
use Rattle.serde_json.specs.View.{view}
use Rattle.cli_maps.specs.Rules.{map_rule_data}
use Rattle.cli_maps.proofs.rules.push_rules.Given as goal

abbrev pub invariant-loop-rule : goal.invariant-loop-rule
invariant-loop-rule l =
    map view l.values.items ++ map map_rule_data (drop l.rule-index l.rules) ≡ map view l.fn.values.items ++ map map_rule_data l.rules
