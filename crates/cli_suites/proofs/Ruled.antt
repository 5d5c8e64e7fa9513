-- The rules of the log of a suite hold no float, and nest no deeper than a parser of the kit reads.
use Rattle.std.proofs.Common.{◌≡◌, ◌≤◌, false, [], ◌∷◌, refl, arith}
use Rattle.serde_json.specs.Data.{depth, items_depth}
use Rattle.serde_json.specs.View.{items_of}
use Rattle.serde_json.specs.Written.{has_float, items_have_float}
use Rattle.cli_findings.proofs.Logged as logs
use Rattle.cli_maps.specs.Rules.{all_data}
use Rattle.cli_maps.proofs.Logged as maps
use Rattle.cli_suites.specs.Rule.{rule_data, suite_rules}

rule_plain : has_float rule_data ≡ false
rule_plain = logs.named_rule_plain _ _ _ _ _

rule_nests : depth rule_data ≤ 2
rule_nests = logs.named_rule_nests _ _ _ _ _

pub rules_plain : items_have_float (items_of suite_rules) ≡ false
rules_plain = logs.both_plain all_data (rule_data ∷ []) maps.rules_plain (rw rule_plain refl)

pub rules_nest : items_depth (items_of suite_rules) ≤ 2
rules_nest = logs.both_nest 2 all_data (rule_data ∷ []) maps.rules_nest (omega (arith, rule_nests))
