-- A log of maps holds no float, and nests no deeper than a parser of the kit reads.
use Rattle.std.proofs.Common.{◌≡◌, ◌≤◌, ℕ, false, List, [], ◌∷◌, map, refl, arith}
use Rattle.serde_json.specs.Data.{depth, items_depth}
use Rattle.serde_json.specs.View.{items_of}
use Rattle.serde_json.specs.Written.{has_float, items_have_float}
use Rattle.bms_map.specs.Maps.{Sheet}
use Rattle.cli_findings.specs.declared.found.Pen.TheVariants.{Ignored}
use Rattle.cli_findings.specs.declared.region.Region.{Region}
use Rattle.cli_findings.specs.Sarif.{rules_data}
use Rattle.cli_findings.proofs.Logged as logs
use Rattle.cli_maps.specs.declared.rules.MapRule.{MapRule}
use Rattle.cli_maps.specs.declared.rules.MapRule.TheVariants.{Refused}
use Rattle.cli_maps.specs.Judged.{Judged}
use Rattle.cli_maps.specs.Rules.{all_data, index_among, map_rule_data, map_rule_id, map_rules}
use Rattle.cli_maps.specs.Sarif.{finding_result, refused_result, results_of}

-- ---- rules

rule_plain : (rule : MapRule) → has_float (map_rule_data rule) ≡ false
rule_plain rule = logs.named_rule_plain _ _ _ _ _

rule_nests : (rule : MapRule) → depth (map_rule_data rule) ≤ 2
rule_nests rule = logs.named_rule_nests _ _ _ _ _

pub rules_plain : items_have_float (items_of all_data) ≡ false
rules_plain = logs.both_plain rules_data (map map_rule_data map_rules) (logs.rules_plain Ignored) (logs.none_floats map_rule_data rule_plain map_rules)

pub rules_nest : items_depth (items_of all_data) ≤ 2
rules_nest = logs.both_nest 2 rules_data (map map_rule_data map_rules) (logs.rules_nest Ignored) (logs.all_nest map_rule_data 2 rule_nests map_rules)

-- ---- results

pub results_plain : (path : List ℕ) (lines : List (List ℕ)) (it : Sheet) (judged : Judged) → items_have_float (items_of (results_of path lines it judged)) ≡ false
results_plain path lines it judged = logs.none_floats (finding_result path lines it judged.layout.entries) (λ finding. logs.named_plain _ _ path _ _) judged.findings

pub results_nest : (path : List ℕ) (lines : List (List ℕ)) (it : Sheet) (judged : Judged) → items_depth (items_of (results_of path lines it judged)) ≤ 6
results_nest path lines it judged = logs.all_nest (finding_result path lines it judged.layout.entries) 6 (λ finding. logs.named_nests _ _ path _ _) judged.findings

pub refused_plain : (path : List ℕ) (region : Region) (words : List ℕ) → items_have_float (items_of (refused_result path region words ∷ [])) ≡ false
refused_plain path region words = rw (logs.named_plain (map_rule_id Refused) (index_among Refused) path region words) refl

pub refused_nests : (path : List ℕ) (region : Region) (words : List ℕ) → items_depth (items_of (refused_result path region words ∷ [])) ≤ 6
refused_nests path region words = omega (arith, logs.named_nests (map_rule_id Refused) (index_among Refused) path region words)
