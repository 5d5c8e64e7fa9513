-- The rules by which services know what is told of maps: those of records, and these behind them.
use Rattle.std.specs.Prelude.{ℕ, ◌+◌, List, [], ◌∷◌, ◌++◌, codes, length, map}
use Rattle.serde_json.specs.Data.{Data}
use Rattle.bms_map.specs.declared.overlap.Overlap.{Overlap}
use Rattle.bms_map.specs.declared.overlap.Overlap.TheVariants.{Overlaps, PastEnd}
use Rattle.cli_findings.specs.Rule.{all_rules, rule_of, rule_id, rule_index, rule_name}
use Rattle.cli_findings.specs.Sarif.{named_rule, rules_data}
use Rattle.cli_maps.specs.declared.judged.MapFinding.{MapFinding}
use Rattle.cli_maps.specs.declared.judged.MapFinding.TheVariants.{Overlapping, Found}
use Rattle.cli_maps.specs.declared.rules.MapRule.{MapRule}
use Rattle.cli_maps.specs.declared.rules.MapRule.TheVariants.{Overlap as OverlapRule, PastEnd as PastEndRule, Refused}

abbrev pub map_rules : List MapRule
map_rules = OverlapRule ∷ PastEndRule ∷ Refused ∷ []

abbrev pub map_rule_of : Overlap → MapRule
map_rule_of (Overlaps index other) = OverlapRule
map_rule_of (PastEnd index by) = PastEndRule

abbrev pub map_rule_index : MapRule → ℕ
map_rule_index OverlapRule = 0
map_rule_index PastEndRule = 1
map_rule_index Refused = 2

abbrev pub map_rule_id : MapRule → List ℕ
map_rule_id OverlapRule = codes "M1"
map_rule_id PastEndRule = codes "M2"
map_rule_id Refused = codes "map-refused"

abbrev pub map_rule_name : MapRule → List ℕ
map_rule_name OverlapRule = codes "overlap"
map_rule_name PastEndRule = codes "past-the-end"
map_rule_name Refused = codes "map-refused"

abbrev pub map_brief_of : MapRule → List ℕ
map_brief_of OverlapRule = codes "Two fields overlap"
map_brief_of PastEndRule = codes "A field goes past the end of its map"
map_brief_of Refused = codes "A map source is refused"

abbrev pub map_meaning_of : MapRule → List ℕ
map_meaning_of OverlapRule = codes "The attribute of a field stands in a cell of a field before it, whose characters it cuts off."
map_meaning_of PastEndRule = codes "The last character of a field comes after the map's last line and column, and may stand on another field at the top."
map_meaning_of Refused = codes "The source of BMS maps can't be read."

abbrev pub map_mend_of : MapRule → List ℕ
map_mend_of OverlapRule = codes "Correct POS or LENGTH."
map_mend_of PastEndRule = codes "Correct LENGTH or SIZE."
map_mend_of Refused = codes "Correct the statement that is told."

abbrev pub map_rule_help : MapRule → List ℕ
map_rule_help rule = map_meaning_of rule ++ (codes " " ++ map_mend_of rule)

abbrev pub map_rule_data : MapRule → Data
map_rule_data rule = named_rule (map_rule_id rule) (map_rule_name rule) (map_brief_of rule) (map_meaning_of rule) (map_rule_help rule)

-- ---- of a finding

abbrev pub id_of : MapFinding → List ℕ
id_of (Overlapping overlap) = map_rule_id (map_rule_of overlap)
id_of (Found finding) = rule_id (rule_of finding)

abbrev pub name_of : MapFinding → List ℕ
name_of (Overlapping overlap) = map_rule_name (map_rule_of overlap)
name_of (Found finding) = rule_name (rule_of finding)

-- where a rule stands among all, counted from 0
abbrev pub index_among : MapRule → ℕ
index_among rule = length all_rules + map_rule_index rule

abbrev pub index_of : MapFinding → ℕ
index_of (Overlapping overlap) = index_among (map_rule_of overlap)
index_of (Found finding) = rule_index (rule_of finding)

abbrev pub all_data : List Data
all_data = rules_data ++ map map_rule_data map_rules
