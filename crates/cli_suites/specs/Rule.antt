-- The rule by which services know an accepted finding that doesn't come, behind those of records and maps.
use Rattle.std.specs.Prelude.{ℕ, List, [], ◌∷◌, ◌++◌, codes}
use Rattle.serde_json.specs.Data.{Data}
use Rattle.cli_findings.specs.Sarif.{named_rule}
use Rattle.cli_maps.specs.Rules.{all_data}

abbrev pub rule_id : List ℕ
rule_id = codes "accepted"

-- it is the last, counted from 0
abbrev pub rule_index : ℕ
rule_index = 18

abbrev pub rule_meaning : List ℕ
rule_meaning = codes "The manifest accepts a finding that the screen no longer has."

abbrev pub rule_help : List ℕ
rule_help = codes "The manifest accepts a finding that the screen no longer has. Take it out of the manifest."

abbrev pub rule_data : Data
rule_data = named_rule rule_id (codes "accepted-does-not-come") (codes "An accepted finding does not come") rule_meaning rule_help

-- the rules of the log of a suite
abbrev pub suite_rules : List Data
suite_rules = all_data ++ rule_data ∷ []
