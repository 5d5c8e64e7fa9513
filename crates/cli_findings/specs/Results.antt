-- Results of a log of SARIF, one after the other, and the log of them.
use Rattle.std.specs.Prelude.{ℕ, List, [], ◌∷◌, codes, map, None}
use Rattle.serde_json.specs.Data.{Data, string, array, item, no_items, object, member, no_members}
use Rattle.serde_json.specs.View.{view, items_of}
use Rattle.scr_layout.specs.Layout.{Declaration}
use Rattle.scr_check.specs.declared.traced.Traced.{Traced}
use Rattle.cli_findings.specs.declared.region.Region.{Region}
use Rattle.cli_findings.specs.declared.results.Results as held
use Rattle.cli_findings.specs.declared.rule.Rule.TheVariants.{InputRefused}
use Rattle.cli_findings.specs.Lines.{data_line}
use Rattle.cli_findings.specs.Region.{standing_in}
use Rattle.cli_findings.specs.Rule.{rule_id, rule_index}
use Rattle.cli_findings.specs.Sarif.{count, finding_result, location_data, log_data, message_data}

abbrev pub results_seen : held.Results → List Data
results_seen results = map view results.values.items

-- a result of the rule of this name and index, in this file at this place, with this text
unfoldable pub named_result : List ℕ → ℕ → List ℕ → Region → List ℕ → Data
named_result id index path region text =
    object (member (codes "level") (string (codes "error")) (member (codes "locations") (array (item (location_data path region) no_items))
    (member (codes "message") (message_data text) (member (codes "ruleId") (string id) (member (codes "ruleIndex") (count index) no_members)))))

-- findings of records, in their text, the words of each behind others
abbrev pub found_results : List ℕ → List ℕ → Declaration → List ℕ → List Traced → List Data
found_results front path layout input findings = map (finding_result front path layout (standing_in input)) findings

-- an input of this path that is refused at a line
abbrev pub refused_result : List ℕ → ℕ → List ℕ → Data
refused_result path line words = named_result (rule_id InputRefused) (rule_index InputRefused) path (record { line = line; columns = None }) words

-- the log of results, on a line
abbrev pub results_line : List Data → List Data → List ℕ
results_line rules results = data_line (log_data rules (array (items_of results)))
