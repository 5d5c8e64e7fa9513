-- What is told as a log of SARIF 2.1.0: one run, the rules, and a result for each finding or for an input that is refused.
-- Members stand in the order of their keys.
use Rattle.std.specs.Prelude.{ℕ, List, [], ◌++◌, codes, map, Option, Some, None, option_map}
use Rattle.serde_json.specs.Data.{Data, number, unsigned, string, array, object, item, no_items, Members, member, no_members}
use Rattle.serde_json.specs.View.{items_of}
use Rattle.scr_layout.specs.Layout.{Declaration}
use Rattle.scr_check.specs.declared.origins.Origin.{Origin}
use Rattle.scr_check.specs.declared.traced.Traced.{Traced}
use Rattle.scr_check.specs.FindingText.{finding_text}
use Rattle.cli_commands.specs.declared.fault.Fault.{Fault}
use Rattle.cli_commands.specs.Fault.{fault_text}
use Rattle.cli_findings.specs.declared.region.Columns.{Columns}
use Rattle.cli_findings.specs.declared.region.Region.{Region}
use Rattle.cli_findings.specs.declared.found.Pen.{Pen}
use Rattle.cli_findings.specs.declared.rule.Rule.{Rule}
use Rattle.cli_findings.specs.declared.rule.Rule.TheVariants.{InputRefused}
use Rattle.cli_findings.specs.Help.{help_of}
use Rattle.cli_findings.specs.Region.{Standing, standing_in, finding_region, order_region}
use Rattle.cli_findings.specs.Rule.{all_rules, rules_for, rule_of, rule_index, rule_id, rule_name, brief_of, meaning_of, rule_help}
use Rattle.cli_findings.specs.Uri.{uri_of}

abbrev pub count : ℕ → Data
count n = number (unsigned n)

abbrev pub message_data : List ℕ → Data
message_data text = object (member (codes "text") (string text) no_members)

-- ---- the program

abbrev pub level_data : Data
level_data = object (member (codes "level") (string (codes "error")) no_members)

-- a rule of this name and these words
unfoldable pub named_rule : List ℕ → List ℕ → List ℕ → List ℕ → List ℕ → Data
named_rule id name brief meaning help =
    object (member (codes "defaultConfiguration") level_data (member (codes "fullDescription") (message_data meaning)
    (member (codes "help") (message_data help) (member (codes "id") (string id)
    (member (codes "name") (string name) (member (codes "shortDescription") (message_data brief) no_members))))))

abbrev pub rule_data : Rule → Data
rule_data rule = named_rule (rule_id rule) (rule_name rule) (brief_of rule) (meaning_of rule) (rule_help rule)

-- the rules of what is told of records
abbrev pub rules_data : List Data
rules_data = map rule_data all_rules

-- and of the pen, where it is asked for
abbrev pub rules_data_for : Pen → List Data
rules_data_for pen = map rule_data (rules_for pen)

-- the program, with rules in the order of their indices
abbrev pub driver_data : List Data → Data
driver_data rules =
    object (member (codes "name") (string (codes "term3270")) (member (codes "rules") (array (items_of rules))
    (member (codes "version") (string (codes "1.0.0")) no_members)))

unfoldable pub tool_data : List Data → Data
tool_data rules = object (member (codes "driver") (driver_data rules) no_members)

-- ---- a place

abbrev pub columns_region : ℕ → Option Columns → Data
columns_region line None = object (member (codes "startLine") (count line) no_members)
columns_region line (Some columns) =
    object (member (codes "endColumn") (count columns.after) (member (codes "startColumn") (count columns.start) (member (codes "startLine") (count line) no_members)))

-- lines and columns count from 1, and the end is the column after the last
abbrev pub region_data : Region → Data
region_data region = columns_region region.line region.columns

-- the file of a path
abbrev pub artifact_data : List ℕ → Data
artifact_data path = object (member (codes "uri") (string (uri_of path)) no_members)

abbrev pub physical_data : List ℕ → Region → Data
physical_data path region =
    object (member (codes "artifactLocation") (artifact_data path) (member (codes "region") (region_data region) no_members))

abbrev pub location_data : List ℕ → Region → Data
location_data path region = object (member (codes "physicalLocation") (physical_data path region) no_members)

-- where the field of a finding ends, in this file
abbrev pub end_data : List ℕ → Region → Data
end_data path region =
    object (member (codes "message") (message_data (codes "the order that ends the field"))
    (member (codes "physicalLocation") (physical_data path region) no_members))

-- ---- a result

abbrev pub then_related : Option Data → Members → Members
then_related None members = members
then_related (Some related) members = member (codes "relatedLocations") (array (item related no_items)) members

-- a result of this rule, in this file at this place, with this text
abbrev pub result_members : Rule → List ℕ → Region → List ℕ → Members
result_members rule path region text =
    member (codes "level") (string (codes "error")) (member (codes "locations") (array (item (location_data path region) no_items))
    (member (codes "message") (message_data text)
    (member (codes "ruleId") (string (rule_id rule)) (member (codes "ruleIndex") (count (rule_index rule)) no_members))))

-- the same, and with another place if there is one
unfoldable pub result_data : Rule → List ℕ → Region → List ℕ → Option Data → Data
result_data rule path region text related =
    object (member (codes "level") (string (codes "error")) (member (codes "locations") (array (item (location_data path region) no_items))
    (member (codes "message") (message_data text)
    (then_related related (member (codes "ruleId") (string (rule_id rule)) (member (codes "ruleIndex") (count (rule_index rule)) no_members))))))

abbrev pub help_end : Option (List ℕ) → List ℕ
help_end None = []
help_end (Some help) = codes ": " ++ help

-- the words of a finding behind others, and what to do
abbrev pub message_of : List ℕ → Declaration → Traced → List ℕ
message_of front layout traced = front ++ (finding_text layout.entries traced.finding ++ help_end (help_of layout traced))

abbrev pub end_of : List ℕ → Standing → Option Origin → Option Data
end_of path standing end = option_map (λ origin. end_data path (order_region standing origin)) end

-- a finding of records that stand so, of the file of this path
abbrev pub finding_result : List ℕ → List ℕ → Declaration → Standing → Traced → Data
finding_result front path layout standing traced =
    result_data (rule_of traced.finding) path (finding_region standing traced) (message_of front layout traced) (end_of path standing traced.end)

abbrev pub findings_data : List ℕ → List ℕ → Declaration → Standing → List Traced → Data
findings_data front path layout standing findings = array (items_of (map (finding_result front path layout standing) findings))

-- what is wrong with the input of this path, at a line
abbrev pub refusal_results : List ℕ → ℕ → Fault → Data
refusal_results path line fault = array (item (result_data InputRefused path (record { line = line; columns = None }) (fault_text fault) None) no_items)

-- ---- the log

abbrev pub run_data : List Data → Data → Data
run_data rules results = object (member (codes "results") results (member (codes "tool") (tool_data rules) no_members))

unfoldable pub log_data : List Data → Data → Data
log_data rules results =
    object (member (codes "$schema") (string (codes "https://json.schemastore.org/sarif-2.1.0.json"))
    (member (codes "runs") (array (item (run_data rules results) no_items)) (member (codes "version") (string (codes "2.1.0")) no_members)))

-- the log of findings, each told behind these words
abbrev pub fronted_log_data : Pen → List ℕ → List ℕ → Declaration → List ℕ → List Traced → Data
fronted_log_data pen front path layout input findings = log_data (rules_data_for pen) (findings_data front path layout (standing_in input) findings)

abbrev pub findings_log_data : Pen → List ℕ → Declaration → List ℕ → List Traced → Data
findings_log_data pen path layout input findings = fronted_log_data pen [] path layout input findings

abbrev pub refusal_log_data : Pen → List ℕ → ℕ → Fault → Data
refusal_log_data pen path line fault = log_data (rules_data_for pen) (refusal_results path line fault)
