-- What is found of maps as a log of SARIF 2.1.0: a result for each finding, at its macro, or one for a source that is refused.
use Rattle.std.specs.Prelude.{ℕ, List, ◌++◌, codes, map}
use Rattle.serde_json.specs.Data.{Data, array}
use Rattle.serde_json.specs.View.{items_of}
use Rattle.bms_map.specs.Maps.{Sheet}
use Rattle.scr_layout.specs.Entry.{Declared}
use Rattle.cli_findings.specs.declared.region.Region.{Region}
use Rattle.cli_findings.specs.Lines.{data_line}
use Rattle.cli_findings.specs.Results.{named_result}
use Rattle.cli_findings.specs.Sarif.{help_end, log_data}
use Rattle.cli_maps.specs.declared.judged.MapFinding.{MapFinding}
use Rattle.cli_maps.specs.declared.rules.MapRule.TheVariants.{Refused}
use Rattle.cli_maps.specs.Judged.{Judged}
use Rattle.cli_maps.specs.Lines.{field_of, line_of, map_words}
use Rattle.cli_maps.specs.Mend.{help_of}
use Rattle.cli_maps.specs.Rules.{all_data, id_of, index_among, index_of, map_rule_id}
use Rattle.cli_maps.specs.Source.{macro_region}

-- what is found, and what to do
abbrev pub message_of : Sheet → List Declared → MapFinding → List ℕ
message_of it entries finding = map_words it entries finding ++ help_end (help_of it entries finding)

abbrev pub finding_result : List ℕ → List (List ℕ) → Sheet → List Declared → MapFinding → Data
finding_result path lines it entries finding =
    named_result (id_of finding) (index_of finding) path (macro_region lines (line_of it (field_of it entries finding))) (message_of it entries finding)

abbrev pub results_of : List ℕ → List (List ℕ) → Sheet → Judged → List Data
results_of path lines it judged = map (finding_result path lines it judged.layout.entries) judged.findings

abbrev pub refused_result : List ℕ → Region → List ℕ → Data
refused_result path region words = named_result (map_rule_id Refused) (index_among Refused) path region words

abbrev pub log_line : List Data → List ℕ
log_line results = data_line (log_data all_data (array (items_of results)))
