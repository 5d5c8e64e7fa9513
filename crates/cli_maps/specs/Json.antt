-- What is found of a map as JSON objects. Members are in the order of their keys, and a key that doesn't apply is left out.
use Rattle.std.specs.Prelude.{ℕ, List, [], ◌∷◌, ◌++◌, codes, length, Option, Some, option_map}
use Rattle.std.specs.List.{flat_map}
use Rattle.serde_json.specs.Data.{Data, number, unsigned, string, object, Members, member, no_members}
use Rattle.ds_screen.specs.Picture.{Picture}
use Rattle.bms_source.specs.Printed.{printed_codes}
use Rattle.bms_map.specs.Maps.{Sheet, Shown}
use Rattle.bms_map.specs.LayoutText.{label_text}
use Rattle.scr_layout.specs.Entry.{Declared}
use Rattle.scr_layout.specs.Layout.{Declaration}
use Rattle.scr_check.specs.FindingText.{demo_of}
use Rattle.cli_commands.specs.declared.output.demo.Demos.TheVariants.{Printed as Pressed}
use Rattle.cli_commands.specs.DemoLines.{asked, shown_on}
use Rattle.cli_findings.specs.declared.region.Region.{Region}
use Rattle.cli_findings.specs.Facts.{place_of}
use Rattle.cli_findings.specs.Lines.{data_line}
use Rattle.cli_findings.specs.Members.{with_some, with_count, with_text, with_place, with_entry, with_keys}
use Rattle.cli_maps.specs.declared.judged.MapFinding.{MapFinding}
use Rattle.cli_maps.specs.declared.judged.MapFinding.TheVariants.{Overlapping, Found}
use Rattle.cli_maps.specs.Judged.{Judged}
use Rattle.cli_maps.specs.Lines.{field_of, line_of, map_words}
use Rattle.cli_maps.specs.Mend.{help_of}
use Rattle.cli_maps.specs.Rules.{id_of, name_of}
use Rattle.cli_maps.specs.Source.{macro_region}

-- ---- a place of the source

abbrev pub source_data : List ℕ → Region → Data
source_data path region =
    object (with_count (codes "column") (option_map (λ columns. columns.start) region.columns)
    (with_count (codes "line") (Some region.line) (with_text (codes "file") (Some path) no_members)))

abbrev pub with_source : List ℕ → Region → Members → Members
with_source path region members = with_some (codes "source") (Some (source_data path region)) members

-- ---- a finding

abbrev pub with_words : Sheet → List Declared → MapFinding → Members → Members
with_words map entries finding members =
    with_text (codes "words") (Some (map_words map entries finding))
    (with_text (codes "name") (Some (name_of finding)) (with_text (codes "rule") (Some (id_of finding)) members))

-- the map, the field, and where its macro stands
abbrev pub with_macro : List ℕ → List (List ℕ) → Sheet → Option Shown → Members → Members
with_macro path lines map field members =
    with_source path (macro_region lines (line_of map field))
    (with_text (codes "field") (option_map label_text field) (with_text (codes "map") (Some (printed_codes map.name)) members))

-- what `check` tells of a screen besides
abbrev pub with_facts : Declaration → Option Picture → MapFinding → Members → Members
with_facts layout opened (Overlapping overlap) members = members
with_facts layout opened (Found finding) members =
    with_keys opened (demo_of finding) (with_entry layout.entries finding (with_place layout.size (place_of layout.entries finding) members))

abbrev pub finding_data : List ℕ → List (List ℕ) → Sheet → Declaration → Option Picture → MapFinding → Data
finding_data path lines map layout opened finding =
    object (with_text (codes "help") (help_of map layout.entries finding) (with_facts layout opened finding
    (with_macro path lines map (field_of map layout.entries finding) (with_words map layout.entries finding no_members))))

-- ---- lines

abbrev pub finding_line : List ℕ → List (List ℕ) → Sheet → Declaration → Option Picture → MapFinding → List ℕ
finding_line path lines map layout opened finding = data_line (finding_data path lines map layout opened finding)

abbrev pub verdict_word : List MapFinding → List ℕ
verdict_word [] = codes "yes"
verdict_word (finding ∷ findings) = codes "no"

-- how many findings a map has and how many fields its layout, and the verdict
abbrev pub verdict_data : Sheet → Judged → Data
verdict_data map judged =
    object (member (codes "fields") (number (unsigned (length judged.layout.entries)))
    (member (codes "findings") (number (unsigned (length judged.findings)))
    (member (codes "line") (number (unsigned map.line))
    (member (codes "map") (string (printed_codes map.name)) (member (codes "verdict") (string (verdict_word judged.findings)) no_members)))))

-- a line for each finding, whose keys are pressed on the picture that the record leaves
abbrev pub finding_lines : List ℕ → List (List ℕ) → Sheet → Judged → List ℕ
finding_lines path lines map judged =
    flat_map (finding_line path lines map judged.layout (asked Pressed (shown_on judged.layout judged.records))) judged.findings

-- these, and one for the verdict
abbrev pub json_lines : List ℕ → List (List ℕ) → Sheet → Judged → List ℕ
json_lines path lines map judged = finding_lines path lines map judged ++ data_line (verdict_data map judged)

-- ---- what is refused

abbrev pub refused_data : List ℕ → Region → List ℕ → Data
refused_data path region words =
    object (with_source path region (with_text (codes "verdict") (Some (codes "refused")) (with_text (codes "words") (Some words) no_members)))

abbrev pub refused_line : List ℕ → Region → List ℕ → List ℕ
refused_line path region words = data_line (refused_data path region words)
