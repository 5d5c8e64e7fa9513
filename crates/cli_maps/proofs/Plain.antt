-- An object of what is found of a map holds no float, and nests two deep at most.
use Rattle.std.proofs.Common.{◌≡◌, ℕ, false, List, Option, Some, refl, arith}
use Rattle.std.specs.Prelude.{codes, option_map}
use Rattle.hex.specs.Hex.{encode_upper}
use Rattle.serde_json.specs.Data.{Members, no_members}
use Rattle.serde_json.specs.Written.{has_float}
use Rattle.ds_screen.specs.Picture.{Picture}
use Rattle.bms_source.specs.Printed.{printed_codes}
use Rattle.bms_map.specs.Maps.{Sheet}
use Rattle.bms_map.specs.LayoutText.{label_text}
use Rattle.scr_layout.specs.Layout.{Declaration}
use Rattle.scr_check.specs.FindingText.{demo_of}
use Rattle.cli_findings.specs.declared.region.Region.{Region}
use Rattle.cli_findings.specs.Facts.{place_of, row_at, column_at, length_of, entry_of, sent_from}
use Rattle.cli_findings.specs.Members.{with_count, with_text}
use Rattle.cli_findings.proofs.Plain.{IsPlain, put_both, count_plain, text_plain, keys_plain}
use Rattle.cli_maps.specs.declared.judged.MapFinding.{MapFinding}
use Rattle.cli_maps.specs.declared.judged.MapFinding.TheVariants.{Overlapping, Found}
use Rattle.cli_maps.specs.Json.{finding_data, refused_data, source_data, with_facts, with_macro, with_source, with_words}
use Rattle.cli_maps.specs.Lines.{field_of, line_of, map_words}
use Rattle.cli_maps.specs.Mend.{help_of}
use Rattle.cli_maps.specs.Rules.{id_of, name_of}
use Rattle.cli_maps.specs.Source.{macro_region}

nothing : (n : ℕ) → IsPlain n no_members
nothing n = record { none = refl; flat = omega arith }

place_plain : (path : List ℕ) (region : Region) → IsPlain 0 (with_count (codes "column") (option_map (λ columns. columns.start) region.columns) (with_count (codes "line") (Some region.line) (with_text (codes "file") (Some path) no_members)))
place_plain path region =
    count_plain 0 (codes "column") (option_map (λ columns. columns.start) region.columns) _
    (count_plain 0 (codes "line") (Some region.line) _ (text_plain 0 (codes "file") (Some path) no_members (nothing 0)))

source_plain : (path : List ℕ) (region : Region) (ms : Members) → IsPlain 2 ms → IsPlain 2 (with_source path region ms)
source_plain path region ms old =
    let plain = place_plain path region in
    let flat = plain.flat in
    put_both 2 (codes "source") (source_data path region) ms plain.none (omega (arith, flat)) old

facts_plain : (layout : Declaration) (opened : Option Picture) (finding : MapFinding) (ms : Members) → IsPlain 2 ms → IsPlain 2 (with_facts layout opened finding ms)
facts_plain layout opened (Overlapping overlap) ms old = old
facts_plain layout opened (Found finding) ms old =
    let placed = count_plain 2 (codes "place") (place_of layout.entries finding) ms old in
    let in_row = count_plain 2 (codes "row") (option_map (row_at layout.size) (place_of layout.entries finding)) _ placed in
    let in_column = count_plain 2 (codes "column") (option_map (column_at layout.size) (place_of layout.entries finding)) _ in_row in
    let with_length = count_plain 2 (codes "length") (length_of finding) _ in_column in
    let declared = count_plain 2 (codes "declared") (option_map (λ entry. entry.length) (entry_of layout.entries finding)) _ with_length in
    let entered = text_plain 2 (codes "entry") (option_map (λ entry. entry.name) (entry_of layout.entries finding)) _ declared in
    let keyed = keys_plain (demo_of finding) _ entered in
    text_plain 2 (codes "sends") (option_map encode_upper (sent_from opened (demo_of finding))) _ keyed

plain_finding : (path : List ℕ) (lines : List (List ℕ)) (it : Sheet) (layout : Declaration) (opened : Option Picture) (finding : MapFinding)
    → IsPlain 2 (with_text (codes "help") (help_of it layout.entries finding) (with_facts layout opened finding
    (with_macro path lines it (field_of it layout.entries finding) (with_words it layout.entries finding no_members))))
plain_finding path lines it layout opened finding =
    let field = field_of it layout.entries finding in
    let ruled = text_plain 2 (codes "rule") (Some (id_of finding)) no_members (nothing 2) in
    let named = text_plain 2 (codes "name") (Some (name_of finding)) _ ruled in
    let worded = text_plain 2 (codes "words") (Some (map_words it layout.entries finding)) _ named in
    let mapped = text_plain 2 (codes "map") (Some (printed_codes it.name)) _ worded in
    let labelled = text_plain 2 (codes "field") (option_map label_text field) _ mapped in
    let placed = source_plain path (macro_region lines (line_of it field)) _ labelled in
    let told = facts_plain layout opened finding _ placed in
    text_plain 2 (codes "help") (help_of it layout.entries finding) _ told

pub finding_plain : (path : List ℕ) (lines : List (List ℕ)) (it : Sheet) (layout : Declaration) (opened : Option Picture) (finding : MapFinding)
    → has_float (finding_data path lines it layout opened finding) ≡ false
finding_plain path lines it layout opened finding = (plain_finding path lines it layout opened finding).none

pub refused_plain : (path : List ℕ) (region : Region) (words : List ℕ) → has_float (refused_data path region words) ≡ false
refused_plain path region words =
    let worded = text_plain 2 (codes "words") (Some words) no_members (nothing 2) in
    let judged = text_plain 2 (codes "verdict") (Some (codes "refused")) _ worded in
    (source_plain path region _ judged).none
