-- What the commands on maps print, as functions of the source, and their statuses.
use Rattle.std.specs.Prelude.{ℕ, List, [], ◌∷◌, ◌++◌, codes, Option, None, Result, Ok, Err}
use Rattle.std.specs.Fmt.{decimal}
use Rattle.ds_codec.specs.Reading.{◌>>=◌}
use Rattle.bms_source.specs.Rows.{lines_in}
use Rattle.bms_source.specs.declared.refusal.Why.TheVariants.{SeveralMaps}
use Rattle.bms_source.specs.Told.{Told}
use Rattle.bms_map.specs.Maps.{Sheet}
use Rattle.bms_map.specs.declared.record.Control.{Control}
use Rattle.bms_map.specs.LayoutText.{layout_text}
use Rattle.cli_commands.specs.declared.fault.Fault.{Fault}
use Rattle.cli_commands.specs.declared.status.Status.TheVariants.{Done, BadInput}
use Rattle.cli_commands.specs.Fault.{fault_text}
use Rattle.cli_commands.specs.Lines.{within_limit}
use Rattle.cli_commands.specs.Printed.{Printed, printed, printed_or_fault}
use Rattle.cli_commands.specs.Show.{show}
use Rattle.cli_findings.specs.declared.region.Region.{Region}
use Rattle.cli_drafts.specs.Draft.{draft}
use Rattle.cli_pictures.specs.declared.annotated.Annotated.TheVariants as annotations
use Rattle.cli_pictures.specs.declared.drawing.Drawing.TheVariants as drawings
use Rattle.cli_pictures.specs.Annotated.{annotated}
use Rattle.cli_pictures.specs.Picture.{pictured}
use Rattle.cli_maps.specs.declared.asked.Form.{Form}
use Rattle.cli_maps.specs.declared.asked.Form.TheVariants as forms
use Rattle.cli_maps.specs.declared.asked.Rendering.{Rendering}
use Rattle.cli_maps.specs.declared.asked.Rendering.TheVariants as renderings
use Rattle.cli_maps.specs.Asked.{Reported, as_text, as_json, as_log, maps_asked, without}
use Rattle.cli_maps.specs.Json.{refused_line}
use Rattle.cli_maps.specs.Judged.{record_due}
use Rattle.cli_maps.specs.Refused.{or_refused, refused, refusal_words}
use Rattle.cli_maps.specs.Sarif.{log_line, refused_result}
use Rattle.cli_maps.specs.Source.{refusal_region}
use Rattle.cli_maps.specs.Told.{all_told, record_line, record_told, text_told, json_told, log_told}

-- ---- map

-- the layout of the one map
abbrev pub layout_told : List Sheet → Result Printed Fault
layout_told [] = Ok (refused (without SeveralMaps))
layout_told (it ∷ []) = Ok (printed (layout_text it) Done)
layout_told (it ∷ other ∷ maps) = Ok (refused (without SeveralMaps))

abbrev pub mapped : Form → Control → List Sheet → Result Printed Fault
mapped forms.Records control maps = all_told (record_told control) maps
mapped forms.Layout control maps = layout_told maps

abbrev pub map_told : Form → Option (List ℕ) → Control → List ℕ → Result Printed Fault
map_told form name control text = or_refused (mapped form control) (maps_asked name text)

-- what `map` answers to a source
abbrev pub map_source : Form → Option (List ℕ) → Control → List ℕ → Result Printed Fault
map_source form name control input = within_limit input >>= map_told form name control

-- what it prints, and its status
abbrev pub printed_map : Form → Option (List ℕ) → Control → List ℕ → Printed
printed_map form name control input = printed_or_fault (map_source form name control input)

-- ---- check --map

abbrev pub checked : Reported → Control → List ℕ → List Sheet → Result Printed Fault
checked as_text control text maps = all_told (text_told control) maps
checked (as_json path) control text maps = all_told (json_told path (lines_in text) control) maps
checked (as_log path) control text maps = log_told path (lines_in text) control maps

-- what is refused, in a form that tools read
abbrev pub refused_log : List ℕ → Region → List ℕ → Printed
refused_log path region words = printed (log_line (refused_result path region words ∷ [])) BadInput

abbrev pub refused_json : List ℕ → Region → List ℕ → Printed
refused_json path region words = printed (refused_line path region words) BadInput

abbrev pub refused_in : Reported → Told → Printed
refused_in as_text told = refused told
refused_in (as_json path) told = refused_json path (refusal_region told.place) (refusal_words told)
refused_in (as_log path) told = refused_log path (refusal_region told.place) (refusal_words told)

-- a fault of the input is reported too
abbrev pub or_faulted : Reported → Result Printed Fault → Result Printed Fault
or_faulted report (Ok answer) = Ok answer
or_faulted as_text (Err fault) = Err fault
or_faulted (as_json path) (Err fault) = Ok (refused_json path (refusal_region None) (fault_text fault))
or_faulted (as_log path) (Err fault) = Ok (refused_log path (refusal_region None) (fault_text fault))

abbrev pub or_refused_in : Reported → (List Sheet → Result Printed Fault) → Result (List Sheet) Told → Result Printed Fault
or_refused_in report answer (Ok maps) = answer maps
or_refused_in report answer (Err told) = Ok (refused_in report told)

abbrev pub check_told : Reported → Option (List ℕ) → Control → List ℕ → Result Printed Fault
check_told report name control text = or_refused_in report (checked report control text) (maps_asked name text)

abbrev pub check_limited : Reported → Option (List ℕ) → Control → List ℕ → Result Printed Fault
check_limited report name control input = within_limit input >>= check_told report name control

-- what `check --map` answers to a source; a fault of the input is reported too
abbrev pub check_source : Reported → Option (List ℕ) → Control → List ℕ → Result Printed Fault
check_source report name control input = or_faulted report (check_limited report name control input)

-- what it prints, and its status
abbrev pub printed_check_map : Reported → Option (List ℕ) → Control → List ℕ → Printed
printed_check_map report name control input = printed_or_fault (check_source report name control input)

-- ---- show --map, draft --map

-- the line of the sizes, and the record
abbrev pub sized_record : Sheet → List ℕ → List ℕ
sized_record it bytes =
    codes "size 24x80 " ++ (decimal it.area.screen.rows ++ (codes "x" ++ (decimal it.area.screen.cols ++ (codes "\n" ++ record_line bytes))))

-- the screen of a map's record, with the names of its layout where it is drawn; or the layout that is drafted from it
abbrev pub rendered : Rendering → Sheet → List ℕ → Result Printed Fault
rendered renderings.Text it bytes = show (sized_record it bytes)
rendered renderings.Json it bytes = pictured drawings.Json (sized_record it bytes)
rendered renderings.Rows it bytes = pictured drawings.Rows (sized_record it bytes)
rendered renderings.Svg it bytes = annotated annotations.Svg (layout_text it) (record_line bytes)
rendered renderings.Html it bytes = annotated annotations.Html (layout_text it) (record_line bytes)
rendered renderings.Draft it bytes = draft (sized_record it bytes)

-- that of the one map
abbrev pub one_rendered : Rendering → Control → List Sheet → Result Printed Fault
one_rendered rendering control [] = Ok (refused (without SeveralMaps))
one_rendered rendering control (it ∷ []) = record_due control it >>= rendered rendering it
one_rendered rendering control (it ∷ other ∷ maps) = Ok (refused (without SeveralMaps))

abbrev pub render_told : Rendering → Option (List ℕ) → Control → List ℕ → Result Printed Fault
render_told rendering name control text = or_refused (one_rendered rendering control) (maps_asked name text)

-- what `show --map` and `draft --map` answer to a source
abbrev pub render_source : Rendering → Option (List ℕ) → Control → List ℕ → Result Printed Fault
render_source rendering name control input = within_limit input >>= render_told rendering name control

-- what they print, and their status
abbrev pub printed_rendered : Rendering → Option (List ℕ) → Control → List ℕ → Printed
printed_rendered rendering name control input = printed_or_fault (render_source rendering name control input)
