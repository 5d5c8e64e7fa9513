-- What is printed of maps one after the other, and the status.
use Rattle.std.specs.Prelude.{ℕ, List, [], ◌∷◌, ◌++◌, codes, map, Result, Ok}
use Rattle.std.specs.Fmt.{decimal}
use Rattle.hex.specs.Hex.{encode_upper}
use Rattle.serde_json.specs.Data.{Data}
use Rattle.ds_codec.specs.Reading.{◌>>=◌}
use Rattle.bms_source.specs.Printed.{printed_codes}
use Rattle.bms_map.specs.Maps.{Sheet}
use Rattle.bms_map.specs.declared.record.Control.{Control}
use Rattle.cli_commands.specs.declared.fault.Fault.{Fault}
use Rattle.cli_commands.specs.declared.status.Status.{Status}
use Rattle.cli_commands.specs.declared.status.Status.TheVariants.{Done, Findings}
use Rattle.cli_commands.specs.Printed.{Printed, printed}
use Rattle.cli_maps.specs.declared.each.MapForm.{MapForm}
use Rattle.cli_maps.specs.declared.each.MapForm.TheVariants.{Record, Lines, Json}
use Rattle.cli_maps.specs.Json.{json_lines}
use Rattle.cli_maps.specs.Judged.{judge, record_due, status_of}
use Rattle.cli_maps.specs.Lines.{lines_of}
use Rattle.cli_maps.specs.Sarif.{log_line, results_of}

-- ---- one map

-- a comment: its name, the line of its DFHMDI, and its screen
abbrev pub header : Sheet → List ℕ
header it =
    codes "# map " ++ (printed_codes it.name ++ (codes " at line " ++ (decimal it.line ++ (codes ", screen " ++ (decimal it.area.screen.rows
    ++ (codes "x" ++ (decimal it.area.screen.cols ++ codes "\n")))))))

abbrev pub record_line : List ℕ → List ℕ
record_line bytes = encode_upper bytes ++ codes "\n"

abbrev pub record_told : Control → Sheet → Result Printed Fault
record_told control it = record_due control it >>= λ bytes. Ok (printed (header it ++ record_line bytes) Done)

abbrev pub text_told : Control → Sheet → Result Printed Fault
text_told control it = judge control it >>= λ judged. Ok (printed (lines_of it judged.layout.entries judged.findings) (status_of judged.findings))

abbrev pub json_told : List ℕ → List (List ℕ) → Control → Sheet → Result Printed Fault
json_told path lines control it = judge control it >>= λ judged. Ok (printed (json_lines path lines it judged) (status_of judged.findings))

abbrev pub told_by : MapForm → Control → Sheet → Result Printed Fault
told_by Record = record_told
told_by Lines = text_told
told_by (Json path lines) = json_told path.now (map (λ line. line.now) lines.now)

-- ---- all maps

-- the status of two answers: findings in either
abbrev pub worse : Status → Status → Status
worse Done other = other
worse status other = status

abbrev pub then_printed : Printed → Printed → Printed
then_printed first rest = printed (first.text ++ rest.text) (worse first.status rest.status)

-- the texts one after the other, or the first fault
abbrev pub all_told : (Sheet → Result Printed Fault) → List Sheet → Result Printed Fault
all_told answer [] = Ok (printed [] Done)
all_told answer (it ∷ maps) = answer it >>= λ first. all_told answer maps >>= λ rest. Ok (then_printed first rest)

-- the same of the results of a log
abbrev pub all_results : List ℕ → List (List ℕ) → Control → List Sheet → Result (List Data) Fault
all_results path lines control [] = Ok []
all_results path lines control (it ∷ maps) =
    judge control it >>= λ judged. all_results path lines control maps >>= λ rest. Ok (results_of path lines it judged ++ rest)

abbrev pub status_in : List Data → Status
status_in [] = Done
status_in (result ∷ results) = Findings

abbrev pub log_printed : List Data → Printed
log_printed results = printed (log_line results) (status_in results)

abbrev pub log_told : List ℕ → List (List ℕ) → Control → List Sheet → Result Printed Fault
log_told path lines control maps = all_results path lines control maps >>= λ results. Ok (log_printed results)
