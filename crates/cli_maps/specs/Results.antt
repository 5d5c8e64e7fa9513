-- What is found of maps as results of a log, or why their source is refused as one.
use Rattle.std.specs.Prelude.{ℕ, List, [], ◌∷◌, Option, Result, Ok, Err}
use Rattle.serde_json.specs.Data.{Data}
use Rattle.ds_codec.specs.Reading.{◌>>=◌}
use Rattle.bms_source.specs.Rows.{lines_in}
use Rattle.bms_source.specs.Told.{Told}
use Rattle.bms_map.specs.Maps.{Sheet}
use Rattle.bms_map.specs.declared.record.Control.{Control}
use Rattle.cli_commands.specs.declared.fault.Fault.{Fault}
use Rattle.cli_commands.specs.Lines.{within_limit}
use Rattle.cli_maps.specs.Asked.{maps_asked}
use Rattle.cli_maps.specs.Refused.{refusal_words}
use Rattle.cli_maps.specs.Sarif.{refused_result}
use Rattle.cli_maps.specs.Source.{refusal_region}
use Rattle.cli_maps.specs.Told.{all_results}

abbrev pub or_refused_results : List ℕ → (List Sheet → Result (List Data) Fault) → Result (List Sheet) Told → Result (List Data) Fault
or_refused_results path answer (Ok maps) = answer maps
or_refused_results path answer (Err told) = Ok (refused_result path (refusal_region told.place) (refusal_words told) ∷ [])

abbrev pub results_told : List ℕ → Option (List ℕ) → Control → List ℕ → Result (List Data) Fault
results_told path name control text = or_refused_results path (all_results path (lines_in text) control) (maps_asked name text)

-- the faults are those of `check --map`
abbrev pub map_results : List ℕ → Option (List ℕ) → Control → List ℕ → Result (List Data) Fault
map_results path name control input = within_limit input >>= results_told path name control
