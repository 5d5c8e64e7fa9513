-- The maps that are asked for.
use Rattle.std.specs.Prelude.{ℕ, Bool, true, false, ◌&&◌, ◌==◌, List, [], ◌∷◌, Option, Some, None, option_map, Result, Ok, Err}
use Rattle.std.specs.Borrow.{Bor}
use Rattle.std.specs.List.{filter}
use Rattle.bms_source.specs.declared.refusal.Why.{Why}
use Rattle.bms_source.specs.declared.refusal.Why.TheVariants.{NoSuchMap}
use Rattle.bms_source.specs.Told.{Told, ◌>>=◌}
use Rattle.bms_source.specs.Words.{upper}
use Rattle.bms_map.specs.Maps.{Sheet}
use Rattle.bms_map.specs.Mapset.{maps_of}
use Rattle.cli_maps.specs.declared.asked.Report.{Report}
use Rattle.cli_maps.specs.declared.asked.Report.TheVariants.{Text, Json, Sarif}

-- a name in upper case is this one, in either case
abbrev pub is_name : List ℕ → List ℕ → Bool
is_name [] [] = true
is_name [] (c ∷ cs) = false
is_name (n ∷ ns) [] = false
is_name (n ∷ ns) (c ∷ cs) = (n == upper c) && is_name ns cs

-- all where none is named
abbrev pub is_asked : Option (List ℕ) → Sheet → Bool
is_asked None map = true
is_asked (Some name) map = is_name map.name name

-- a refusal of a source that is good
abbrev pub without : Why → Told
without why = record { why = why; word = []; place = None }

abbrev pub some_of : List Sheet → Result (List Sheet) Told
some_of [] = Err (without NoSuchMap)
some_of (map ∷ maps) = Ok (map ∷ maps)

-- those of the name, of which there has to be one
abbrev pub named : Option (List ℕ) → List Sheet → Result (List Sheet) Told
named name maps = some_of (filter (is_asked name) maps)

-- the maps of a source that are asked for, or why it is refused
abbrev pub maps_asked : Option (List ℕ) → List ℕ → Result (List Sheet) Told
maps_asked name text = maps_of text >>= named name

-- ---- as the program holds it

abbrev pub name_in : Option (Bor (List ℕ)) → Option (List ℕ)
name_in name = option_map (λ name. name.now) name

-- the form of a report, with the path of the source
pub data Reported : Type 0 where
  as_text : Reported
  as_json : (path : List ℕ) → Reported
  as_log : (path : List ℕ) → Reported

abbrev pub report_seen : Report → Reported
report_seen Text = as_text
report_seen (Json path) = as_json path.now
report_seen (Sarif path) = as_log path.now
