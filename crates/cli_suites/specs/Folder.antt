-- The screens of a folder, by the paths of its files.
use Rattle.std.specs.Prelude.{ℕ, ◌-◌, ◌==◌, ◌||◌, nat_eq, nat_lt, codes, List, [], ◌∷◌, ◌++◌, length, take, Option, Some, None, chars, encode_utf8, if◌then◌else◌}
use Rattle.std.specs.List.{flat_map, ends_with}
use Rattle.std.specs.Str.{is_utf8}
use Rattle.cli_suites.specs.declared.job.Kind.{Kind}
use Rattle.cli_suites.specs.declared.job.Kind.TheVariants.{Screen, Map, Alone}
use Rattle.cli_suites.specs.Job.{Asked}
use Rattle.cli_suites.specs.Paths.{has_path}

-- what comes before the suffix, which is text as the path is
abbrev pub stem_of : List ℕ → List ℕ → Option (List ℕ)
stem_of path suffix =
    if ends_with nat_eq path suffix
    then (if is_utf8 (take (length path - length suffix) path) then Some (take (length path - length suffix) path) else None)
    else None

-- ---- names

-- what is no graphic is a question mark
abbrev pub plain_char : ℕ → List ℕ
plain_char c = if nat_lt c 32 || c == 127 then codes "?" else encode_utf8 c

abbrev pub plain_name : List ℕ → List ℕ
plain_name path = flat_map plain_char (chars path)

-- ---- what a path stands for

-- a path, and another one beside it
abbrev pub pair : Kind → List ℕ → List ℕ → List ℕ → Asked
pair kind name path other = record { kind = kind; name = plain_name name; records = path; layouts = other ∷ [] }

-- records: a screen with the layout beside them, whose name is the path without its suffix
abbrev pub records_job : List (List ℕ) → List ℕ → List ℕ → Asked
records_job paths stem path =
    if has_path paths (stem ++ codes ".toml") then pair Screen stem path (stem ++ codes ".toml") else pair Alone path path (stem ++ codes ".toml")

-- a layout: nothing of its own where records are beside it
abbrev pub layout_jobs : List (List ℕ) → List ℕ → List ℕ → List Asked
layout_jobs paths stem path = if has_path paths (stem ++ codes ".hex") then [] else pair Alone path path (stem ++ codes ".hex") ∷ []

abbrev pub map_job : List ℕ → Asked
map_job path = record { kind = Map; name = plain_name path; records = path; layouts = [] }

abbrev pub map_by : Option (List ℕ) → List ℕ → List Asked
map_by None path = []
map_by (Some stem) path = map_job path ∷ []

abbrev pub map_jobs : List ℕ → List Asked
map_jobs path = map_by (stem_of path (codes ".bms")) path

abbrev pub other_by : Option (List ℕ) → List (List ℕ) → List ℕ → List Asked
other_by None paths path = map_jobs path
other_by (Some stem) paths path = layout_jobs paths stem path

abbrev pub other_jobs : List (List ℕ) → List ℕ → List Asked
other_jobs paths path = other_by (stem_of path (codes ".toml")) paths path

abbrev pub jobs_by : Option (List ℕ) → List (List ℕ) → List ℕ → List Asked
jobs_by None paths path = other_jobs paths path
jobs_by (Some stem) paths path = records_job paths stem path ∷ []

abbrev pub jobs_in : List (List ℕ) → List ℕ → List Asked
jobs_in paths path = jobs_by (stem_of path (codes ".hex")) paths path

-- in the order of the paths
abbrev pub jobs_of_paths : List (List ℕ) → List Asked
jobs_of_paths paths = flat_map (jobs_in paths) paths
