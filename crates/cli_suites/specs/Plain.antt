-- A manifest of screens alone beside the grammar of TOML: what stands behind the header of each.
use Rattle.std.specs.Prelude.{◌≡◌, ℕ, ◌<◌, ◌≤◌, true, List, [], length, Some, Ok, String, string_bytes}
use Rattle.std.specs.Borrow.{Bor}
use Rattle.std.specs.declared.alloc.Global.{Global}
use Rattle.toml_parser.specs.Lexical.{skip_blank}
use Rattle.toml.specs.Data.{string, Items, Members, no_members}
use Rattle.toml.specs.Tables.{key_value}
use Rattle.toml.specs.Parse.{line}
use Rattle.plain_tables.specs.Plain.{GoesOn, AreTables}
use Rattle.manifest_tables.specs.Tables.{tables_in, are_tables}
use Rattle.manifest_tables.specs.Values.{is_plain}
use Rattle.cli_suites.specs.declared.fault.ManifestKey.{ManifestKey}
use Rattle.cli_suites.specs.declared.fault.ManifestKey.TheVariants.{Screen}
use Rattle.cli_suites.specs.declared.tables.JobTable.TheVariants as tables
use Rattle.cli_suites.specs.Fault.{key_text}
use Rattle.cli_suites.specs.Job.{Asked}
use Rattle.cli_suites.specs.Manifest.{jobs_from}
use Rattle.cli_suites.specs.Tables.{screen_of}

-- the next line of the text is a pair of the key and a value that a manifest may have, before the rest
abbrev pub Says : ManifestKey → List ℕ → List ℕ → List ℕ → Type 0
Says key text value rest =
    (line (skip_blank text) ≡ Some ((([], key_text key), key_value (string value)), rest))
    × (length rest < length (skip_blank text)) × (length (skip_blank text) ≤ length text) × (is_plain value ≡ true)

abbrev pub IsText : ManifestKey → List ℕ → String Global × Bor (List ℕ) → Type 0
IsText key text p = Says key text (string_bytes p.0) p.1.now

-- the pairs at the front of the text are those of a table that is this screen, and what follows them
abbrev pub IsScreen : List ℕ → Asked × Bor (List ℕ) → Type 0
IsScreen text p = (fields : Members) × GoesOn no_members text fields p.1.now × (screen_of fields ≡ Ok p.0)

-- the text behind the first header `screen` has tables that are these screens, and nothing else
abbrev pub HasScreens : List ℕ → List Asked → Type 0
HasScreens text jobs =
    (items : Items) × AreTables (key_text Screen) text items × (are_tables items ≡ true) × (length (tables_in items) ≤ 10000)
    × (jobs_from tables.Screen 0 [] (tables_in items) ≡ Ok jobs)
