use Rattle.std.proofs.Common.{◌≡◌, true, [], length, Ok}
use denote.Text.{Utf8}
use denote.Shadow.{shadow}
use Rattle.toml.specs.Data.{Items}
use Rattle.plain_tables.specs.Plain.{HasDone}
use Rattle.manifest_tables.specs.Tables.{tables_in, are_tables}
use Rattle.cli_suites.specs.declared.fault.ManifestKey.TheVariants.{Screen}
use Rattle.cli_suites.specs.declared.tables.JobTable.TheVariants as tables
use Rattle.cli_suites.specs.Fault.{key_text}
use Rattle.cli_suites.specs.Manifest.{jobs_from}
use Rattle.cli_suites.proofs.plain.screens.Given as goal

abbrev pub invariant-screens : goal.invariant-screens
invariant-screens l =
    shadow (Utf8 l.rest)
    × (done : Items) × (are_tables done ≡ true) × (length (tables_in done) ≡ l.count) × (jobs_from tables.Screen 0 [] (tables_in done) ≡ Ok l.jobs)
    × HasDone (key_text Screen) l.fn.s done l.rest
