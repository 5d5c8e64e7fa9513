use Rattle.std.proofs.Common.{◌≡◌, ◌≤◌, drop}
use Rattle.toml.specs.View.{items_view}
use Rattle.cli_suites.specs.Manifest.{jobs_from}
use Rattle.manifest_tables.specs.Tables.{tables_in}
use Rattle.cli_suites.proofs.manifest.jobs_from.Given as goal

-- the jobs so far, with those of the values that are left, are those of all
abbrev pub invariant-loop-value : goal.invariant-loop-value
invariant-loop-value l = record {
  jobs : jobs_from l.kind l.index l.jobs (tables_in (items_view (drop l.value-index l.values))) ≡ jobs_from l.fn.kind 0 l.fn.before (tables_in (items_view l.fn.values));
  counted : l.index ≤ l.value-index;
}
