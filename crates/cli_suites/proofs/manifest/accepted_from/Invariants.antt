use Rattle.std.proofs.Common.{◌≡◌, ◌≤◌, drop, []}
use Rattle.toml.specs.View.{items_view}
use Rattle.cli_suites.specs.Manifest.{accepted_from}
use Rattle.manifest_tables.specs.Tables.{tables_in}
use Rattle.cli_suites.proofs.manifest.accepted_from.Given as goal

-- the findings so far, with those of the values that are left, are those of all
abbrev pub invariant-loop-value : goal.invariant-loop-value
invariant-loop-value l = record {
  accepted : accepted_from l.jobs l.index l.accepted.items (tables_in (items_view (drop l.value-index l.values))) ≡ accepted_from l.fn.jobs 0 [] (tables_in (items_view l.fn.values));
  counted : l.index ≤ l.value-index;
}
