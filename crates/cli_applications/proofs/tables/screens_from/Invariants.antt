use Rattle.std.proofs.Common.{◌≡◌, ◌≤◌, [], drop}
use Rattle.toml.specs.View.{items_view}
use Rattle.manifest_tables.specs.Tables.{tables_in}
use Rattle.cli_applications.specs.Manifest.{screens_from}
use Rattle.cli_applications.proofs.tables.screens_from.Given as goal

-- the screens so far, with those of the values that are left, are those of all
abbrev pub invariant-loop-value : goal.invariant-loop-value
invariant-loop-value l = record {
  screens : screens_from l.index l.screens.items (tables_in (items_view (drop l.value-index l.values))) ≡ screens_from 0 [] (tables_in (items_view l.fn.values));
  counted : l.index ≤ l.value-index;
}
