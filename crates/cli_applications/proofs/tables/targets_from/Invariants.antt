use Rattle.std.proofs.Common.{◌≡◌, [], drop}
use Rattle.toml.specs.View.{table_view}
use Rattle.cli_applications.specs.Manifest.{targets_from}
use Rattle.cli_applications.proofs.tables.targets_from.Given as goal

-- the targets so far, with those of the keys that are left, are those of all
abbrev pub invariant-loop-key : goal.invariant-loop-key
invariant-loop-key l = targets_from l.targets.items (drop l.key-index l.keys) (table_view l.table) ≡ targets_from [] l.fn.keys (table_view l.fn.table)
