use Rattle.std.proofs.Common.{◌≡◌, [], drop, map, string_bytes}
use Rattle.toml.specs.View.{items_view}
use Rattle.cli_suites.specs.Tables.{texts_of}
use Rattle.cli_suites.proofs.tables.texts_of.Given as goal

-- the texts so far, with those of the values that are left, are those of all
abbrev pub invariant-loop-value : goal.invariant-loop-value
invariant-loop-value l =
    texts_of l.key (map string_bytes l.texts.items) (items_view (drop l.value-index l.values)) ≡ texts_of l.fn.key [] (items_view l.fn.values)
