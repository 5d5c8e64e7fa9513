use Rattle.std.proofs.Common.{◌≡◌, ◌++◌, map, drop}
use Rattle.std.specs.String.{string_bytes}
use Rattle.std.specs.List.{flat_map}
use Rattle.scr_check.specs.Bound.{bound_seen}
use Rattle.cli_binds.specs.Fields.{field_line}
use Rattle.cli_binds.proofs.fields.push_fields.Given as goal

abbrev pub invariant-loop-pair : goal.invariant-loop-pair
invariant-loop-pair l =
    string_bytes l.out ++ flat_map (field_line l.form l.entries) (map bound_seen (drop l.pair-index l.bound))
    ≡ string_bytes l.fn.out ++ flat_map (field_line l.form l.entries) (map bound_seen l.bound)
