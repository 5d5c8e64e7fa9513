use Rattle.std.proofs.Common.{◌≡◌, ◌++◌, drop}
use Rattle.std.specs.List.{flat_map}
use Rattle.std.specs.String.{string_bytes}
use Rattle.cli_maps.specs.Lines.{map_line}
use Rattle.cli_maps.proofs.lines.push_all.Given as goal

abbrev pub invariant-loop-finding : goal.invariant-loop-finding
invariant-loop-finding l =
    string_bytes l.out ++ flat_map (map_line l.map l.entries) (drop l.finding-index l.findings)
    ≡ string_bytes l.fn.out ++ flat_map (map_line l.map l.entries) l.findings
