use Rattle.std.proofs.Common.{◌≡◌, ◌++◌, drop, map}
use Rattle.std.specs.String.{string_bytes}
use Rattle.cli_pictures.specs.Notes.{list_lines}
use Rattle.cli_pictures.proofs.list.push_all.Given as goal

abbrev pub invariant-loop-line : goal.invariant-loop-line
invariant-loop-line l =
    string_bytes l.out ++ list_lines l.class (map string_bytes (drop l.line-index l.lines)) ≡ string_bytes l.fn.out ++ list_lines l.class (map string_bytes l.lines)
