use Rattle.std.proofs.Common.{◌≡◌, ◌+◌, ◌++◌, drop, map}
use Rattle.std.specs.String.{string_bytes}
use Rattle.cli_pictures.specs.Notes.{names_listed}
use Rattle.cli_pictures.proofs.list.names_listed.Given as goal

abbrev pub invariant-loop-index : goal.invariant-loop-index
invariant-loop-index l =
    map string_bytes l.lines.items ++ names_listed l.screen l.entries (l.index + 1) (drop l.index l.entries) ≡ names_listed l.screen l.entries 1 l.entries
