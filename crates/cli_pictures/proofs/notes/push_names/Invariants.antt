use Rattle.std.proofs.Common.{◌≡◌, ◌+◌, ◌++◌, drop}
use Rattle.std.specs.String.{string_bytes}
use Rattle.cli_pictures.specs.Notes.{names_from}
use Rattle.cli_pictures.proofs.notes.push_names.Given as goal

abbrev pub invariant-loop-index : goal.invariant-loop-index
invariant-loop-index l =
    string_bytes l.out ++ names_from l.screen l.entries (l.index + 1) (drop l.index l.entries) ≡ string_bytes l.fn.out ++ names_from l.screen l.entries 1 l.entries
