use Rattle.std.proofs.Common.{◌≡◌, ◌++◌, drop}
use Rattle.std.specs.String.{string_bytes}
use Rattle.std.specs.List.{flat_map}
use Rattle.cli_pictures.specs.Notes.{escaped_byte}
use Rattle.cli_pictures.proofs.notes.push_words.Given as goal

abbrev pub invariant-loop-byte : goal.invariant-loop-byte
invariant-loop-byte l =
    string_bytes l.out ++ flat_map escaped_byte (drop l.byte-index l.bytes) ≡ string_bytes l.fn.out ++ flat_map escaped_byte l.bytes
