use Rattle.std.proofs.Common.{◌≡◌, flat_map, string_bytes}
use Rattle.cli_suites.specs.Folder.{plain_char}
use Rattle.cli_suites.proofs.folder.plain_name.Given as goal

abbrev pub invariant-loop-character : goal.invariant-loop-character
invariant-loop-character l = string_bytes l.name ≡ flat_map plain_char l.yielded
