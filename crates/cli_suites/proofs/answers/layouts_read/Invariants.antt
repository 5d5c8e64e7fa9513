use Rattle.std.proofs.Common.{◌≡◌, [], drop, map, string_bytes}
use Rattle.std.specs.Prelude.{IfSome}
use Rattle.cli_commands.specs.Held.{records_held}
use Rattle.cli_suites.specs.Answers.{layouts_read}
use Rattle.cli_suites.proofs.answers.layouts_read.Given as goal

-- what is read so far, with the files that are left, is what is read of all
abbrev pub invariant-loop-path : goal.invariant-loop-path
invariant-loop-path g l =
    IfSome (g.F.Files.contents l.files) (λ held.
    layouts_read held (records_held l.read.items) (map string_bytes (drop l.path-index l.paths)) ≡ layouts_read held [] (map string_bytes l.paths))
