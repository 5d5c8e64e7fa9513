use Rattle.std.proofs.Common.{◌≡◌, ◌++◌, length}
use Rattle.cli_commands.specs.Records.{without_spaces}
use Rattle.cli_commands.proofs.input.records.strip_spaces.Given as goal

-- what is put, and what the rest has beside its spaces
abbrev pub invariant-words : goal.invariant-words
invariant-words l = l.buffer.items ++ without_spaces l.rest ≡ without_spaces l.line

abbrev pub decreases-words : goal.decreases-words
decreases-words l = length l.rest
