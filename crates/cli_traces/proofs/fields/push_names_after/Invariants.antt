use Rattle.std.proofs.Common.{◌≡◌, ◌++◌, length}
use Rattle.std.specs.String.{string_bytes}
use Rattle.cli_traces.specs.Fields.{fields_in, names_after}
use Rattle.cli_traces.proofs.fields.push_names_after.Given as goal

-- what was pushed, and what is to be
abbrev pub invariant-loop-field : goal.invariant-loop-field
invariant-loop-field l = string_bytes l.out ++ names_after (fields_in l.rest) ≡ string_bytes l.fn.out ++ names_after (fields_in l.fields)

abbrev pub decreases-loop-field : goal.decreases-loop-field
decreases-loop-field l = length l.rest
