use Rattle.std.proofs.Common.{length}
use Rattle.script_lines.proofs.QuotedLaws.{IsReading}
use Rattle.script_lines.proofs.quoted.unquoted.Given as goal

abbrev pub invariant-bytes : goal.invariant-bytes
invariant-bytes l = IsReading l.text.items l.rest l.bytes

abbrev pub decreases-bytes : goal.decreases-bytes
decreases-bytes l = length l.rest
