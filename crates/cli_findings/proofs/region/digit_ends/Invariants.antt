use Rattle.std.proofs.Common.{◌≡◌, ◌+◌, ◌++◌, ◌==◌, not, drop}
use Rattle.cli_findings.specs.RecordLine.{numbers_of}
use Rattle.cli_findings.specs.Region.{digit_ends}
use Rattle.cli_findings.proofs.region.digit_ends.Given as goal

abbrev pub invariant-loop-byte : goal.invariant-loop-byte
invariant-loop-byte l =
    record {
      found : l.ends.items ++ numbers_of (λ b. not (b == 0x20)) l.after (drop l.byte-index l.line) ≡ digit_ends l.fn.line;
      at : l.after ≡ l.byte-index + 2;
    }
