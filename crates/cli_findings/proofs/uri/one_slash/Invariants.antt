use Rattle.std.proofs.Common.{◌≡◌, length}
use Rattle.cli_findings.specs.Uri.{one_slash}
use Rattle.cli_findings.proofs.uri.one_slash.Given as goal

abbrev pub invariant-loop-rest : goal.invariant-loop-rest
invariant-loop-rest l = one_slash l.rest ≡ one_slash l.fn.path

abbrev pub decreases-loop-rest : goal.decreases-loop-rest
decreases-loop-rest l = length l.rest
