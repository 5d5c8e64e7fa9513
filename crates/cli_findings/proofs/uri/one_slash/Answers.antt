use Rattle.std.proofs.Common.{◌∙◌, sym}
use Rattle.cli_findings.proofs.Slashes.{of_short}
use Rattle.cli_findings.proofs.uri.one_slash.Goals as goal

pub returns-in_default : goal.returns-in_default
returns-in_default c = sym (of_short c.loop-rest.rest.now c.in_default.len_below) ∙ c.loop-rest.invariant
