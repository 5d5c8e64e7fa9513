use Rattle.std.proofs.Common.{◌∙◌}
use Rattle.cli_findings.proofs.RecordLines.{ended}
use Rattle.cli_findings.proofs.region.begins.Goals as goal

pub returns : goal.returns
returns c = c.is_empty.ensures ∙ ended c.loop-byte.byte-index c.args.line.now c.loop-byte.rest.now c.loop-byte-test.false ∙ c.loop-byte.invariant
