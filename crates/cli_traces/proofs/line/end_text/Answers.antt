use Rattle.std.proofs.Common.{◌∙◌, sym}
use Rattle.std.specs.String.{string_bytes}
use Rattle.cli_traces.specs.Held.{following_seen}
use Rattle.cli_traces.proofs.ByteLines.{open_at, text_stays}
use Rattle.cli_traces.proofs.line.end_text.Goals as goal

pub returns-else-ends_text-clause-adds : goal.returns-else-ends_text-clause-adds
returns-else-ends_text-clause-adds c =
    text_stays c.args.asked c.args.number c.args.side (following_seen c.args.follower.now) (string_bytes c.args.out.now)
    (sym c.ends_text.ensures ∙ c.if-ends_text.false) (open_at c.args.side c.args.follower.now c.requires.ready)
