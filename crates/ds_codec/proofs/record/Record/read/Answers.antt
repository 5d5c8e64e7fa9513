use Rattle.std.proofs.Common.{◌∙◌}
use Rattle.ds_codec.proofs.Records.{is_spelled, is_refused, read_again, read_refused}
use Rattle.ds_codec.proofs.Laid.{is_laid}
use Rattle.ds_codec.proofs.record.Record.read.Goals as goal

pub returns-clause-spelled : goal.returns-clause-spelled
returns-clause-spelled c = is_spelled c.args.mode c.args.bytes.now c.read_all.result c.read_all.ensures

pub returns-clause-only : goal.returns-clause-only
returns-clause-only c = λ message spelled. c.read_all.ensures ∙ read_again c.args.mode c.args.bytes.now message spelled

pub returns-clause-refused : goal.returns-clause-refused
returns-clause-refused c = is_refused c.args.mode c.args.bytes.now c.read_all.result c.read_all.ensures

pub returns-clause-refused_only : goal.returns-clause-refused_only
returns-clause-refused_only c = λ at why refused. c.read_all.ensures ∙ read_refused c.args.mode c.args.bytes.now at why refused

pub returns-clause-laid : goal.returns-clause-laid
returns-clause-laid c = is_laid c.args.mode c.args.bytes.now c.read_all.result c.read_all.ensures
