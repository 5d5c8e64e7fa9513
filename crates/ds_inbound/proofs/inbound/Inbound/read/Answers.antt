use Rattle.std.proofs.Common.{◌∙◌}
use Rattle.ds_inbound.proofs.Answers.{is_spelled, is_refused, read_again, read_refused}
use Rattle.ds_inbound.proofs.Laid.{read_laid}
use Rattle.ds_inbound.proofs.inbound.Inbound.read.Goals as goal

pub returns-clause-spelled : goal.returns-clause-spelled
returns-clause-spelled c = is_spelled c.args.mode c.args.cells c.args.bytes.now c.read_all.result c.read_all.ensures

pub returns-clause-only : goal.returns-clause-only
returns-clause-only c = λ answer spelled. c.read_all.ensures ∙ read_again c.args.mode c.args.cells c.args.bytes.now answer spelled

pub returns-clause-refused : goal.returns-clause-refused
returns-clause-refused c = is_refused c.args.mode c.args.cells c.args.bytes.now c.read_all.result c.read_all.ensures

pub returns-clause-refused_only : goal.returns-clause-refused_only
returns-clause-refused_only c = λ at why refused. c.read_all.ensures ∙ read_refused c.args.mode c.args.cells c.args.bytes.now at why refused

pub returns-clause-laid : goal.returns-clause-laid
returns-clause-laid c = read_laid c.args.mode c.args.cells c.args.bytes.now c.read_all.result (is_spelled c.args.mode c.args.cells c.args.bytes.now c.read_all.result c.read_all.ensures)
