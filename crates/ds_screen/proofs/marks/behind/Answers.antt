use Rattle.std.proofs.Common.{sym, ◌∙◌, arith}
use Rattle.ds_screen.proofs.MarkLaws.{on_mod, after_text}
use Rattle.ds_screen.proofs.marks.behind.Goals as goal

pub returns-then-length-n-clause-value : goal.returns-then-length-n-clause-value
returns-then-length-n-clause-value c = c.forward.ensures.on ∙ sym (on_mod c.args.n c.args.b c.args.length c.requires (omega (arith, c.if-length-n.true)))

pub returns-else-length-n-clause-value : goal.returns-else-length-n-clause-value
returns-else-length-n-clause-value c = c.forward-else-length-n.ensures.on ∙ after_text c.args.n c.args.b c.args.length c.requires
