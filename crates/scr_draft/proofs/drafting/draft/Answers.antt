use Rattle.scr_draft.proofs.ReadLaw.{drafted_reads, drafted_printed}
use Rattle.scr_draft.proofs.OpenLaw.{drafted_says}
use Rattle.scr_draft.proofs.drafting.draft.Goals as goal

pub returns-clause-printed : goal.returns-clause-printed
returns-clause-printed c = λ few. drafted_printed c.args.screen.now few

pub returns-clause-reads : goal.returns-clause-reads
returns-clause-reads c = drafted_reads c.args.screen.now c.drafted.result c.size-size.ensures.sound c.drafted.ensures.exact

pub returns-clause-best : goal.returns-clause-best
returns-clause-best c = drafted_says c.args.screen.now c.drafted.result c.size-size.ensures.sound c.drafted.ensures.exact
