use Rattle.scr_draft.specs.Opened.{held}
use Rattle.scr_draft.proofs.OpenLaw.{opened_fits}
use Rattle.scr_draft.proofs.opening.open.Goals as goal

pub returns-clause-none : goal.returns-clause-none
returns-clause-none c = opened_fits c.args.geometry (held c.args.records.now) c.opened_by.result c.opened_by.ensures.opened
