use Rattle.std.proofs.Common.{sym, ◌∙◌}
use Rattle.ds_strokes.proofs.PressLaws.{on_free, on_waiting, on_error}
use Rattle.ds_strokes.proofs.step.strike_screen.Goals as goal

pub returns-in-Free : goal.returns-in-Free
returns-in-Free g c = c.strike_free.ensures ∙ on_free c.args.screen.now c.args.inserts c.args.stroke.now (sym c.lock.ensures ∙ c.in-Free.is)

pub returns-in-Waiting : goal.returns-in-Waiting
returns-in-Waiting g c = c.strike_locked.ensures ∙ on_waiting c.args.screen.now c.args.inserts c.args.stroke.now (sym c.lock.ensures ∙ c.in-Waiting.is)

pub returns-in-Error : goal.returns-in-Error
returns-in-Error g c = c.strike_locked-in-Error.ensures ∙ on_error c.args.screen.now c.args.inserts c.args.stroke.now (sym c.lock.ensures ∙ c.in-Error.is)
