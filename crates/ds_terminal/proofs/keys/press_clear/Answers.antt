use Rattle.std.proofs.Common.{ap, sym, ◌∙◌}
use Rattle.ds_keys.specs.declared.key.Key.TheVariants.{Attention}
use Rattle.ds_terminal.specs.Terminal.{is_locked}
use Rattle.ds_terminal.proofs.SentKeys.{clear_pressed, locked_clear, free_clear, so_where_refused}
use Rattle.ds_terminal.proofs.keys.press_clear.Goals as goal

pub returns-in-Sent-clause-turned : goal.returns-in-Sent-clause-turned
returns-in-Sent-clause-turned g c =
    clear_pressed c.args.screen.now c.press.new.screen c.in-Sent.field-0 c.byte.result (Attention c.clear-2.result) c.press.result c.in_ok-bytes.bytes.items
    (ap Attention c.clear-2.ensures) c.press.ensures c.in-Sent.is c.in_ok-bytes.ensures.items (c.byte.ensures.value ∙ c.clear.ensures)

pub returns-then-is_locked-clause-turned : goal.returns-then-is_locked-clause-turned
returns-then-is_locked-clause-turned g c = locked_clear c.args.screen.now (sym (ap is_locked c.lock.ensures) ∙ (sym c.is_locked.ensures ∙ c.if-is_locked.true))

pub returns-in_err-bytes-clause-asks : goal.returns-in_err-bytes-clause-asks
returns-in_err-bytes-clause-asks g c = so_where_refused c.from_residual.result
    (free_clear c.args.screen.now (sym (ap is_locked c.lock.ensures) ∙ (sym c.is_locked.ensures ∙ c.if-is_locked.false)))
