use Rattle.std.proofs.Common.{◌≡◌, sym, ◌∙◌, subst}
use Rattle.std.specs.Result.{IfOk, OnErr}
use Rattle.ds_keys.specs.declared.key.Key.{Key}
use Rattle.ds_keys.specs.declared.key.Key.TheVariants.{Attention}
use Rattle.ds_terminal.specs.Terminal.{key_turn, pressed, IsSent}
use Rattle.ds_terminal.specs.Seen.{key_reply_seen}
use Rattle.ds_terminal.proofs.SentKeys.{clear_is, undone}
use Rattle.ds_terminal.proofs.keys.press_key.Goals as goal

pub returns-then-is_clear : goal.returns-then-is_clear
returns-then-is_clear g c =
    let P : Key → Type 0 = λ key. IfOk c.press_clear.result (λ reply. key_turn c.press_clear.new.screen (key_reply_seen reply) ≡ pressed c.args.screen.now key) in
    let Q : Key → Type 0 = λ key. OnErr c.press_clear.result (IsSent (pressed c.args.screen.now key).reply) in
    let clear : Attention 0x6D ≡ c.args.key = sym (clear_is c.args.key (sym c.is_clear.ensures ∙ c.if-is_clear.true)) in
    record {
      turned = subst P clear c.press_clear.ensures.turned;
      unchanged = c.press_clear.ensures.unchanged;
      asks = subst Q clear c.press_clear.ensures.asks;
    }

pub returns-in-Err-clause-unchanged : goal.returns-in-Err-clause-unchanged
returns-in-Err-clause-unchanged g c =
    undone c.args.screen.now c.press.new.screen c.set_aid.new.self c.set_lock.new.self c.args.key c.press.result c.in-Sent.field-0 c.aid-aid.result c.lock-lock.result
    (sym c.is_clear.ensures ∙ c.if-is_clear.false) c.press.ensures c.in-Sent.is c.set_aid.ensures.changed c.set_lock.ensures.changed c.aid-aid.ensures c.lock-lock.ensures
