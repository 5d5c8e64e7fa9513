use Rattle.std.proofs.Common.{◌∙◌, subst}
use Rattle.ds_terminal.specs.Terminal.{KeyTurn, IsSent}
use Rattle.ds_terminal.specs.Seen.{key_reply_seen}
use Rattle.ds_terminal.proofs.SentKeys.{so_where_refused}
use Rattle.ds_terminal.proofs.StrokeLaws.{attention_turn, attention_inserts}
use Rattle.ds_terminal.proofs.strokes.strike_attention.Goals as goal

pub returns-clause-turned : goal.returns-clause-turned
returns-clause-turned g c = c.in_ok-reply.ensures.turned ∙ attention_turn c.args.screen.now c.args.inserts.now c.args.aid

pub returns-clause-inserts : goal.returns-clause-inserts
returns-clause-inserts g c =
    c.inserts_after.ensures
    ∙ attention_inserts c.args.screen.now c.args.inserts.now c.args.aid c.press_key.new.screen (key_reply_seen c.in_ok-reply.reply) c.in_ok-reply.ensures.turned

pub returns-in_err-reply-clause-asks : goal.returns-in_err-reply-clause-asks
returns-in_err-reply-clause-asks g c =
    let P : KeyTurn → Type 0 = λ turn. IsSent turn.reply in
    so_where_refused c.from_residual.result (subst P (attention_turn c.args.screen.now c.args.inserts.now c.args.aid) c.in_err-reply.ensures.asks)
