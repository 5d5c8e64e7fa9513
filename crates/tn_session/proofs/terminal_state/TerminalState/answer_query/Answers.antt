use Rattle.std.proofs.Common.{◌∙◌, ◌++◌, ap}
use Rattle.ds_screen.specs.Picture.{Picture}
use Rattle.ds_codec.specs.Geometry.{Sizes}
use Rattle.ds_structured.specs.Fields.{wanted_seen}
use Rattle.ds_structured.specs.Replies.{query_reply}
use Rattle.tn_session.specs.TerminalLog.{answer_due}
use Rattle.tn_session.proofs.terminal_state.TerminalState.answer_query.Goals as goal

pub returns-clause-due : goal.returns-clause-due
returns-clause-due c =
    c.in_ok-send.ensures.due
    ∙ ap (λ bytes. c.args.due.now.items ++ answer_due c.args.agreed c.args.self.now bytes)
    (c.deref.ensures.value ∙ c.in_ok-bytes.ensures
    ∙ ap (λ (sizes : Sizes). query_reply sizes (wanted_seen c.args.wanted)) (c.geometry-geometry.ensures.value ∙ ap (λ (v : Picture). v.geometry) c.screen.ensures))
