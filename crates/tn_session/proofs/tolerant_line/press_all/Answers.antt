use Rattle.std.proofs.Common.{sym, ◌∙◌, ap, map}
use Rattle.tn_session.proofs.TolerantWork.{is_empty, press_waits, press_ends}
use Rattle.tn_session.proofs.tolerant_line.press_all.Goals as goal

pub returns-then-not-takes_input-clause-pressed : goal.returns-then-not-takes_input-clause-pressed
returns-then-not-takes_input-clause-pressed g c =
    press_waits (record { talk = c.args.session.now.talk; keys = map g.K.Keystroke.strike c.args.keys.now.now; inhibited = c.args.inhibited.now })
    (record { talk = c.keys.session.talk; keys = map g.K.Keystroke.strike c.keys.keys.now; inhibited = c.keys.inhibited })
    c.args.session.now.told c.keys.session.told c.args.due.now.items c.keys.due.items (g.K.Keystroke.strike c.in-Some.key.now)
    (map g.K.Keystroke.strike c.in-Some.rest.now) c.keys.invariant (ap (map g.K.Keystroke.strike) c.in-Some.ensures.cases.0)
    (sym c.takes_input.ensures ∙ c.if-not-takes_input.true)

pub returns-clause-pressed : goal.returns-clause-pressed
returns-clause-pressed g c =
    press_ends (record { talk = c.args.session.now.talk; keys = map g.K.Keystroke.strike c.args.keys.now.now; inhibited = c.args.inhibited.now })
    (record { talk = c.keys.session.talk; keys = map g.K.Keystroke.strike c.keys.keys.now; inhibited = c.keys.inhibited })
    c.args.session.now.told c.keys.session.told c.args.due.now.items c.keys.due.items c.keys.invariant
    (ap (map g.K.Keystroke.strike) (is_empty c.keys.keys.now c.in_default.ensures.cases))
