use Rattle.std.proofs.Common.{ℕ, List, refl, subst}
use Rattle.tn_wire.specs.declared.open_token.Open.TheVariants.{Nothing, Command}
use Rattle.tn_wire.specs.Verbs.{verb_code}
use Rattle.tn_wire.specs.Telnet.{command}
use Rattle.tn_wire.specs.Open.{TakesByte, content_of, open_bytes}
use Rattle.tn_wire.proofs.Bytes.{partial_state, verb_is}
use Rattle.tn_wire.proofs.Steps.{completes}
use Rattle.tn_wire.proofs.open_token.take_byte.Goals as goal

pub returns-in-Nothing-clause-takes : goal.returns-in-Nothing-clause-takes
returns-in-Nothing-clause-takes c = rw c.in-Nothing.is (c.take_first.ensures.takes c.args.parameters.now.items)

pub returns-in-Told-clause-takes : goal.returns-in-Told-clause-takes
returns-in-Told-clause-takes c =
    let ps : List ℕ = c.args.parameters.now.items in
    let taken = c.take_first-in-Told in
    rw c.in-Told.is
    (subst (λ z. TakesByte (content_of z ps Nothing) c.args.byte taken.new.kept.items ps taken.result) c.clear.ensures.items
    (taken.ensures.takes ps))

pub returns-in-Escape-clause-takes : goal.returns-in-Escape-clause-takes
returns-in-Escape-clause-takes c = rw c.in-Escape.is (c.take_escaped.ensures.takes c.args.parameters.now.items)

pub returns-in-Command-clause-takes : goal.returns-in-Command-clause-takes
returns-in-Command-clause-takes c =
    let ps : List ℕ = c.args.parameters.now.items in
    rw c.in-Command.is
    (completes c.args.kept.now.items (open_bytes ps (Command c.in-Command.verb)) c.args.byte c.requires.record_fits
    (partial_state c.args.kept.now.items ps (Command c.in-Command.verb) c.requires.parameters_fit)
    (command (verb_code c.in-Command.verb) c.args.byte) (verb_is c.in-Command.verb) refl)
