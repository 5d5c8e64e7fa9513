use Rattle.std.proofs.Common.{ℕ, List, [], ◌∷◌, ◌++◌, ap}
use Rattle.tn_wire.specs.declared.open_token.Open.TheVariants.{Inside, InsideEscape}
use Rattle.tn_wire.specs.Telnet.{quoted}
use Rattle.tn_wire.proofs.Bytes.{goes_on, parameter_taken, once}
use Rattle.tn_wire.proofs.open_token.take_parameter.Goals as goal

pub returns-then-byte-eq-IAC-clause-takes : goal.returns-then-byte-eq-IAC-clause-takes
returns-then-byte-eq-IAC-clause-takes c d bound =
    goes_on d c.args.parameters.now.items c.args.byte bound c.requires (Inside c.args.option) (InsideEscape c.args.option)
    (ap (λ z. 255 ∷ 250 ∷ (quoted (c.args.option ∷ c.args.parameters.now.items) ++ z ∷ [])) c.if-byte-eq-IAC.true)

pub returns-else-byte-eq-IAC-clause-takes : goal.returns-else-byte-eq-IAC-clause-takes
returns-else-byte-eq-IAC-clause-takes c d bound =
    let ps : List ℕ = c.args.parameters.now.items in
    parameter_taken d ps c.args.byte bound c.requires (Inside c.args.option) c.args.option c.args.byte
    c.push_parameter.new.parameters.items c.push_parameter.result
    (ap (λ z. 255 ∷ 250 ∷ (quoted (c.args.option ∷ ps) ++ z)) (once c.args.byte c.if-byte-eq-IAC.false))
    c.push_parameter.ensures.fits c.push_parameter.ensures.full
