use Rattle.std.proofs.Common.{[], ◌∷◌, ap}
use Rattle.tn_wire.specs.declared.open_token.Open.TheVariants.{Start, StartEscape}
use Rattle.tn_wire.proofs.Bytes.{goes_on, option_taken, once}
use Rattle.tn_wire.proofs.open_token.take_option.Goals as goal

pub returns-then-byte-eq-IAC-clause-takes : goal.returns-then-byte-eq-IAC-clause-takes
returns-then-byte-eq-IAC-clause-takes c d bound =
    goes_on d c.args.parameters.now.items c.args.byte bound c.requires Start StartEscape (ap (λ z. 255 ∷ 250 ∷ z ∷ []) c.if-byte-eq-IAC.true)

pub returns-else-byte-eq-IAC-clause-takes : goal.returns-else-byte-eq-IAC-clause-takes
returns-else-byte-eq-IAC-clause-takes c d bound =
    option_taken d c.args.byte c.args.byte bound Start c.clear.new.self.items c.clear.ensures
    (ap (λ z. 255 ∷ 250 ∷ z) (once c.args.byte c.if-byte-eq-IAC.false))
