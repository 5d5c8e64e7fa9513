use Rattle.std.proofs.Common.{[], ◌∷◌, ap, arith}
use Rattle.tn_wire.specs.declared.open_token.Open.TheVariants.{Nothing, Escape}
use Rattle.tn_wire.proofs.Bytes.{goes_on, data_taken, once}
use Rattle.tn_wire.proofs.open_token.take_first.Goals as goal

pub returns-then-byte-eq-IAC-clause-takes : goal.returns-then-byte-eq-IAC-clause-takes
returns-then-byte-eq-IAC-clause-takes c ps =
    goes_on c.args.kept.now.items [] c.args.byte c.requires.limit (omega arith) Nothing Escape (ap (λ z. z ∷ []) c.if-byte-eq-IAC.true)

pub returns-else-byte-eq-IAC-clause-takes : goal.returns-else-byte-eq-IAC-clause-takes
returns-else-byte-eq-IAC-clause-takes c ps =
    data_taken c.args.kept.now.items [] c.args.byte c.requires.limit (omega arith) Nothing c.args.byte c.push_data.new.kept.items ps
    c.push_data.result (once c.args.byte c.if-byte-eq-IAC.false) c.push_data.ensures.fits c.push_data.ensures.full
