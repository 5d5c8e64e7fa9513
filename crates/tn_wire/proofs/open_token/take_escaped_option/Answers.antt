use Rattle.std.proofs.Common.{[], ◌∷◌, refl, ap, inl, arith}
use Rattle.tn_wire.specs.declared.open_token.Open.TheVariants.{StartEscape}
use Rattle.tn_wire.specs.declared.event.WireFault.TheVariants.{BadSub}
use Rattle.tn_wire.proofs.Bytes.{option_taken, partial_state}
use Rattle.tn_wire.proofs.Steps.{breaks}
use Rattle.tn_wire.proofs.open_token.take_escaped_option.Goals as goal

pub returns-then-byte-eq-IAC-clause-takes : goal.returns-then-byte-eq-IAC-clause-takes
returns-then-byte-eq-IAC-clause-takes c d bound =
    option_taken d c.args.byte 255 bound StartEscape c.clear.new.self.items c.clear.ensures
    (ap (λ z. 255 ∷ 250 ∷ 255 ∷ z ∷ []) c.if-byte-eq-IAC.true)

pub returns-else-byte-eq-IAC-clause-takes : goal.returns-else-byte-eq-IAC-clause-takes
returns-else-byte-eq-IAC-clause-takes c d bound =
    breaks d (255 ∷ 250 ∷ 255 ∷ []) c.args.byte bound (partial_state d [] StartEscape (omega arith)) BadSub
    ([], c.args.byte, omega arith, c.if-byte-eq-IAC.false, inl refl, refl)
