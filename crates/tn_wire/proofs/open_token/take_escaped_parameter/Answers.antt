use Rattle.std.proofs.Common.{◌≡◌, ◌≤◌, ℕ, List, [], ◌∷◌, ◌++◌, length, ◌∙◌, ap, inr, arith, append_assoc}
use Rattle.tn_wire.specs.declared.open_token.Open.TheVariants.{InsideEscape}
use Rattle.tn_wire.specs.declared.event.WireFault.TheVariants.{BadSub}
use Rattle.tn_wire.specs.Telnet.{quoted, subnegotiation}
use Rattle.tn_wire.specs.Open.{open_bytes}
use Rattle.tn_wire.proofs.Bytes.{parameter_taken, partial_state}
use Rattle.tn_wire.proofs.Steps.{completes, breaks}
use Rattle.tn_wire.proofs.open_token.take_escaped_parameter.Goals as goal

-- what is open and the byte
behind : (ps : List ℕ) (option byte : ℕ)
    → open_bytes ps (InsideEscape option) ++ byte ∷ [] ≡ 255 ∷ 250 ∷ (quoted (option ∷ ps) ++ 255 ∷ byte ∷ [])
behind ps option byte = ap (λ z. 255 ∷ 250 ∷ z) (append_assoc (quoted (option ∷ ps)) (255 ∷ []) (byte ∷ []))

pub returns-in-255-clause-takes : goal.returns-in-255-clause-takes
returns-in-255-clause-takes c d bound =
    let ps : List ℕ = c.args.parameters.now.items in
    parameter_taken d ps c.args.byte bound c.requires (InsideEscape c.args.option) c.args.option 255
    c.push_parameter.new.parameters.items c.push_parameter.result
    (behind ps c.args.option c.args.byte ∙ ap (λ z. 255 ∷ 250 ∷ (quoted (c.args.option ∷ ps) ++ 255 ∷ z ∷ [])) c.in-255.is)
    c.push_parameter.ensures.fits c.push_parameter.ensures.full

pub returns-in-240-clause-takes : goal.returns-in-240-clause-takes
returns-in-240-clause-takes c d bound =
    let ps : List ℕ = c.args.parameters.now.items in
    completes d (open_bytes ps (InsideEscape c.args.option)) c.args.byte bound
    (partial_state d ps (InsideEscape c.args.option) c.requires) (subnegotiation c.args.option ps) c.requires
    (behind ps c.args.option c.args.byte ∙ ap (λ z. 255 ∷ 250 ∷ (quoted (c.args.option ∷ ps) ++ 255 ∷ z ∷ [])) c.in-240.is)

pub returns-in_default-clause-takes : goal.returns-in_default-clause-takes
returns-in_default-clause-takes c d bound =
    let ps : List ℕ = c.args.parameters.now.items in
    let fits : length (c.args.option ∷ ps) ≤ 257 = let h : length ps ≤ 256 = c.requires in omega arith in
    breaks d (open_bytes ps (InsideEscape c.args.option)) c.args.byte bound
    (partial_state d ps (InsideEscape c.args.option) c.requires) BadSub
    (c.args.option ∷ ps, c.args.byte, fits, (λ e. omega arith), inr (λ e. omega arith), behind ps c.args.option c.args.byte)
