use Rattle.std.proofs.Common.{sym, ap, length, arith}
use Rattle.std.proofs.lemmas.List.{take_rest}
use Rattle.ds_inbound.proofs.Glyphs.{characters_step, characters_stop}
use Rattle.ds_inbound.proofs.characters.CharactersIterator.next.Goals as goal

pub returns-in-Ok-clause-steps : goal.returns-in-Ok-clause-steps
returns-in-Ok-clause-steps c =
    rw (← c.self.view_is, take_rest c.self.inside.rest.now c.in-Ok.found.1)
    (characters_step c.self.inside.rest.now c.in-Ok.found (sym c.in-Ok.ensures.exact))

pub returns-in-Ok-clause-goes : goal.returns-in-Ok-clause-goes
returns-in-Ok-clause-goes c =
    let one = characters_step c.self.inside.rest.now c.in-Ok.found (sym c.in-Ok.ensures.exact) in
    rw (← c.self.view_is, take_rest c.self.inside.rest.now c.in-Ok.found.1) record { on = λ f. (tt, tt, omega (arith, ap length one)); keeps = tt; rests = λ f. tt }

pub returns-in-Err-clause-steps : goal.returns-in-Err-clause-steps
returns-in-Err-clause-steps c =
    let none = characters_stop c.self.inside.rest.now c.in-Err.field-0 (sym c.in-Err.ensures.exact) in
    rw (← c.self.view_is) (none, none)
