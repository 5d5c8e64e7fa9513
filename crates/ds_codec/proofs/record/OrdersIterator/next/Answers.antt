use Rattle.std.proofs.Common.{ℕ, length, sym, ap, ◌∙◌, arith, length-drop}
use Rattle.std.proofs.lemmas.List.{take_rest}
use Rattle.ds_codec.specs.Order.{item_of}
use Rattle.ds_codec.proofs.Walk.{ok_after, first_is, no_stop, some_left}
use Rattle.ds_codec.proofs.record.OrdersIterator.next.Goals as goal

pub invariant_of-self : goal.invariant_of-self
invariant_of-self c =
    rw (take_rest c.self.inside.rest.now c.in-Ok.length) (
      ok_after c.self.inside.mode c.self.inside.at c.self.inside.rest.now _ c.in-Ok.length c.in-Ok.ensures.exact c.in-Ok.ensures.some c.self.invariant.0,
      omega (arith, length-drop {A = ℕ}, c.self.invariant.1, c.in-Ok.ensures.inside),
    )

pub unreachable-requires : goal.unreachable-requires
unreachable-requires c =
    no_stop c.self.inside.mode c.self.inside.at c.self.inside.rest.now c.in-Err.field-0 (some_left _ (sym c.is_empty.ensures ∙ c.if-is_empty.false)) c.in-Err.ensures.exact c.self.invariant.0

pub returns-clause-steps : goal.returns-clause-steps
returns-clause-steps c =
    rw (← c.self.view_is, take_rest c.self.inside.rest.now c.in-Ok.length)
    (first_is c.self.inside.mode c.self.inside.at c.self.inside.rest.now (item_of c.in-Ok.order) c.in-Ok.length c.in-Ok.ensures.exact c.in-Ok.ensures.some c.self.invariant.0)

pub returns-clause-goes : goal.returns-clause-goes
returns-clause-goes c =
    let one = first_is c.self.inside.mode c.self.inside.at c.self.inside.rest.now (item_of c.in-Ok.order) c.in-Ok.length c.in-Ok.ensures.exact c.in-Ok.ensures.some c.self.invariant.0 in
    rw (← c.self.view_is, take_rest c.self.inside.rest.now c.in-Ok.length) record { on = λ f. (tt, tt, omega (arith, ap length one)); keeps = tt; rests = λ f. tt }
