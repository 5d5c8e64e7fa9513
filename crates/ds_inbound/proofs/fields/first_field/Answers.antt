use Rattle.std.proofs.Common.{Ok, drop, sym, ◌∙◌, ap}
use Rattle.std.proofs.lemmas.List.{take_rest}
use Rattle.ds_inbound.proofs.Split.{next_field, not_character, not_fault}
use Rattle.ds_inbound.proofs.fields.first_field.Goals as goal

pub invariant_of-result : goal.invariant_of-result
invariant_of-result c =
    let rest = c.args.rest.now in
    let taken = c.in-Ok.found.1 in
    let read = sym c.in-Ok.ensures.exact ∙ ap (λ i. Ok (i, taken)) c.in-Field.is in
    let size = rw (take_rest rest taken) at c.run_length-size.ensures.run in
    let one = next_field c.args.mode c.args.cells rest c.in-Field.place taken c.run_length-size.result read c.requires.fields size in
    rw (take_rest rest taken) record { whole = one.whole }

pub unreachable-requires : goal.unreachable-requires
unreachable-requires c =
    not_character c.args.mode c.args.cells c.args.rest.now c.in-Char.field-0 c.in-Ok.found.1 (sym c.in-Ok.ensures.exact ∙ ap (λ i. Ok (i, c.in-Ok.found.1)) c.in-Char.is) c.requires.fields

pub unreachable-requires-in-Err : goal.unreachable-requires-in-Err
unreachable-requires-in-Err c =
    not_fault c.args.mode c.args.cells c.args.rest.now c.in-Err.field-0 c.requires.some (sym c.in-Err.ensures.exact) c.requires.fields

pub returns-clause-first : goal.returns-clause-first
returns-clause-first c =
    let rest = c.args.rest.now in
    let taken = c.in-Ok.found.1 in
    let read = sym c.in-Ok.ensures.exact ∙ ap (λ i. Ok (i, taken)) c.in-Field.is in
    let size = rw (take_rest rest taken) at c.run_length-size.ensures.run in
    let one = next_field c.args.mode c.args.cells rest c.in-Field.place taken c.run_length-size.result read c.requires.fields size in
    rw (take_rest rest taken, take_rest (drop taken rest) c.run_length-size.result) one.first

pub returns-clause-others : goal.returns-clause-others
returns-clause-others c =
    let rest = c.args.rest.now in
    let taken = c.in-Ok.found.1 in
    let read = sym c.in-Ok.ensures.exact ∙ ap (λ i. Ok (i, taken)) c.in-Field.is in
    let size = rw (take_rest rest taken) at c.run_length-size.ensures.run in
    let one = next_field c.args.mode c.args.cells rest c.in-Field.place taken c.run_length-size.result read c.requires.fields size in
    rw (take_rest rest taken, take_rest (drop taken rest) c.run_length-size.result) one.later
