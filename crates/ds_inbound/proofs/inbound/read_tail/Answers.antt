use Rattle.std.proofs.lemmas.List.{take_rest}
use Rattle.ds_inbound.proofs.Split.{body_read}
use Rattle.ds_inbound.proofs.inbound.read_tail.Goals as goal

pub invariant_of-result : goal.invariant_of-result
invariant_of-result c =
    let says = body_read c.args.mode c.args.cells c.args.aid c.args.cursor c.run_length-length.result c.args.body.now c.in_ok-check_tail.ensures c.run_length-length.ensures.run in
    rw (take_rest c.args.body.now c.run_length-length.result) (says.whole, says.fields)

pub returns : goal.returns
returns c =
    let says = body_read c.args.mode c.args.cells c.args.aid c.args.cursor c.run_length-length.result c.args.body.now c.in_ok-check_tail.ensures c.run_length-length.ensures.run in
    rw (take_rest c.args.body.now c.run_length-length.result) says.says
