use Rattle.cli_characters.specs.Orders.{plain_line}
use Rattle.cli_characters.proofs.Parts.{goes_on, ends_so}
use Rattle.cli_characters.proofs.orders.plain_text.Goals as goal

pub loop-line-preserved : goal.loop-line-preserved
loop-line-preserved c =
    rw (c.in_ok-push.ensures.items, c.in_ok-extend_from_slice.ensures.items, c.as_slice.ensures.value, c.in_ok-plain_line.ensures)
    (goes_on plain_line c.loop-line.out.items c.loop-line.rest.now _ c.in-Some.line.now c.in-Some.others.now c.loop-line.invariant c.in-Some.ensures)

pub returns : goal.returns
returns c =
    rw (c.in_ok-extend_from_slice-2.ensures.items, c.as_slice-2.ensures.value, c.in_ok-plain_line-2.ensures)
    (ends_so plain_line c.loop-line.out.items c.loop-line.rest.now _ c.loop-line.invariant c.in_default.ensures)
