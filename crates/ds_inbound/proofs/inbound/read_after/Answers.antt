use Rattle.std.proofs.Common.{sym}
use Rattle.ds_inbound.proofs.Split.{alone_whole, alone_fields, alone_says}
use Rattle.ds_inbound.proofs.inbound.read_after.Goals as goal

pub invariant_of-result : goal.invariant_of-result
invariant_of-result c = (alone_whole c.args.rest.now c.in-empty.len_below, alone_fields c.args.mode c.args.cells c.args.rest.now c.in-empty.len_below)

pub returns-in-empty : goal.returns-in-empty
returns-in-empty c = alone_says c.args.mode c.args.cells c.args.aid c.args.rest.now c.in-empty.len_below (sym c.if-is_short.ensures)
