use Rattle.std.proofs.Common.{◌∙◌, ap, arith}
use Rattle.ds_screen.specs.Fields.{ruling_after}
use Rattle.ds_screen.specs.Shown.{printed_under}
use Rattle.ds_screen.proofs.PlaneLaws.{counted, seen_at, read_at, storable_at}
use Rattle.ds_screen.proofs.planes.Planes.print.Goals as goal

pub index-requires : goal.index-requires
index-requires c =
    omega (arith, c.requires, c.self.invariant.0.same, counted c.self.inside.codes.items c.self.inside.kinds.items c.self.inside.limit c.args.self.now c.self.view_is)

pub index-requires-2 : goal.index-requires-2
index-requires-2 c =
    omega (arith, c.requires, counted c.self.inside.codes.items c.self.inside.kinds.items c.self.inside.limit c.args.self.now c.self.view_is)

pub ruled_by-ruled-requires : goal.ruled_by-ruled-requires
ruled_by-ruled-requires c =
    storable_at c.self.inside.codes.items c.self.inside.kinds.items c.args.p c.index-2.result.now c.index.result.now c.self.invariant.0
    (omega (arith, c.requires, counted c.self.inside.codes.items c.self.inside.kinds.items c.self.inside.limit c.args.self.now c.self.view_is)) c.index.ensures c.index-2.ensures

pub returns-clause-ruled : goal.returns-clause-ruled
returns-clause-ruled c =
    let seen = read_at c.self.inside.codes.items c.self.inside.kinds.items c.args.p c.index-2.result.now c.index.result.now c.self.invariant.0
    (omega (arith, c.requires, counted c.self.inside.codes.items c.self.inside.kinds.items c.self.inside.limit c.args.self.now c.self.view_is)) c.index.ensures c.index-2.ensures
    ∙ seen_at c.self.inside.codes.items c.self.inside.kinds.items c.self.inside.limit c.args.self.now c.args.p c.self.view_is c.requires in
    c.ruled_by-ruled.ensures ∙ ap (ruling_after c.args.ruling) seen

pub returns-clause-printed : goal.returns-clause-printed
returns-clause-printed c =
    let seen = read_at c.self.inside.codes.items c.self.inside.kinds.items c.args.p c.index-2.result.now c.index.result.now c.self.invariant.0
    (omega (arith, c.requires, counted c.self.inside.codes.items c.self.inside.kinds.items c.self.inside.limit c.args.self.now c.self.view_is)) c.index.ensures c.index-2.ensures
    ∙ seen_at c.self.inside.codes.items c.self.inside.kinds.items c.self.inside.limit c.args.self.now c.args.p c.self.view_is c.requires in
    c.printed_stored.ensures.value ∙ ap (printed_under c.ruled_by-ruled.result) seen
