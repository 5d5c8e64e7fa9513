use Rattle.std.proofs.Common.{◌∙◌, ap, arith}
use Rattle.ds_screen.specs.Fields.{attribute_of}
use Rattle.ds_screen.proofs.PlaneLaws.{counted, seen_at, read_at, storable_at}
use Rattle.ds_screen.proofs.planes.Planes.attribute.Goals as goal

pub index-requires : goal.index-requires
index-requires c =
    omega (arith, c.requires, c.self.invariant.0.same, counted c.self.inside.codes.items c.self.inside.kinds.items c.self.inside.limit c.args.self.now c.self.view_is)

pub index-requires-2 : goal.index-requires-2
index-requires-2 c =
    omega (arith, c.requires, counted c.self.inside.codes.items c.self.inside.kinds.items c.self.inside.limit c.args.self.now c.self.view_is)

pub attribute_of-requires : goal.attribute_of-requires
attribute_of-requires c =
    storable_at c.self.inside.codes.items c.self.inside.kinds.items c.args.p c.index-2.result.now c.index.result.now c.self.invariant.0
    (omega (arith, c.requires, counted c.self.inside.codes.items c.self.inside.kinds.items c.self.inside.limit c.args.self.now c.self.view_is)) c.index.ensures c.index-2.ensures

pub returns : goal.returns
returns c =
    c.attribute_of.ensures
    ∙ ap attribute_of (read_at c.self.inside.codes.items c.self.inside.kinds.items c.args.p c.index-2.result.now c.index.result.now c.self.invariant.0
    (omega (arith, c.requires, counted c.self.inside.codes.items c.self.inside.kinds.items c.self.inside.limit c.args.self.now c.self.view_is)) c.index.ensures c.index-2.ensures
    ∙ seen_at c.self.inside.codes.items c.self.inside.kinds.items c.self.inside.limit c.args.self.now c.args.p c.self.view_is c.requires)
