use Rattle.std.proofs.Common.{◌∙◌, ap, arith}
use Rattle.ds_screen.specs.Fields.{is_attribute}
use Rattle.ds_screen.proofs.PlaneLaws.{counted, seen_at, attribute_at}
use Rattle.ds_screen.proofs.planes.Planes.has_attribute.Goals as goal

pub index-requires : goal.index-requires
index-requires c =
    omega (arith, c.requires, c.self.invariant.0.same, counted c.self.inside.codes.items c.self.inside.kinds.items c.self.inside.limit c.args.self.now c.self.view_is)

pub returns : goal.returns
returns c =
    c.eq.ensures
    ∙ attribute_at c.self.inside.codes.items c.self.inside.kinds.items c.args.p c.index.result.now c.self.invariant.0
    (omega (arith, c.requires, counted c.self.inside.codes.items c.self.inside.kinds.items c.self.inside.limit c.args.self.now c.self.view_is)) c.index.ensures
    ∙ ap is_attribute (seen_at c.self.inside.codes.items c.self.inside.kinds.items c.self.inside.limit c.args.self.now c.args.p c.self.view_is c.requires)
