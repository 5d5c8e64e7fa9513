use Rattle.std.proofs.Common.{◌+◌, ◌-◌, not, true, false, refl, sym, ◌∙◌, ap, arith}
use Rattle.ds_screen.proofs.PlaneLaws.{counted}
use Rattle.ds_screen.proofs.NullLaws.{nulls_seen}
use Rattle.ds_screen.proofs.planes.Planes.are_nulls.Goals as goal

pub slice_bounds-are_zeros-end : goal.slice_bounds-are_zeros-end
slice_bounds-are_zeros-end c =
    omega (arith, c.requires, counted c.self.inside.codes.items c.self.inside.kinds.items c.self.inside.limit c.args.self.now c.self.view_is)

pub slice_bounds-contains-end : goal.slice_bounds-contains-end
slice_bounds-contains-end c =
    omega (arith, c.requires, c.self.invariant.0.same, counted c.self.inside.codes.items c.self.inside.kinds.items c.self.inside.limit c.args.self.now c.self.view_is)

pub returns-then-are_zeros : goal.returns-then-are_zeros
returns-then-are_zeros c =
    ap not c.contains.ensures.value
    ∙ nulls_seen c.self.inside.codes.items c.self.inside.kinds.items c.self.inside.limit c.args.from c.args.count (c.args.from + c.args.count - c.args.from) c.args.self.now true
    c.deref.result.now c.deref-then-are_zeros.result.now c.self.invariant.0.same c.self.view_is c.requires (omega arith) c.deref.ensures.value c.deref-then-are_zeros.ensures.value (sym c.if-are_zeros.true ∙ c.are_zeros.ensures)

pub returns-else-are_zeros : goal.returns-else-are_zeros
returns-else-are_zeros c =
    c.if-are_zeros.false
    ∙ nulls_seen c.self.inside.codes.items c.self.inside.kinds.items c.self.inside.limit c.args.from c.args.count (c.args.from + c.args.count - c.args.from) c.args.self.now false
    c.deref.result.now c.self.inside.kinds.items c.self.invariant.0.same c.self.view_is c.requires (omega arith) c.deref.ensures.value refl (sym c.if-are_zeros.false ∙ c.are_zeros.ensures)
