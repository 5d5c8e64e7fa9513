use Rattle.std.proofs.Common.{◌<◌, length, set, ◌∙◌, ap, arith}
use Rattle.ds_screen.specs.Planes.{Held, plane_cells}
use Rattle.ds_screen.proofs.PlaneLaws.{counted, planes_set}
use Rattle.ds_screen.proofs.planes.Planes.put.Goals as goal

pub index_mut-requires : goal.index_mut-requires
index_mut-requires c =
    omega (arith, c.requires, counted c.self.inside.codes.items c.self.inside.kinds.items c.self.inside.limit c.args.self.now c.self.view_is)

pub index_mut-requires-2 : goal.index_mut-requires-2
index_mut-requires-2 c =
    omega (arith, c.requires, c.self.invariant.0.same, counted c.self.inside.codes.items c.self.inside.kinds.items c.self.inside.limit c.args.self.now c.self.view_is)

pub returns : goal.returns
returns c =
    let lt : c.args.p < length c.self.inside.codes.items = omega (arith, c.requires, counted c.self.inside.codes.items c.self.inside.kinds.items c.self.inside.limit c.args.self.now c.self.view_is) in
    let cells =
    planes_set c.self.inside.codes.items c.self.inside.kinds.items c.args.p c.cell_stored-stored.result.code c.cell_stored-stored.result.kind c.self.invariant.0.same lt
    ∙ ap (set (plane_cells c.self.inside.codes.items c.self.inside.kinds.items) c.args.p) c.cell_stored-stored.ensures.same
    ∙ ap (λ (u : Held). set u.cells c.args.p c.args.cell) c.self.view_is in
    record {
      stored =
          ap (λ l. let h : Held = record { cells = l; room = c.self.inside.limit } in h) cells
          ∙ ap (λ r. let h : Held = record { cells = set c.args.self.now.cells c.args.p c.args.cell; room = r } in h) (ap (λ (u : Held). u.room) c.self.view_is);
    }
