use Rattle.std.proofs.Common.{◌≡◌, rules, sym, subst}
use Rattle.ds_codec.specs.Geometry.{IsGood}
use Rattle.buffer_lines.specs.Left.{AreHeld, LeaveWhole}
use Rattle.buffer_lines.specs.Record.{record_of}
use Rattle.buffer_lines.proofs.Leaves.{leaves}
use Rattle.buffer_lines.proofs.record.record_of.Goals as goal

pub returns-clause-leaves : goal.returns-clause-leaves
returns-clause-leaves c =
    let good : IsGood c.args.geometry.now.mode c.args.geometry.now.alternate =
    subst (λ z. IsGood c.args.geometry.now.mode z) c.alternate_size.ensures.value c.alternate_size.ensures.good in
    let held : AreHeld c.args.cells.now = c.in_ok-push_cells.ensures.held in
    let is : c.push_cursor.new.out.items ≡ record_of c.args.geometry.now c.args.cells.now c.args.cursor = search rules in
    subst (λ z. LeaveWhole c.args.geometry.now c.args.cells.now c.args.cursor z) (sym is)
    (leaves c.args.geometry.now c.args.cells.now c.args.cursor good held c.requires)
