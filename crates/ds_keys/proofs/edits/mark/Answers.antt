use Rattle.std.proofs.Common.{set, sym, ◌∙◌, ap}
use Rattle.ds_codec.specs.declared.cell.Cell.TheVariants.{Field}
use Rattle.ds_screen.specs.Picture.{Picture}
use Rattle.ds_keys.proofs.RunLaws.{with_cells, mark_none, mark_some, mark_kept}
use Rattle.ds_keys.proofs.edits.mark.Goals as goal

pub returns-then-not-modified : goal.returns-then-not-modified
returns-then-not-modified g c =
    let v : Picture = c.args.screen.now in
    c.set_attr.ensures.changed ∙ ap (λ x. with_cells v (set v.cells c.in-Some.q (Field x))) c.with_modified.ensures
    ∙ ap (with_cells v) (mark_some v.cells c.args.p c.in-Some.q c.in-Field.attribute c.in-Some.ensures.inside c.in-Some.ensures.nearest (sym c.cell.ensures ∙ c.in-Field.is))

pub returns-else-not-modified : goal.returns-else-not-modified
returns-else-not-modified g c =
    let v : Picture = c.args.screen.now in
    ap (with_cells v) (mark_kept v.cells c.args.p c.in-Some.q c.in-Field.attribute c.in-Some.ensures.inside c.in-Some.ensures.nearest (sym c.cell.ensures ∙ c.in-Field.is)
    (sym c.modified.ensures ∙ c.if-not-modified.false))

pub returns-in_default : goal.returns-in_default
returns-in_default g c =
    let v : Picture = c.args.screen.now in
    ap (with_cells v) (mark_none v.cells c.args.p (sym c.in_default.is ∙ c.attr_before.ensures.nearest))
