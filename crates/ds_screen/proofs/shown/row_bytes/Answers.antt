use Rattle.std.proofs.Common.{◌≡◌, ◌-◌, ◌<◌, All, List, length, refl, sym, subst, ◌∙◌, ap, arith}
use Rattle.std.proofs.lemmas.List.Elements.{All-push, All-replicate}
use Rattle.ds_codec.specs.declared.cell.Cell.{Cell}
use Rattle.ds_screen.specs.Picture.{cell_at}
use Rattle.ds_screen.specs.Fields.{ruling_bits}
use Rattle.ds_screen.specs.Shown.{printed_cell, printed_under}
use Rattle.ds_screen.proofs.RowLaws.{printed_part, one_more, row_kept, row_stored}
use Rattle.ds_screen.proofs.NullLaws.{full_stops, nulls_printed}
use Rattle.ds_screen.proofs.RuledLaws.{back_to_here}
use Rattle.ds_screen.proofs.RulingLaws.{ruled_here}
use Rattle.ds_screen.proofs.shown.row_bytes.Goals.{then-byte-ne46, else-byte-ne46}
use Rattle.ds_screen.proofs.shown.row_bytes.Goals as goal

pub places-preserved : goal.places-preserved
places-preserved g c =
    let cells : List Cell = g.C.Cells.content c.args.cells.now in
    let at = c.places.at in
    let byte = c.print-ruled.result.1 in
    let inside : at < length cells = omega (arith, c.requires.inside, c.places-test.true) in
    let bits : c.print-ruled.result.0 ≡ ruling_bits cells at =
    ruled_here cells at c.places.ruling c.print-ruled.result.0 (cell_at cells at) inside c.places.invariant.ruled c.print-ruled.ensures.ruled refl in
    let here : byte ≡ printed_cell cells at = c.print-ruled.ensures.printed ∙ ap (λ b. printed_under b (cell_at cells at)) bits in
    record {
      printed = elim c.if-byte-ne46.branch [
        | then-byte-ne46 w ↦ ap (λ v. v.items) w.bytes-is
            ∙ row_stored cells c.args.start c.args.columns at (at - c.args.start) byte c.places.bytes.items c.places.auto.at c.places-test.true refl c.places.invariant.printed here
        | else-byte-ne46 w ↦ ap (λ v. v.items) w.bytes-is
            ∙ row_kept cells c.args.start c.args.columns at c.places.bytes.items c.places.auto.at c.places-test.true c.places.invariant.printed (sym w.if-byte-ne46.false ∙ here)
      ];
      ruled = bits ∙ ap (ruling_bits cells) (sym (back_to_here (length cells) at));
      ascii = subst (λ xs. All (λ byte. byte < 128) xs) (one_more cells c.args.start at c.places.auto.at)
          (All-push (λ byte. byte < 128) (printed_part cells c.args.start at) (printed_cell cells at) c.places.invariant.ascii
          (subst (λ b. b < 128) here c.print-ruled.ensures.ascii));
    }

pub returns-then-are_nulls-clause-printed : goal.returns-then-are_nulls-clause-printed
returns-then-are_nulls-clause-printed g c =
    full_stops c.args.columns _ c.new-bytes.result.items c.resize.new.self.items c.new-bytes.ensures.items c.new-bytes.ensures.len c.in_ok-resize.ensures.items
    ∙ nulls_printed (g.C.Cells.content c.args.cells.now) c.args.start c.args.columns (sym c.are_nulls.ensures ∙ c.if-are_nulls.true)

pub returns-then-are_nulls-clause-ascii : goal.returns-then-are_nulls-clause-ascii
returns-then-are_nulls-clause-ascii g c =
    subst (λ xs. All (λ byte. byte < 128) xs)
    (sym (full_stops c.args.columns _ c.new-bytes.result.items c.resize.new.self.items c.new-bytes.ensures.items c.new-bytes.ensures.len c.in_ok-resize.ensures.items))
    (All-replicate (λ byte. byte < 128) c.args.columns 46 (omega arith))
