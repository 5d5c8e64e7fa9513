use Rattle.std.proofs.Common.{List, length, refl, subst}
use Rattle.ds_codec.specs.declared.cell.Cell.{Cell}
use Rattle.ds_screen.specs.Picture.{cell_at, ruled}
use Rattle.ds_screen.specs.Orders.{erased_cell}
use Rattle.ds_screen.specs.Records.{unprotected_unmodified}
use Rattle.ds_screen.proofs.RuledLaws.{length-ruled}
use Rattle.ds_screen.proofs.EraseLaws.{clear_done}
use Rattle.ds_screen.proofs.records.clear_on.Goals as goal

pub returns-clause-shown : goal.returns-clause-shown
returns-clause-shown g c = λ cells shown.
    let middle : List Cell = ruled (length cells) (erased_cell cells 0 0) in
    subst (g.S.Surface.shows c.reset_modified.new.self)
    (clear_done cells middle (ruled (length middle) (λ p. unprotected_unmodified (cell_at middle p))) refl (length-ruled (length cells) (erased_cell cells 0 0)) refl)
    (c.reset_modified.ensures.shown middle (c.erase.ensures.shown cells shown))
