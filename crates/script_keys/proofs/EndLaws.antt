-- The cell that a search looks at.
use Rattle.std.proofs.Common.{◌≡◌, ℕ, Bool, List, length, sym, ◌∙◌, ap}
use Rattle.ds_codec.specs.declared.cell.Cell.{Cell}
use Rattle.ds_screen.specs.Ring.{ring_on}
use Rattle.ds_screen.specs.Picture.{cell_at}
use Rattle.script_keys.specs.Ends.{is_filled, is_filled_at}

pub filled_here : (cells : List Cell) (n start d at : ℕ) (cell : Cell) (filled : Bool) → n ≡ length cells → at ≡ ring_on n start d
    → cell ≡ cell_at cells at → filled ≡ is_filled cell → is_filled_at cells start d ≡ filled
filled_here cells n start d at cell filled count on here test =
    sym (test ∙ ap is_filled (here ∙ ap (cell_at cells) (on ∙ ap (λ m. ring_on m start d) count)))
