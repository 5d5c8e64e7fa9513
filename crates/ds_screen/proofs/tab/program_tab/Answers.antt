use Rattle.std.proofs.Common.{◌≡◌, ◌<◌, ◌≤◌, ℕ, List, length, refl, ap, ◌∙◌, arith}
use Rattle.ds_codec.specs.declared.cell.Cell.{Cell}
use Rattle.ds_screen.specs.Picture.{ruled}
use Rattle.ds_screen.specs.Orders.{nulled_cell}
use Rattle.ds_screen.specs.State.{writing}
use Rattle.ds_screen.proofs.TabLaws.{tab_found, tab_ran}
use Rattle.ds_screen.proofs.tab.program_tab.Goals as goal

pub returns-then-place-positions-clause-tabs : goal.returns-then-place-positions-clause-tabs
returns-then-place-positions-clause-tabs g c = λ cells shown.
    let place : ℕ = c.null_to_attribute-place.result in
    let now : List Cell = ruled (length cells) (nulled_cell cells c.args.state.address place) in
    let sized : length cells ≡ g.S.Surface.size c.args.surface.now = g.met.S.Surface.sized c.args.surface.now cells shown in
    let lt : place < length cells = omega (arith, c.if-place-positions.true, c.positions.ensures, c.null_to_attribute-place.ensures.whole, sized) in
    let later : g.S.Surface.shows c.null_to_attribute-place.new.self now = c.null_to_attribute-place.ensures.shown cells shown in (
      now,
      later,
      ap (writing now) c.at-then-place-positions.ensures
          ∙ tab_found cells now c.args.state place c.stop_from-then-place-positions.result c.if-not-state.false (c.null_to_attribute-place.ensures.place cells shown)
          lt refl (c.stop_from-then-place-positions.ensures.stop now later),
    )

pub returns-else-place-positions-clause-tabs : goal.returns-else-place-positions-clause-tabs
returns-else-place-positions-clause-tabs g c = λ cells shown.
    let place : ℕ = c.null_to_attribute-place.result in
    let now : List Cell = ruled (length cells) (nulled_cell cells c.args.state.address place) in
    let sized : length cells ≡ g.S.Surface.size c.args.surface.now = g.met.S.Surface.sized c.args.surface.now cells shown in
    let far : length cells ≤ place = omega (arith, c.if-place-positions.false, c.positions.ensures, c.null_to_attribute-place.ensures.whole, sized) in (
      now,
      c.null_to_attribute-place.ensures.shown cells shown,
      tab_ran cells now c.args.state place c.if-not-state.false (c.null_to_attribute-place.ensures.place cells shown) far refl,
    )
