use Rattle.std.proofs.Common.{◌≡◌, ◌∙◌, sym, ap, Ok, Err, Some}
use Rattle.ds_screen.specs.Picture.{Picture}
use Rattle.ds_state.proofs.Draws.{draws, drawn_is, read_as, shown_as}
use Rattle.ds_state.proofs.drawn.drawn.Goals as goal

pub returns-in_default : goal.returns-in_default
returns-in_default g c =
    λ v whole same is.
    let read = c.read.ensures.exact ∙ read_as v whole c.args.geometry c.mode.result c.args.drawing.now c.mode.ensures same is in
    let other = c.in_default.is in
    absurd cc

pub returns-in-Ok-apply : goal.returns-in-Ok-apply
returns-in-Ok-apply g c =
    λ v whole same is.
    ap Some (drawn_is v whole c.args.geometry c.mode.result c.args.drawing.now c.in_ok-screen.screen c.apply.new.self c.in-Ok.outbound c.mode.ensures same is
    c.in_ok-screen.ensures (sym c.read.ensures.exact ∙ c.in-Ok.is) c.in-Ok-apply.ensures.shows)

pub returns-in-Err : goal.returns-in-Err
returns-in-Err g c =
    λ v whole same is.
    let shown = shown_as v whole c.args.geometry c.mode.result c.args.drawing.now c.in_ok-screen.screen c.in-Ok.outbound c.mode.ensures same is
    c.in_ok-screen.ensures (sym c.read.ensures.exact ∙ c.in-Ok.is) in
    let refused = c.in-Err.ensures.refused in
    absurd cc
