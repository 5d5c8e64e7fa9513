use Rattle.std.proofs.Common.{◌≡◌, true, length, sym, ◌∙◌, ap, arith, below_more}
use Rattle.ds_screen.specs.Ring.{ring_on}
use Rattle.ds_screen.specs.Picture.{Picture, cell_at}
use Rattle.ds_strokes.specs.Room.{is_null}
use Rattle.ds_strokes.proofs.RoomLaws.{null_found, null_none}
use Rattle.ds_strokes.proofs.room.characters_before_null.Goals as goal

pub returns-then-is_null-clause-found : goal.returns-then-is_null-clause-found
returns-then-is_null-clause-found g c =
    let v : Picture = c.args.screen.now in
    let here : c.forward.result ≡ ring_on (length v.cells) c.args.at c.places.steps = c.forward.ensures.on ∙ ap (λ n. ring_on n c.args.at c.places.steps) c.position_count-n.ensures.count in
    let hit : is_null (cell_at v.cells (ring_on (length v.cells) c.args.at c.places.steps)) ≡ true =
    ap (λ q. is_null (cell_at v.cells q)) (sym here) ∙ ap is_null (sym c.cell.ensures) ∙ sym c.is_null.ensures ∙ c.if-is_null.true in
    sym (null_found v.cells v.size.cols c.args.at c.places.steps (omega (arith, c.places-test.true, c.positions_in_rest-rest.ensures.rest)) c.places.invariant hit)

pub places-preserved : goal.places-preserved
places-preserved g c =
    let v : Picture = c.args.screen.now in
    let here : c.forward.result ≡ ring_on (length v.cells) c.args.at c.places.steps = c.forward.ensures.on ∙ ap (λ n. ring_on n c.args.at c.places.steps) c.position_count-n.ensures.count in
    below_more _ _ c.places.invariant
    (ap (λ q. is_null (cell_at v.cells q)) (sym here) ∙ ap is_null (sym c.cell.ensures) ∙ sym c.is_null.ensures ∙ c.if-is_null.false)

pub returns-clause-found : goal.returns-clause-found
returns-clause-found g c =
    let v : Picture = c.args.screen.now in
    sym (null_none v.cells v.size.cols c.args.at (λ d below. c.places.invariant d (omega (arith, c.positions_in_rest-rest.ensures.rest, c.places-test.false))))
