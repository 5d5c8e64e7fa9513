use Rattle.std.proofs.Common.{◌≡◌, ◌+◌, ◌<◌, length, sym, ◌∙◌, ap, arith}
use Rattle.ds_codec.specs.declared.cell.Cell.TheVariants.{Char}
use Rattle.ds_screen.specs.Ring.{ring_on}
use Rattle.ds_screen.specs.Picture.{Picture, cell_at}
use Rattle.ds_screen.specs.Fields.{is_attribute}
use Rattle.ds_screen.proofs.RingLaws.{on-zero}
use Rattle.ds_strokes.proofs.RoomLaws.{shift_begins, shift_more, shift_sees, shift_ends, length_so_far}
use Rattle.ds_strokes.proofs.room.shift_on.Goals as goal

pub character_at-carried-requires-clause-character : goal.character_at-carried-requires-clause-character
character_at-carried-requires-clause-character g c =
    let v : Picture = c.args.screen.now in
    let here : ring_on (length v.cells) v.cursor 0 ≡ c.cursor-at.result = on-zero (length v.cells) v.cursor c.position_count-n.ensures.cursor_inside ∙ sym c.cursor-at.ensures.value in
    ap (λ q. is_attribute (cell_at v.cells q)) (sym here) ∙ c.requires.characters 0 (omega arith)

pub places-init : goal.places-init
places-init g c =
    let v : Picture = c.args.screen.now in
    let here : ring_on (length v.cells) v.cursor 0 ≡ c.cursor-at.result = on-zero (length v.cells) v.cursor c.position_count-n.ensures.cursor_inside ∙ sym c.cursor-at.ensures.value in
    record {
      stored = shift_begins v c.args.count c.position_count-n.ensures.cursor_inside;
      carried_is = c.character_at-carried.ensures ∙ ap (cell_at v.cells) (sym here);
    }

pub character_at-next-requires-clause-inside : goal.character_at-next-requires-clause-inside
character_at-next-requires-clause-inside g c =
    let v : Picture = c.args.screen.now in
    omega (arith, c.forward-place.ensures.inside, c.position_count-n.ensures.count, length_so_far v c.places.screen c.args.count (c.places.steps + 1) c.places.invariant.stored)

pub character_at-next-requires-clause-character : goal.character_at-next-requires-clause-character
character_at-next-requires-clause-character g c =
    let v : Picture = c.args.screen.now in
    let at : c.forward-place.result ≡ ring_on (length v.cells) v.cursor (c.places.steps + 1) =
    c.forward-place.ensures.on ∙ ap (λ n. ring_on n c.cursor-at.result (c.places.steps + 1)) c.position_count-n.ensures.count ∙ ap (λ q. ring_on (length v.cells) q (c.places.steps + 1)) c.cursor-at.ensures.value in
    ap is_attribute (shift_sees v c.places.screen c.args.count c.places.steps c.forward-place.result c.position_count-n.ensures.cursor_inside (omega (arith, c.places-test.true, c.requires.few)) at c.places.invariant.stored)
    ∙ ap (λ q. is_attribute (cell_at v.cells q)) at ∙ c.requires.characters (c.places.steps + 1) (omega (arith, c.places-test.true))

pub put_char-requires : goal.put_char-requires
put_char-requires g c =
    let v : Picture = c.args.screen.now in
    omega (arith, c.forward-place.ensures.inside, c.position_count-n.ensures.count, length_so_far v c.places.screen c.args.count (c.places.steps + 1) c.places.invariant.stored)

pub places-preserved : goal.places-preserved
places-preserved g c =
    let v : Picture = c.args.screen.now in
    let inside = c.position_count-n.ensures.cursor_inside in
    let few : c.places.steps + 1 < length v.cells = omega (arith, c.places-test.true, c.requires.few) in
    let at : c.forward-place.result ≡ ring_on (length v.cells) v.cursor (c.places.steps + 1) =
    c.forward-place.ensures.on ∙ ap (λ n. ring_on n c.cursor-at.result (c.places.steps + 1)) c.position_count-n.ensures.count ∙ ap (λ q. ring_on (length v.cells) q (c.places.steps + 1)) c.cursor-at.ensures.value in
    record {
      stored = shift_more v c.places.screen c.put_char.new.self c.args.count c.places.steps c.forward-place.result (Char c.places.carried) inside few c.places-test.true at
          c.places.invariant.stored c.places.invariant.carried_is c.put_char.ensures.changed;
      carried_is = c.character_at-next.ensures
          ∙ shift_sees v c.places.screen c.args.count c.places.steps c.forward-place.result inside few at c.places.invariant.stored ∙ ap (cell_at v.cells) at;
    }

pub returns : goal.returns
returns g c =
    let v : Picture = c.args.screen.now in
    shift_ends v c.places.screen c.args.count (c.places.steps + 1) (omega (arith, c.places-test.false, c.places.auto.steps-end)) c.places.invariant.stored
