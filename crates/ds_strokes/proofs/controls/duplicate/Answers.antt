use Rattle.std.proofs.Common.{◌≡◌, ℕ, length, refl, sym, ◌∙◌, ap, arith}
use Rattle.ds_screen.specs.Picture.{Picture}
use Rattle.ds_screen.proofs.RuledLaws.{length-ruled}
use Rattle.ds_codec.specs.Character.{is_text}
use Rattle.ds_keys.specs.declared.pressed.Pressed.TheVariants.{Done}
use Rattle.ds_keys.specs.KeyStep.{step, typed_cell}
use Rattle.ds_strokes.specs.StrokeStep.{goes_on, tabs, stored}
use Rattle.ds_strokes.proofs.StoreLaws.{put_ready, put_not}
use Rattle.ds_strokes.proofs.controls.duplicate.Goals as goal

pub returns-then-not-make_room : goal.returns-then-not-make_room
returns-then-not-make_room g c =
    c.inhibit.ensures
    ∙ put_not c.args.inserts c.make_room.result c.args.screen.now c.make_room.new.screen 0x1C tabs c.make_room.ensures.readied c.if-not-make_room.true

pub store-requires-clause-text : goal.store-requires-clause-text
unfolding is_text
store-requires-clause-text g c = refl

pub move_cursor-requires : goal.move_cursor-requires
move_cursor-requires g c =
    let w : Picture = c.make_room.new.screen in
    let same : c.store.new.screen ≡ (stored w 0x1C goes_on).after = c.store.ensures ∙ ap (λ (u : Picture). (stored u 0x1C goes_on).after) c.place_of_tab-next.ensures.same in
    let whole : length c.store.new.screen.cells ≡ length w.cells = ap (λ (u : Picture). length u.cells) same ∙ length-ruled (length w.cells) (typed_cell w.cells w.cursor 0x1C) in
    omega (arith, whole, c.place_of_tab-next.ensures.inside)

pub returns : goal.returns
returns g c =
    let w : Picture = c.make_room.new.screen in
    let same : c.store.new.screen ≡ (stored w 0x1C goes_on).after = c.store.ensures ∙ ap (λ (u : Picture). (stored u 0x1C goes_on).after) c.place_of_tab-next.ensures.same in
    ap (λ (u : Picture). step u Done)
    (c.move_cursor.ensures.changed ∙ ap (λ (u : Picture). record u { cursor = c.place_of_tab-next.result }) same
    ∙ ap (λ (p : ℕ). record (stored w 0x1C goes_on).after { cursor = p }) c.place_of_tab-next.ensures.place)
    ∙ sym (put_ready c.args.inserts c.make_room.result c.args.screen.now w 0x1C tabs c.make_room.ensures.readied c.if-not-make_room.false)
