use Rattle.std.proofs.Common.{◌≡◌, true, sym, ◌∙◌}
use Rattle.std.proofs.lemmas.Bool.{cond-true}
use Rattle.ds_codec.specs.Character.{is_graphic}
use Rattle.ds_screen.specs.Picture.{Picture}
use Rattle.ds_strokes.specs.StrokeStep.{goes_on}
use Rattle.ds_strokes.proofs.StoreLaws.{typed_free, put_ready, put_not}
use Rattle.ds_strokes.proofs.controls.type_code.Goals as goal

pub returns-then-not-make_room : goal.returns-then-not-make_room
returns-then-not-make_room g c =
    let graphic : is_graphic c.args.code ≡ true = sym c.is_graphic_code.ensures ∙ c.if-not-is_graphic_code.false in
    c.inhibit.ensures
    ∙ put_not c.args.inserts c.make_room.result c.args.screen.now c.make_room.new.screen c.args.code goes_on c.make_room.ensures.readied c.if-not-make_room.true
    ∙ sym (cond-true (is_graphic c.args.code) _ _ graphic)

pub returns : goal.returns
returns g c =
    let w : Picture = c.make_room.new.screen in
    let graphic : is_graphic c.args.code ≡ true = sym c.is_graphic_code.ensures ∙ c.if-not-is_graphic_code.false in
    c.press.ensures
    ∙ typed_free w c.args.code (c.make_room.ensures.lock ∙ c.requires) graphic (c.make_room.ensures.opens c.if-not-make_room.false)
    ∙ sym (put_ready c.args.inserts c.make_room.result c.args.screen.now w c.args.code goes_on c.make_room.ensures.readied c.if-not-make_room.false)
    ∙ sym (cond-true (is_graphic c.args.code) _ _ graphic)
