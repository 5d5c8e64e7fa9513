use Rattle.std.proofs.Common.{refl, sym, ◌∙◌, ap}
use Rattle.ds_screen.specs.Picture.{Picture}
use Rattle.ds_codec.specs.Character.{is_text}
use Rattle.ds_keys.specs.declared.pressed.Pressed.TheVariants.{Done}
use Rattle.ds_keys.specs.KeyStep.{step}
use Rattle.ds_strokes.specs.StrokeStep.{goes_on}
use Rattle.ds_strokes.proofs.StoreLaws.{put_ready, put_not}
use Rattle.ds_strokes.proofs.controls.mark_field.Goals as goal

pub returns-then-not-make_room : goal.returns-then-not-make_room
returns-then-not-make_room g c =
    c.inhibit.ensures
    ∙ put_not c.args.inserts c.make_room.result c.args.screen.now c.make_room.new.screen 0x1E goes_on c.make_room.ensures.readied c.if-not-make_room.true

pub store-requires-clause-text : goal.store-requires-clause-text
unfolding is_text
store-requires-clause-text g c = refl

pub returns : goal.returns
returns g c =
    ap (λ (w : Picture). step w Done) c.store.ensures
    ∙ sym (put_ready c.args.inserts c.make_room.result c.args.screen.now c.make_room.new.screen 0x1E goes_on c.make_room.ensures.readied c.if-not-make_room.false)
