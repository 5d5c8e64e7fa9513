use Rattle.std.proofs.Common.{◌≡◌, true, false, Option, Some, refl, sym, ◌∙◌, ap, subst, arith}
use Rattle.std.proofs.lemmas.Bool.{cond-true}
use Rattle.std.specs.Option.{IsSome}
use Rattle.ds_codec.specs.Character.{Glyph, glyph, is_text}
use Rattle.ds_screen.specs.Ring.{ring_on}
use Rattle.ds_screen.specs.Picture.{Picture}
use Rattle.ds_keys.specs.Moves.{settled}
use Rattle.ds_keys.specs.KeyStep.{marked_cell}
use Rattle.ds_keys.proofs.RunLaws.{length_stored}
use Rattle.ds_keys.proofs.EditLaws.{graphic_text, is_ignored, typed_inhibited, typed_done}
use Rattle.ds_keys.proofs.edits.type_code.Goals as goal

pub returns-then-not-is_graphic_code : goal.returns-then-not-is_graphic_code
returns-then-not-is_graphic_code g c = is_ignored c.args.screen.now c.args.code (sym c.is_graphic_code.ensures ∙ c.if-not-is_graphic_code.true)

pub unwrap-character-requires : goal.unwrap-character-requires
unwrap-character-requires g c =
    let known : is_text c.args.code ≡ true = graphic_text c.args.code (sym c.is_graphic_code.ensures ∙ c.if-not-is_graphic_code.false) in
    let made : c.new.result ≡ Some (glyph c.args.code false) = c.new.ensures ∙ cond-true (is_text c.args.code) _ _ known in
    let P : Option Glyph → Type 0 = λ o. IsSome o in
    subst P (sym made) refl

pub returns-then-not-is_open : goal.returns-then-not-is_open
returns-then-not-is_open g c =
    typed_inhibited c.args.screen.now c.inhibit.new.screen c.inhibit.result c.args.code c.cursor-cursor.result (sym c.is_graphic_code.ensures ∙ c.if-not-is_graphic_code.false)
    c.cursor-cursor.ensures.value (sym c.is_open.ensures ∙ c.if-not-is_open.true) c.inhibit.ensures

pub put_char-requires : goal.put_char-requires
put_char-requires g c =
    let v : Picture = c.args.screen.now in
    omega (arith, c.cursor-cursor.ensures.value, c.position_count-n.ensures.cursor_inside, length_stored v c.mark.new.screen (marked_cell v.cells c.cursor-cursor.result) c.mark.ensures)

pub returns : goal.returns
returns g c =
    let v : Picture = c.args.screen.now in
    let known : is_text c.args.code ≡ true = graphic_text c.args.code (sym c.is_graphic_code.ensures ∙ c.if-not-is_graphic_code.false) in
    let made : Some c.unwrap-character.result ≡ Some (glyph c.args.code false) = sym c.unwrap-character.ensures ∙ c.new.ensures ∙ cond-true (is_text c.args.code) _ _ known in
    let character : c.unwrap-character.result ≡ glyph c.args.code false = cc in
    let goes = c.settle-next.ensures.settles ∙ ap (settled v.cells) (c.forward.ensures.on ∙ ap (λ n. ring_on n c.cursor-cursor.result 1) c.position_count-n.ensures.count) in
    typed_done v c.mark.new.screen c.put_char.new.self c.move_cursor.new.self c.args.code c.cursor-cursor.result c.settle-next.result c.unwrap-character.result
    (sym c.is_graphic_code.ensures ∙ c.if-not-is_graphic_code.false) c.cursor-cursor.ensures.value (sym c.is_open.ensures ∙ c.if-not-is_open.false)
    (omega (arith, c.cursor-cursor.ensures.value, c.position_count-n.ensures.cursor_inside)) goes c.mark.ensures character c.put_char.ensures.changed c.move_cursor.ensures.changed
