use Rattle.std.proofs.Common.{◌≡◌, ◌<◌, ℕ, length, set, false, Some, refl, sym, ◌∙◌, ap, arith}
use Rattle.std.proofs.lemmas.Bool.{cond-true}
use Rattle.ds_codec.specs.declared.cell.Cell.TheVariants.{Char}
use Rattle.ds_codec.specs.Character.{Glyph, glyph, is_text}
use Rattle.ds_screen.specs.Picture.{Picture, ruled}
use Rattle.ds_screen.proofs.RuledLaws.{length-ruled}
use Rattle.ds_keys.specs.KeyStep.{Step, typed_cell}
use Rattle.ds_strokes.specs.StrokeStep.{goes_on, stored}
use Rattle.ds_strokes.proofs.StoreLaws.{typed_free, stored_over}
use Rattle.ds_strokes.proofs.controls.store.Goals as goal

pub put_char-requires : goal.put_char-requires
put_char-requires g c =
    let v : Picture = c.args.screen.now in
    let same : c.press.new.screen ≡ (stored v 0x40 goes_on).after = ap (λ (s : Step). s.after) (c.press.ensures ∙ typed_free v 0x40 c.requires.free refl c.requires.opens) in
    let whole : length c.press.new.screen.cells ≡ length v.cells = ap (λ (w : Picture). length w.cells) same ∙ length-ruled (length v.cells) (typed_cell v.cells v.cursor 0x40) in
    omega (arith, whole, c.cursor-cursor.ensures.value, c.cursor-cursor.ensures.sound.whole, c.cursor-cursor.ensures.sound.cursor_inside)

pub returns : goal.returns
returns g c =
    let v : Picture = c.args.screen.now in
    let inside : v.cursor < length v.cells = omega (arith, c.cursor-cursor.ensures.sound.whole, c.cursor-cursor.ensures.sound.cursor_inside) in
    let same : c.press.new.screen ≡ (stored v 0x40 goes_on).after = ap (λ (s : Step). s.after) (c.press.ensures ∙ typed_free v 0x40 c.requires.free refl c.requires.opens) in
    let made : Some c.unwrap-character.result ≡ Some (glyph c.args.code false) = sym c.unwrap-character.ensures ∙ c.new.ensures ∙ cond-true (is_text c.args.code) _ _ c.requires.text in
    let character : c.unwrap-character.result ≡ glyph c.args.code false = cc in
    c.put_char.ensures.changed
    ∙ ap (λ (w : Picture). record w { cells = set w.cells c.cursor-cursor.result (Char c.unwrap-character.result) }) same
    ∙ ap (λ (x : Glyph). record (stored v 0x40 goes_on).after { cells = set (ruled (length v.cells) (typed_cell v.cells v.cursor 0x40)) c.cursor-cursor.result (Char x) }) character
    ∙ ap (λ (p : ℕ). record (stored v 0x40 goes_on).after { cells = set (ruled (length v.cells) (typed_cell v.cells v.cursor 0x40)) p (Char (glyph c.args.code false)) }) c.cursor-cursor.ensures.value
    ∙ ap (λ cells. record (stored v 0x40 goes_on).after { cells = cells }) (stored_over v.cells v.cursor 0x40 c.args.code inside)
