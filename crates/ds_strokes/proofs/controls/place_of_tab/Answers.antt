use Rattle.std.proofs.Common.{◌≡◌, ℕ, length, ◌∙◌, ap, arith}
use Rattle.ds_screen.specs.Picture.{Picture}
use Rattle.ds_keys.specs.KeyStep.{Step}
use Rattle.ds_strokes.specs.StrokeStep.{tabs}
use Rattle.ds_strokes.proofs.StoreLaws.{tab_free}
use Rattle.ds_strokes.proofs.controls.place_of_tab.Goals as goal

pub move_cursor-requires : goal.move_cursor-requires
move_cursor-requires g c =
    let v : Picture = c.args.screen.now in
    let same : c.press.new.screen ≡ record v { cursor = tabs v } = ap (λ (s : Step). s.after) (c.press.ensures ∙ tab_free v c.requires.free) in
    let whole : length c.press.new.screen.cells ≡ length v.cells = ap (λ (w : Picture). length w.cells) same in
    omega (arith, whole, c.cursor-cursor.ensures.value, c.cursor-cursor.ensures.sound.whole, c.cursor-cursor.ensures.sound.cursor_inside)

pub returns-clause-place : goal.returns-clause-place
returns-clause-place g c =
    let v : Picture = c.args.screen.now in
    c.cursor-place.ensures.value ∙ ap (λ (s : Step). s.after.cursor) (c.press.ensures ∙ tab_free v c.requires.free)

pub returns-clause-inside : goal.returns-clause-inside
returns-clause-inside g c =
    let v : Picture = c.args.screen.now in
    let same : c.press.new.screen ≡ record v { cursor = tabs v } = ap (λ (s : Step). s.after) (c.press.ensures ∙ tab_free v c.requires.free) in
    let whole : length c.press.new.screen.cells ≡ length v.cells = ap (λ (w : Picture). length w.cells) same in
    omega (arith, whole, c.cursor-place.ensures.value, c.cursor-place.ensures.sound.whole, c.cursor-place.ensures.sound.cursor_inside)

pub returns-clause-same : goal.returns-clause-same
returns-clause-same g c =
    let v : Picture = c.args.screen.now in
    let same : c.press.new.screen ≡ record v { cursor = tabs v } = ap (λ (s : Step). s.after) (c.press.ensures ∙ tab_free v c.requires.free) in
    c.move_cursor.ensures.changed ∙ ap (λ (w : Picture). record w { cursor = c.cursor-cursor.result }) same ∙ ap (λ (p : ℕ). record v { cursor = p }) c.cursor-cursor.ensures.value
