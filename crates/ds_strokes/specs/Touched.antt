-- Which fields are modified, by the history of strokes.
use Rattle.std.specs.Prelude.{◌≡◌, ℕ, Bool, true, false, not, ◌&&◌, ◌⊎◌, List, [], ◌∷◌, ◌++◌}
use Rattle.ds_codec.specs.Attribute.{is_protected, is_modified}
use Rattle.ds_screen.specs.Picture.{cell_at}
use Rattle.ds_screen.specs.Fields.{bits_of, governs}
use Rattle.ds_keys.specs.KeyRuns.{is_accepted}
use Rattle.ds_keys.specs.Touched.{is_edit, is_erase_input}
use Rattle.ds_strokes.specs.declared.stroke.Stroke.{Stroke}
use Rattle.ds_strokes.specs.declared.stroke.Stroke.TheVariants as stroke
use Rattle.ds_strokes.specs.StrokeStep.{Operating, after_stroke, stroke_answer}
use Rattle.ds_strokes.specs.StrokeRuns.{after_strokes}

-- strokes that change the field that the cursor stands in
abbrev pub is_edit_stroke : Stroke → Bool
is_edit_stroke (stroke.Key key) = is_edit key
is_edit_stroke stroke.Insert = false
is_edit_stroke stroke.Dup = true
is_edit_stroke stroke.FieldMark = true

abbrev pub is_erase_stroke : Stroke → Bool
is_erase_stroke (stroke.Key key) = is_erase_input key
is_erase_stroke stroke.Insert = false
is_erase_stroke stroke.Dup = false
is_erase_stroke stroke.FieldMark = false

-- the stroke is accepted and changes the field that the attribute at q begins
abbrev pub edits : Operating → Stroke → ℕ → Bool
edits o stroke q = is_edit_stroke stroke && (is_accepted (stroke_answer o stroke) && governs o.screen.cells q o.screen.cursor)

-- the stroke is an accepted Erase Input
abbrev pub clears : Operating → Stroke → Bool
clears o stroke = is_erase_stroke stroke && is_accepted (stroke_answer o stroke)

-- no Erase Input is accepted along the strokes
unfoldable pub clears_nothing : Operating → List Stroke → Bool
clears_nothing o [] = true
clears_nothing o (stroke ∷ strokes) = not (clears o stroke) && clears_nothing (after_stroke o stroke) strokes

-- some stroke edits the field, and no Erase Input is accepted after it
pub record IsEdited (o : Operating) (strokes : List Stroke) (q : ℕ) : Type 0 where
  pub early : List Stroke
  pub stroke : Stroke
  pub late : List Stroke
  pub parts : strokes ≡ early ++ stroke ∷ late
  pub edited : edits (after_strokes o early) stroke q ≡ true
  pub lasts : clears_nothing (after_stroke (after_strokes o early) stroke) late ≡ true

-- modified at first, and protected or never cleared
pub record WasModified (o : Operating) (strokes : List Stroke) (q : ℕ) : Type 0 where
  pub modified : is_modified (bits_of (cell_at o.screen.cells q)) ≡ true
  pub lasts : (is_protected (bits_of (cell_at o.screen.cells q)) ≡ true) ⊎ (clears_nothing o strokes ≡ true)

abbrev pub AreTouching : Operating → List Stroke → ℕ → Type 0
AreTouching o strokes q = WasModified o strokes q ⊎ IsEdited o strokes q
