-- Laws on what strokes do to a sound picture, as each screen's is.
use Rattle.std.specs.Prelude.{◌≡◌, ℕ, ◌↔◌, Bool, true, false, List}
use Rattle.ds_codec.specs.Attribute.{is_modified}
use Rattle.ds_screen.specs.Picture.{cell_at, IsSound}
use Rattle.ds_screen.specs.Fields.{is_attribute, bits_of}
use Rattle.ds_keys.specs.Laws.{Keeps, is_clear}
use Rattle.ds_strokes.specs.declared.stroke.Stroke.{Stroke}
use Rattle.ds_strokes.specs.declared.stroke.Stroke.TheVariants as stroke
use Rattle.ds_strokes.specs.StrokeStep.{Operating, after_stroke}
use Rattle.ds_strokes.specs.StrokeRuns.{after_strokes, IsAccepted, AreQuiet}
use Rattle.ds_strokes.specs.Touched.{AreTouching}

abbrev pub is_clear_stroke : Stroke → Bool
is_clear_stroke (stroke.Key key) = is_clear key
is_clear_stroke stroke.Insert = false
is_clear_stroke stroke.Dup = false
is_clear_stroke stroke.FieldMark = false

-- the keep law
abbrev pub StrokeKeeps : Type 0
StrokeKeeps =
    (o : Operating) (stroke : Stroke) → IsSound o.screen → IsAccepted o stroke → is_clear_stroke stroke ≡ false
    → Keeps o.screen.cells (after_stroke o stroke).screen.cells

-- the keep law along a list of strokes of which none sends
abbrev pub QuietStrokesKeep : Type 0
QuietStrokesKeep =
    (o : Operating) (strokes : List Stroke) → IsSound o.screen → AreQuiet o strokes
    → Keeps o.screen.cells (after_strokes o strokes).screen.cells

-- the touched law: along a list of strokes of which none sends, an attribute is modified exactly where they touch it
abbrev pub ModifiedIsTouched : Type 0
ModifiedIsTouched =
    (o : Operating) (strokes : List Stroke) (q : ℕ) → IsSound o.screen → AreQuiet o strokes → is_attribute (cell_at o.screen.cells q) ≡ true
    → (is_modified (bits_of (cell_at (after_strokes o strokes).screen.cells q)) ≡ true) ↔ AreTouching o strokes q

-- strokes leave it sound, Clear too
abbrev pub StrokesStaySound : Type 0
StrokesStaySound = (o : Operating) (strokes : List Stroke) → IsSound o.screen → IsSound (after_strokes o strokes).screen
