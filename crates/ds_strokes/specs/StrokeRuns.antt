-- Strokes one after the other.
use Rattle.std.specs.Prelude.{◌≡◌, Bool, true, not, ◌&&◌, List, [], ◌∷◌}
use Rattle.ds_keys.specs.KeyRuns.{is_accepted, is_sent}
use Rattle.ds_strokes.specs.declared.stroke.Stroke.{Stroke}
use Rattle.ds_strokes.specs.StrokeStep.{Operating, after_stroke, stroke_answer}

-- what a list of strokes leaves
unfoldable pub after_strokes : Operating → List Stroke → Operating
after_strokes o [] = o
after_strokes o (stroke ∷ strokes) = after_strokes (after_stroke o stroke) strokes

-- none of the strokes of a list sends
unfoldable pub are_quiet : Operating → List Stroke → Bool
are_quiet o [] = true
are_quiet o (stroke ∷ strokes) = not (is_sent (stroke_answer o stroke)) && are_quiet (after_stroke o stroke) strokes

abbrev pub IsAccepted : Operating → Stroke → Type 0
IsAccepted o stroke = is_accepted (stroke_answer o stroke) ≡ true

abbrev pub AreQuiet : Operating → List Stroke → Type 0
AreQuiet o strokes = are_quiet o strokes ≡ true
