-- The promise of any terminal over the strokes of this one: its keys, insert mode, duplicate and field mark.
use Rattle.std.specs.Prelude.{◌≡◌, ℕ, ◌↔◌, Bool, true, false, List}
use Rattle.std.specs.List.Sorted.{IsStrictlyIncreasing}
use Rattle.ds_codec.specs.Aid.{is_long_aid}
use Rattle.ds_codec.specs.Geometry.{cells_of}
use Rattle.ds_screen.specs.declared.lock.Lock.TheVariants.{Free}
use Rattle.ds_screen.specs.Picture.{Picture, IsSound, cell_at}
use Rattle.ds_screen.specs.Fields.{is_attribute}
use Rattle.ds_keys.specs.declared.key.Key.TheVariants.{Attention}
use Rattle.ds_keys.specs.declared.pressed.Pressed.TheVariants.{Sent}
use Rattle.ds_strokes.specs.declared.stroke.Stroke.{Stroke}
use Rattle.ds_strokes.specs.declared.stroke.Stroke.TheVariants.{Key}
use Rattle.ds_strokes.specs.StrokeStep.{Operating, operating, stroke_answer, after_stroke}
use Rattle.ds_strokes.specs.StrokeRuns.{after_strokes, AreQuiet}
use Rattle.ds_strokes.specs.Touched.{AreTouching}
use Rattle.ds_inbound.specs.Answer.{bytes_sent}
use Rattle.ds_inbound.specs.Inbound.{SaysOnly}
use Rattle.scr_layout.specs.Layout.{Declaration}
use Rattle.scr_check.specs.Promise.{IsProtectedSame, is_among, IsDeclaredField, due_answer}
use Rattle.scr_check.specs.Any.{IsLeftOf, AnswersForAny}

-- these attributes are touched along the strokes, in rising position, and no other
pub record AreTouchedBy (o : Operating) (strokes : List Stroke) (places : List ℕ) : Type 0 where
  pub rising : IsStrictlyIncreasing places
  pub exactly : (q : ℕ) → (is_among places q ≡ true) ↔ ((is_attribute (cell_at o.screen.cells q) ≡ true) × AreTouching o strokes q)

-- The key with this attention identifier is accepted, and what it sends says one answer on the layout's screen: one field for
-- each touched attribute, in rising position, each as it is declared.
pub record SendsTouchedBy (layout : Declaration) (o : Operating) (strokes : List Stroke) (left : Operating) (aid : ℕ) : Type 0 where
  pub sent : stroke_answer left (Key (Attention aid)) ≡ Sent aid
  pub places : List ℕ
  pub touched : AreTouchedBy o strokes places
  pub says : SaysOnly layout.geometry.mode (cells_of layout.size) (due_answer aid left.screen places) (bytes_sent (after_stroke left (Key (Attention aid))).screen false)
  pub declared : (q : ℕ) → is_among places q ≡ true → IsDeclaredField layout.entries o.screen.cells left.screen.cells q

-- the promise for one list of strokes, from the picture that the records left
pub record StrokesPromise (layout : Declaration) (o : Operating) (strokes : List Stroke) : Type 0 where
  pub kept : IsProtectedSame o.screen.cells (after_strokes o strokes).screen.cells
  pub sends : (aid : ℕ) → is_long_aid aid ≡ true → (after_strokes o strokes).screen.lock ≡ Free → SendsTouchedBy layout o strokes (after_strokes o strokes) aid

-- it holds for every list of strokes of which none sends, with insert mode on at first or off
abbrev pub KeepsStrokesPromise : Declaration → Picture → Type 0
KeepsStrokesPromise layout opened = (inserts : Bool) (strokes : List Stroke) → AreQuiet (operating opened inserts) strokes → StrokesPromise layout (operating opened inserts) strokes

-- strokes leave what any terminal can leave, from a sound picture, up to one that sends
abbrev pub OwnStrokesLeave : Type 0
OwnStrokesLeave = (o : Operating) (strokes : List Stroke) → IsSound o.screen → AreQuiet o strokes → IsLeftOf o.screen (after_strokes o strokes).screen

-- so what is promised of any terminal holds of them
abbrev pub OwnStrokesArePromised : Type 0
OwnStrokesArePromised = (layout : Declaration) (opened : Picture) → IsSound opened → AnswersForAny layout opened → KeepsStrokesPromise layout opened
