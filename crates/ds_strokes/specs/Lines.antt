-- The words of strokes.
use Rattle.std.specs.Prelude.{ℕ, List, codes, Option, Some, None, if◌then◌else◌}
use Rattle.std.specs.Str.{bytes_eq}
use Rattle.ds_keys.specs.declared.key.Key.{Key}
use Rattle.ds_keys.specs.Lines.{key_of}
use Rattle.ds_strokes.specs.declared.stroke.Stroke.{Stroke}
use Rattle.ds_strokes.specs.declared.stroke.Stroke.TheVariants.{Insert, Dup, FieldMark}
use Rattle.ds_strokes.specs.declared.stroke.Stroke.TheVariants as stroke

-- a stroke that is no key of `press`
abbrev pub other_stroke : List ℕ → Option Stroke
other_stroke text =
    if bytes_eq text (codes "insert") then Some Insert
    else (if bytes_eq text (codes "dup") then Some Dup else (if bytes_eq text (codes "fieldmark") then Some FieldMark else None))

abbrev pub as_key : Option Key → Option Stroke
as_key (Some key) = Some (stroke.Key key)
as_key None = None

abbrev pub or_key : List ℕ → Option Stroke → Option Stroke
or_key text (Some other) = Some other
or_key text None = as_key (key_of text)

-- the stroke that a line names, if it names one
abbrev pub stroke_of : List ℕ → Option Stroke
stroke_of text = or_key text (other_stroke text)
