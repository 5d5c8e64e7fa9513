-- Lines of strokes, and the strokes that they name.
use Rattle.std.specs.Prelude.{ℕ, ◌+◌, List, [], ◌∷◌, ◌++◌, length, Option, Some, None, Result, Ok, Err, if◌then◌else◌}
use Rattle.std.specs.Str.{is_utf8}
use Rattle.ds_codec.specs.Reading.{◌>>=◌}
use Rattle.ds_strokes.specs.declared.stroke.Stroke.{Stroke}
use Rattle.ds_strokes.specs.Lines.{stroke_of}
use Rattle.cli_commands.specs.declared.fault.Fault.{Fault}
use Rattle.cli_commands.specs.declared.fault.Fault.TheVariants.{BadKeyLine}
use Rattle.cli_commands.specs.Lines.{is_ignored, at_most}
use Rattle.cli_commands.specs.Taking.{taken_in}

-- ---- one line

pub data StrokeLine : Type 0 where
  ignored : StrokeLine
  named : (stroke : Stroke) → StrokeLine
  bad : StrokeLine

abbrev pub stroke_or_bad : Option Stroke → StrokeLine
stroke_or_bad None = bad
stroke_or_bad (Some stroke) = named stroke

-- spaces count: a line of spaces alone names no stroke
abbrev pub stroke_told : List ℕ → StrokeLine
stroke_told line = if is_utf8 line then (if is_ignored line then ignored else stroke_or_bad (stroke_of line)) else bad

-- ---- lines in turn

-- one more stroke; at most 100,000
abbrev pub one_more : List Stroke → Stroke → Result (List Stroke) Fault
one_more strokes stroke = at_most (length strokes + 1) 100000 >>= λ few. Ok (strokes ++ stroke ∷ [])

-- what the line of this number adds
abbrev pub after_stroke_line : ℕ → List Stroke → StrokeLine → Result (List Stroke) Fault
after_stroke_line number strokes ignored = Ok strokes
after_stroke_line number strokes (named stroke) = one_more strokes stroke
after_stroke_line number strokes bad = Err (BadKeyLine number)

abbrev pub take_stroke : ℕ → List Stroke → List ℕ → Result (List Stroke) Fault
take_stroke number strokes line = after_stroke_line number strokes (stroke_told line)

-- the strokes of an input, or its first fault
abbrev pub strokes_in : List ℕ → Result (List Stroke) Fault
strokes_in input = taken_in take_stroke [] input
