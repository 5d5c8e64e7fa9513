-- Worked rows, computed: the definitions say what the rules of the strokes say.
use Rattle.std.proofs.Common.{◌≡◌, ℕ, Bool, true, false, List, [], ◌∷◌, replicate, refl}
use Rattle.ds_codec.specs.declared.cell.Cell.{Cell}
use Rattle.ds_codec.specs.declared.cell.Cell.TheVariants.{Field, Char}
use Rattle.ds_codec.specs.declared.size.Mode.TheVariants.{Bits14}
use Rattle.ds_codec.specs.Character.{glyph}
use Rattle.ds_screen.specs.declared.lock.Lock.TheVariants.{Free}
use Rattle.ds_screen.specs.Ring.{ring_on, ring_back, ring_distance, least}
use Rattle.ds_screen.specs.Picture.{Picture, blank, ruled}
use Rattle.ds_screen.specs.Fields.{attribute_before, attribute_from}
use Rattle.ds_keys.specs.declared.key.Key.TheVariants.{Typed, Reset, Attention}
use Rattle.ds_keys.specs.declared.pressed.Pressed.{Pressed}
use Rattle.ds_keys.specs.declared.pressed.Pressed.TheVariants.{Done, Inhibited, Ignored}
use Rattle.ds_keys.specs.Moves.{start_ahead, settled}
use Rattle.ds_keys.specs.KeyStep.{typed_cell, free_step, step_of, attention_step}
use Rattle.ds_codec.specs.Aid.{is_long_aid, is_short_aid}
use Rattle.ds_strokes.specs.declared.stroke.Stroke.{Stroke}
use Rattle.ds_strokes.specs.declared.stroke.Stroke.TheVariants as stroke
use Rattle.ds_strokes.specs.Room.{before_null, shifted_cell}
use Rattle.ds_strokes.specs.StrokeStep.{Operating, operating, put_step, stroke_step, after_stroke, stroke_answer}
use Rattle.ds_strokes.specs.StrokeRuns.{after_strokes}

abbrev plain : ℕ → Cell
plain code = Char (glyph code false)

abbrev screen : ℕ → ℕ → List Cell → ℕ → Picture
screen rows cols cells cursor =
    record {
      geometry = record { default = record { rows = rows; cols = cols }; alternate = record { rows = rows; cols = cols }; mode = Bits14 };
      size = record { rows = rows; cols = cols };
      cells = cells;
      cursor = cursor;
      lock = Free;
      aid = 0x60;
    }

abbrev begun : Picture → Operating
begun v = operating v false

-- the cells, the cursor and insert mode after strokes
record Seen : Type 0 where
  cells : List Cell
  cursor : ℕ
  inserts : Bool

abbrev seen_of : Operating → Seen
seen_of o = record { cells = o.screen.cells; cursor = o.screen.cursor; inserts = o.inserts }

abbrev seen : Picture → List Stroke → Seen
seen v strokes = seen_of (after_strokes (begun v) strokes)

abbrev answers : Operating → List Stroke → List Pressed
answers o [] = []
answers o (s ∷ strokes) = stroke_answer o s ∷ answers (after_stroke o s) strokes

abbrev x : Stroke
x = stroke.Key (Typed 0xE7)

-- an input of four cells at 1 with AB, and one of two at 6 with C
abbrev form : Picture
form = screen 1 9 (Field 0 ∷ plain 0xC1 ∷ plain 0xC2 ∷ blank ∷ blank ∷ Field 0 ∷ plain 0xC3 ∷ blank ∷ Field 0x20 ∷ []) 1

-- Insert, X: AB move on, up to the first null of the field
inserted : seen form (stroke.Insert ∷ x ∷ [])
    ≡ record { cells = Field 1 ∷ plain 0xE7 ∷ plain 0xC1 ∷ plain 0xC2 ∷ blank ∷ Field 0 ∷ plain 0xC3 ∷ blank ∷ Field 0x20 ∷ []; cursor = 2; inserts = true }
unfolding after_strokes stroke_step put_step before_null shifted_cell typed_cell settled ruled attribute_before attribute_from least ring_on ring_back ring_distance
inserted = refl

-- a third X finds no null in its field, and doesn't go to the next field's
full : answers (begun form) (stroke.Insert ∷ x ∷ x ∷ x ∷ []) ≡ Done ∷ Done ∷ Done ∷ Inhibited ∷ []
unfolding stroke_step put_step before_null shifted_cell typed_cell settled ruled attribute_before attribute_from least ring_on ring_back ring_distance
full = refl

-- X over A without insert mode
typed_over : seen form (x ∷ [])
    ≡ record { cells = Field 1 ∷ plain 0xE7 ∷ plain 0xC2 ∷ blank ∷ blank ∷ Field 0 ∷ plain 0xC3 ∷ blank ∷ Field 0x20 ∷ []; cursor = 2; inserts = false }
unfolding after_strokes stroke_step put_step before_null shifted_cell typed_cell settled ruled attribute_before attribute_from least ring_on ring_back ring_distance
typed_over = refl

-- DUP goes to the next field, in insert mode too, and FM on by one; Reset ends insert mode
marks : seen form (stroke.Insert ∷ stroke.Dup ∷ stroke.FieldMark ∷ stroke.Key Reset ∷ [])
    ≡ record { cells = Field 1 ∷ plain 0x1C ∷ plain 0xC1 ∷ plain 0xC2 ∷ blank ∷ Field 1 ∷ plain 0x1E ∷ plain 0xC3 ∷ Field 0x20 ∷ []; cursor = 7; inserts = false }
unfolding after_strokes stroke_step put_step before_null shifted_cell typed_cell settled start_ahead ruled attribute_before attribute_from least ring_on ring_back ring_distance step_of free_step
marks = refl

-- a field from 7 round the end to 1: what stands in it moves round the end
abbrev wrapped : Picture
wrapped = screen 1 9 (plain 0xC3 ∷ blank ∷ Field 0x20 ∷ plain 0xD7 ∷ plain 0xD7 ∷ plain 0xD7 ∷ Field 0 ∷ plain 0xC1 ∷ plain 0xC2 ∷ []) 7

round_the_end : seen wrapped (stroke.Insert ∷ x ∷ [])
    ≡ record { cells = plain 0xC2 ∷ plain 0xC3 ∷ Field 0x20 ∷ plain 0xD7 ∷ plain 0xD7 ∷ plain 0xD7 ∷ Field 1 ∷ plain 0xE7 ∷ plain 0xC1 ∷ []; cursor = 8; inserts = true }
unfolding after_strokes stroke_step put_step before_null shifted_cell typed_cell settled ruled attribute_before attribute_from least ring_on ring_back ring_distance
round_the_end = refl

-- a protected cell takes none of them, and Enter ends insert mode
protected_cell : answers (begun (screen 1 9 (Field 0x20 ∷ replicate 8 blank) 3)) (stroke.Dup ∷ stroke.FieldMark ∷ stroke.Insert ∷ stroke.Key Reset ∷ stroke.FieldMark ∷ [])
    ≡ Inhibited ∷ Ignored ∷ Ignored ∷ Done ∷ Inhibited ∷ []
unfolding stroke_step put_step attribute_before least ring_back step_of
protected_cell = refl

ended_by_enter : seen form (stroke.Insert ∷ stroke.Key (Attention 0x7D) ∷ []) ≡ record { cells = form.cells; cursor = 1; inserts = false }
unfolding after_strokes stroke_step step_of free_step attention_step is_long_aid is_short_aid
ended_by_enter = refl
