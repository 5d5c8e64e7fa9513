-- The maps of a source, or its first fault.
use Rattle.std.specs.Prelude.{ℕ, ◌+◌, Bool, true, false, not, ◌&&◌, ◌||◌, nat_le, List, [], ◌∷◌, ◌++◌, codes, Option, Some, None, Result, Ok, Err, if◌then◌else◌}
use Rattle.std.specs.List.{list_any}
use Rattle.bms_source.specs.declared.letter.Place.{Place}
use Rattle.bms_source.specs.declared.refusal.Why.TheVariants.{OutOfOrder, NoFinal, NameTwice, NoScreen}
use Rattle.bms_source.specs.declared.statement.Operation.{Operation}
use Rattle.bms_source.specs.declared.statement.Operation.TheVariants.{Mapset, Map, Field, Passed, End}
use Rattle.bms_source.specs.Statement.{Said, Found, passed, ended, said as said_by}
use Rattle.bms_source.specs.Told.{Told, told_at, told_with, place_at, ◌>>=◌}
use Rattle.ds_codec.specs.declared.size.Size.{Size}
use Rattle.bms_map.specs.declared.field.Looks.{Looks}
use Rattle.bms_map.specs.declared.values.Kind.{Kind}
use Rattle.bms_map.specs.declared.values.Kind.TheVariants.{Begin, Final}
use Rattle.bms_map.specs.declared.mapset.Stage.{Stage}
use Rattle.bms_map.specs.declared.mapset.Stage.TheVariants.{Before, Inside, After}
use Rattle.bms_map.specs.Operands.{Given, operands_of}
use Rattle.bms_map.specs.Lookup.{kind_in, size_in, top_in, left_in, control_in, looks_in, looks_or, told_at_operand}
use Rattle.bms_map.specs.Maps.{Ground, Sheet}
use Rattle.bms_map.specs.Entries.{Entry, Section, sheet_of, same}
use Rattle.bms_map.specs.Fields.{needed, missing, unless, needed_label, field_length, field_of}
use Rattle.bms_map.specs.Lookup.{pos_in}
use Rattle.bms_map.specs.Source.{Source, source_of}

-- what macros told so far: what DFHMSD says for its maps, the maps before the last, and the last
pub record Progress : Type 0 where
  pub stage : Stage
  pub control : ℕ
  pub looks : Looks
  pub done : List Sheet
  pub last : Option Section

abbrev pub no_looks : Looks
no_looks = record { highlight = None; color = None; validation = None; outline = None }

abbrev pub nothing : Progress
nothing = record { stage = Before; control = 0; looks = no_looks; done = []; last = None }

abbrev pub is_inside : Stage → Bool
is_inside Before = false
is_inside Inside = true
is_inside After = false

abbrev pub is_before : Stage → Bool
is_before Before = true
is_before Inside = false
is_before After = false

abbrev pub out_of_order : Said → Told
out_of_order said = told_at OutOfOrder said.place

-- ---- DFHMSD

abbrev pub sheets_in : Option Section → List Sheet
sheets_in None = []
sheets_in (Some section) = sheet_of section ∷ []

-- no field comes to the last map any more
abbrev pub closed : Progress → Progress
closed progress = record progress { done = progress.done ++ sheets_in progress.last; last = None }

abbrev pub or_number : Option ℕ → ℕ → ℕ
or_number None other = other
or_number (Some value) other = value

unfoldable pub begun : Progress → Said → List Given → Result Progress Told
begun progress said operands = do
  first ← unless (not (is_before progress.stage)) (out_of_order said)
  name ← needed_label said 7
  Ok (record progress { stage = Inside; control = or_number (control_in operands) progress.control; looks = looks_in operands })

abbrev pub finished : Progress → Said → Result Progress Told
finished progress said = unless (not (is_inside progress.stage)) (out_of_order said) >>= λ inside. Ok (record (closed progress) { stage = After })

abbrev pub with_kind : Progress → Said → List Given → Kind → Result Progress Told
with_kind progress said operands Begin = begun progress said operands
with_kind progress said operands Final = finished progress said

abbrev pub with_mapset : Progress → Said → List Given → Result Progress Told
with_mapset progress said operands = needed (missing (codes "TYPE") said) (kind_in operands) >>= with_kind progress said operands

-- ---- DFHMDI

abbrev pub name_in : Option Section → List (List ℕ)
name_in None = []
name_in (Some section) = section.name ∷ []

abbrev pub has_map : Progress → List ℕ → Bool
has_map progress name = list_any (λ (sheet : Sheet). same name sheet.name) progress.done || list_any (same name) (name_in progress.last)

-- the first screen with so many lines and columns
unfoldable pub screen_for : ℕ → ℕ → Option Size
screen_for lines columns =
    if nat_le lines 24 && nat_le columns 80 then Some (record { rows = 24; cols = 80 })
    else (if nat_le lines 32 && nat_le columns 80 then Some (record { rows = 32; cols = 80 })
    else (if nat_le lines 43 && nat_le columns 80 then Some (record { rows = 43; cols = 80 })
    else (if nat_le lines 27 && nat_le columns 132 then Some (record { rows = 27; cols = 132 }) else None)))

abbrev pub ground_on : ℕ → ℕ → ℕ × ℕ → Option Size → Option Ground
ground_on top left extent None = None
ground_on top left extent (Some screen) = Some (record { screen = screen; top = top; left = left; lines = extent.0; columns = extent.1 })

-- where a map lies
abbrev pub ground_of : List Given → ℕ × ℕ → Option Ground
ground_of operands extent =
    ground_on (top_in operands) (left_in operands) extent (screen_for (top_in operands + extent.0) (left_in operands + extent.1))

abbrev pub section_of : Progress → Said → List Given → List ℕ → Ground → Section
section_of progress said operands name area =
    record {
      name = name;
      line = said.line;
      area = area;
      control = or_number (control_in operands) progress.control;
      looks = looks_or (looks_in operands) progress.looks;
      entries = [];
    }

unfoldable pub with_map : Progress → Said → List Given → Result Progress Told
with_map progress said operands = do
  extent ← needed (missing (codes "SIZE") said) (size_in operands)
  inside ← unless (not (is_inside progress.stage)) (out_of_order said)
  name ← needed_label said 7
  new ← unless (has_map progress name) (told_with NameTwice name (place_at said.line 1))
  area ← needed (told_at_operand NoScreen (codes "SIZE") operands) (ground_of operands extent)
  Ok (record (closed progress) { last = Some (section_of progress said operands name area) })

-- ---- DFHMDF

abbrev pub with_told : Section → Result Entry Told → Result Section Told
with_told section (Err told) = Err told
with_told section (Ok entry) = Ok (record section { entries = section.entries ++ entry ∷ [] })

abbrev pub as_last : Progress → Result Section Told → Result Progress Told
as_last progress (Err told) = Err told
as_last progress (Ok section) = Ok (record progress { last = Some section })

abbrev pub with_length : Progress → Said → List Given → ℕ → Result Progress Told
with_length progress said operands length =
    needed (out_of_order said) progress.last >>= λ section. as_last progress (with_told section (field_of section said operands length))

unfoldable pub with_field : Progress → Said → List Given → Result Progress Told
with_field progress said operands = do
  pos ← needed (missing (codes "POS") said) (pos_in operands)
  length ← field_length said operands
  with_length progress said operands length

-- ---- all of them

abbrev pub with_operands : Operation → Progress → Said → List Given → Result Progress Told
with_operands Mapset progress said operands = with_mapset progress said operands
with_operands Map progress said operands = with_map progress said operands
with_operands Field progress said operands = with_field progress said operands
with_operands Passed progress said operands = with_field progress said operands
with_operands End progress said operands = with_field progress said operands

-- what is told with one more macro
unfoldable pub with_macro : Progress → Said → Result Progress Told
with_macro progress said = operands_of said.operation said.operands >>= with_operands said.operation progress said

abbrev pub progress_of : Progress → List Said → Result Progress Told
progress_of progress [] = Ok progress
progress_of progress (said ∷ others) = with_macro progress said >>= λ more. progress_of more others

abbrev pub is_after : Stage → Bool
is_after Before = false
is_after Inside = false
is_after After = true

-- what is told with what stands at the front of lines, and where END stands
abbrev pub with_found : Progress → Found → Result (Progress × Option Place) Told
with_found progress passed = Ok (progress, None)
with_found progress (ended place) = Ok (progress, Some place)
with_found progress (said_by macro) = with_macro progress macro >>= λ more. Ok (more, None)

-- the maps, once the source ends at this place
abbrev pub whole : Progress → Place → Result (List Sheet) Told
whole progress place = if is_after progress.stage then Ok progress.done else Err (told_at NoFinal place)

abbrev pub told_by : Progress → Source → Result (List Sheet) Told
told_by progress source = progress_of progress source.macros >>= λ more. source.end >>= whole more

-- the maps of a source, in its order; or the first fault: statements are judged in turn, each by its form and then by what it says
abbrev pub maps_of : List ℕ → Result (List Sheet) Told
maps_of text = told_by nothing (source_of text)
