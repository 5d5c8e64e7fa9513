-- What Cursor Select and a light pen change, the fields that `check` tells of where the pen is asked for, and what a yes
-- then promises (GA23-0059, what it says of the selector pen).
use Rattle.std.specs.Prelude.{◌≡◌, ℕ, ◌/◌, ◌%◌, Bool, true, false, not, ◌&&◌, ◌||◌, ◌==◌, List, [], ◌∷◌, ◌++◌, length, option_to_list, Option, Some, None, Result, Ok, Err, if◌then◌else◌}
use Rattle.std.specs.List.{flat_map, list_any}
use Rattle.ds_codec.specs.declared.cell.Cell.{Cell}
use Rattle.ds_codec.specs.declared.cell.Cell.TheVariants.{Field, Char}
use Rattle.ds_codec.specs.Aid.{is_long_aid}
use Rattle.ds_codec.specs.Attribute.{is_protected, is_detectable, with_modified}
use Rattle.ds_codec.specs.Character.{glyph}
use Rattle.ds_screen.specs.declared.field.FieldAt.{FieldAt}
use Rattle.ds_screen.specs.Ring.{ring_on}
use Rattle.ds_screen.specs.Picture.{Picture, cell_at, ruled}
use Rattle.ds_screen.specs.Fields.{bits_of, fields_of}
use Rattle.scr_layout.specs.Layout.{Declaration, IsLayout}
use Rattle.scr_check.specs.declared.finding.Finding.{Finding}
use Rattle.scr_check.specs.declared.finding.Finding.TheVariants.{Selectable}
use Rattle.scr_check.specs.Opening.{command_fault, opening_of}
use Rattle.scr_check.specs.Findings.{findings_of}
use Rattle.scr_check.specs.Leads.{RecordsLead}
use Rattle.scr_check.specs.Taking.{all_taken_by}
use Rattle.scr_check.specs.Any.{IsLeftOf, SendsModified}

-- ---- what can be selected

-- `?`, `>`, `&`, space and null
abbrev pub is_designator : ℕ → Bool
is_designator code = list_any (λ designator. designator == code) (0x6F ∷ 0x6E ∷ 0x50 ∷ 0x40 ∷ 0x00 ∷ [])

-- the code of a character, of either set; an attribute is read as a null, which is our own rule
abbrev pub code_of : Cell → ℕ
code_of (Field bits) = 0
code_of (Char character) = character.code

-- the code at the position after the attribute at q
abbrev pub code_after : List Cell → ℕ → ℕ
code_after cells q = code_of (cell_at cells (ring_on (length cells) q 1))

-- an attribute at q begins a field that can be selected
abbrev pub can_select : List Cell → ℕ → Bool
can_select cells q = is_detectable (bits_of (cell_at cells q)) && is_designator (code_after cells q)

-- ---- what selecting does

-- `?` becomes `>`, and `>` becomes `?`; another designator stays
abbrev pub toggled : Cell → Cell
toggled (Field bits) = Field bits
toggled (Char character) =
    if character.code == 0x6F then Char (glyph 0x6E false) else (if character.code == 0x6E then Char (glyph 0x6F false) else Char character)

-- what position p holds after the field of the attribute at q was selected: `>` resets its modified data tag, another
-- designator sets it
abbrev pub selected_cell : List Cell → ℕ → ℕ → Cell
selected_cell cells q p =
    if p == q then Field (with_modified (bits_of (cell_at cells q)) (not (code_after cells q == 0x6E)))
    else (if p == ring_on (length cells) q 1 then toggled (cell_at cells p) else cell_at cells p)

-- the cells after that, where it can be selected
abbrev pub cells_selected : List Cell → ℕ → List Cell
cells_selected cells q = if can_select cells q then ruled (length cells) (selected_cell cells q) else cells

-- The field of the attribute at q is selected. A space, a null and `&` send too, which says nothing of the cells.
abbrev pub selected : Picture → ℕ → Picture
selected v q = record v { cells = cells_selected v.cells q }

-- fields in turn
abbrev pub all_selected : Picture → List ℕ → Picture
all_selected v [] = v
all_selected v (q ∷ places) = all_selected (selected v q) places

-- ---- what is found

-- Selecting changes a protected field, or sets the tag of one without cells.
unfoldable pub is_selectable : List Cell → FieldAt → Bool
is_selectable cells field =
    is_detectable field.attr && ((field.length == 0) || (is_protected field.attr && is_designator (code_of (cell_at cells field.place))))

abbrev pub selectable_finding : List Cell → FieldAt → Option Finding
selectable_finding cells field = if is_selectable cells field then Some (Selectable field.place) else None

-- the fields that can be selected and may not, in rising order of their attributes
abbrev pub selectable_of : List Cell → List Finding
selectable_of cells = flat_map (λ field. option_to_list (selectable_finding cells field)) (fields_of cells)

-- all that stands against a picture, and then these
abbrev pub told_with_pen : Declaration → Result Picture Finding → List Finding
told_with_pen layout (Err finding) = finding ∷ []
told_with_pen layout (Ok v) = findings_of layout v ++ selectable_of v.cells

abbrev pub answer_with_pen : Declaration → List (List ℕ) → List Finding
answer_with_pen layout records = told_with_pen layout (opening_of layout records)

-- the records lead to a picture against which nothing stands, and on which nothing may be selected that may not
pub record ConformsWithPen (layout : Declaration) (records : List (List ℕ)) : Type 0 where
  pub picture : Picture
  pub opens : opening_of layout records ≡ Ok picture
  pub clean : findings_of layout picture ≡ []
  pub safe : selectable_of picture.cells ≡ []

-- ---- what a yes promises

-- Where no field is found, whatever the operator left and then selected is a picture that can be left.
abbrev pub SelectingLeaves : Type 0
SelectingLeaves = (opened v : Picture) (places : List ℕ) → selectable_of opened.cells ≡ [] → IsLeftOf opened v → IsLeftOf opened (all_selected v places)

-- Enter and each PF key send the modified fields, each as it is declared, whatever was left and then selected.
abbrev pub AnswersWithPen : Declaration → Picture → Type 0
AnswersWithPen layout opened =
    (v : Picture) (places : List ℕ) → IsLeftOf opened v → (aid : ℕ) → is_long_aid aid ≡ true
    → IsLeftOf opened (all_selected v places) × SendsModified layout opened (all_selected v places) aid

pub record IsPromisedWithPen (layout : Declaration) (records : List (List ℕ)) : Type 0 where
  pub opened : Picture
  pub opens : opening_of layout records ≡ Ok opened
  pub promise : AnswersWithPen layout opened

-- for a user: the records led from some picture of the layout's geometry to one
abbrev pub YesMeansWithPen : Type 0
YesMeansWithPen =
    (layout : Declaration) (records : List (List ℕ)) → IsLayout layout → ConformsWithPen layout records
    → (before opened : Picture) → before.geometry ≡ layout.geometry → RecordsLead before records opened → AnswersWithPen layout opened

-- ---- as the program holds it

-- the screen that the records open, where they open one
abbrev pub ShowsOpened : Declaration → List (List ℕ) → Picture → Type 0
ShowsOpened layout records shown = (v : Picture) → opening_of layout records ≡ Ok v → shown ≡ v

-- the records led from one picture to the other, under the rule of the first turn, or this stands against one
abbrev pub ShowsTaken : Picture → Picture → List (List ℕ) → Result (Unit {0}) Finding → Type 0
ShowsTaken old new records (Ok done) = all_taken_by (λ index command orders. command_fault index command) 0 old records ≡ Ok new
ShowsTaken old new records (Err finding) = all_taken_by (λ index command orders. command_fault index command) 0 old records ≡ Err finding
