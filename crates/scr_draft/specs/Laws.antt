-- The laws of drafts.
use Rattle.std.specs.Prelude.{◌≡◌, ℕ, ◌-◌, ◌%◌, ◌^◌, ◌<◌, ◌≤◌, List, length, Ok}
use Rattle.ds_codec.specs.declared.cell.Cell.{Cell}
use Rattle.ds_screen.specs.Picture.{Picture, IsSound}
use Rattle.scr_layout.specs.Says.{TextSays}
use Rattle.scr_draft.specs.Label.{label_of, IsLabel}
use Rattle.scr_draft.specs.Name.{form, free_number, IsFree}
use Rattle.scr_draft.specs.Drafted.{drafted_fields, drafts_of, declared_by}
use Rattle.scr_draft.specs.Text.{draft_text}
use Rattle.scr_draft.specs.Draft.{drafted}

-- of a screen with at most 1,000 fields to declare a draft is printed, and its text says a layout: its names are lawful
-- and none comes twice
abbrev pub DraftsAreLayouts : Type 0
DraftsAreLayouts =
    (v : Picture) → IsSound v → length (drafted_fields v.cells) ≤ 1000
    → (drafted v ≡ Ok (draft_text v (drafts_of v))) × TextSays (draft_text v (drafts_of v)) (declared_by v)

-- whatever the label, one of a field's names is free, and the least is taken
abbrev pub NamesAreFree : Type 0
NamesAreFree =
    (names : List (List ℕ)) (cols place : ℕ) (label : List ℕ) → length names < 2 ^ 63
    → IsFree names (form cols place label) (free_number names (form cols place label))

-- the label of a field is the last text before it on its row
abbrev pub LabelsAreLast : Type 0
LabelsAreLast =
    (cells : List Cell) (cols place : ℕ) → 0 < cols → place < length cells
    → IsLabel cells (place - place % cols) place (label_of cells cols place)
