-- What a yes promises, that the texts are those of `check` and `talk`, and that each is one line.
use Rattle.std.specs.Prelude.{◌≡◌, ℕ, true, false, List, [], ◌∷◌, map, slice_get, Option, Some, Result, Ok}
use Rattle.ds_codec.specs.Geometry.{Sizes}
use Rattle.ds_screen.specs.Picture.{Picture}
use Rattle.scr_layout.specs.Layout.{Declaration, IsLayout}
use Rattle.scr_check.specs.Leads.{IsPromised}
use Rattle.scr_check.specs.Any.{IsPromisedForAny, TalksKeepForAny}
use Rattle.scr_check.specs.Talk.{TalksKeep}
use Rattle.scr_check.specs.Walk.{Stop}
use Rattle.cli_commands.specs.declared.output.demo.Demos.TheVariants.{Omitted}
use Rattle.cli_commands.specs.Check.{printed_answer}
use Rattle.cli_commands.specs.LayoutText.{layout_in}
use Rattle.ds_codec.specs.Same.{same_sizes}
use Rattle.cli_commands.specs.Talk.{stop_text}
use Rattle.script_screens.specs.declared.lines.Outcome.TheVariants.{Done}
use Rattle.script_screens.specs.Laws.{are_whole}
use Rattle.tn_session.specs.Kept.{Kept}
use Rattle.script_checks.specs.Lines.{lines_after}
use Rattle.script_checks.specs.Named.{Listed, Named}
use Rattle.script_checks.specs.Forms.{told_texts}
use Rattle.script_checks.specs.Told.{told_of}
use Rattle.script_checks.specs.Said.{judged_said, verdict_said, said_of_check}
use Rattle.script_checks.specs.Turns.{are_several, rounds_with, turns_of}

-- ---- a yes

-- What a clause of `check` and of `check_talk` promises on a yes: of the records, where they are of one turn, and of each turn.
pub record IsChecked (kept : List Kept) (layout : Declaration) : Type 0 where
  pub one : are_several kept ≡ false → IsPromised layout (map (λ one. one.bytes) kept)
  pub one_for_any : are_several kept ≡ false → IsPromisedForAny layout (map (λ one. one.bytes) kept)
  pub turns : TalksKeep (rounds_with layout (turns_of kept))
  pub turns_for_any : TalksKeepForAny (rounds_with layout (turns_of kept))

-- where Check is done, the text is a layout for the device, and the screen keeps what it says
pub record Promised (kept : List Kept) (geometry : Sizes) (text : List ℕ) : Type 0 where
  pub layout : Declaration
  pub reads : layout_in text ≡ Ok layout
  pub fits : same_sizes layout.geometry geometry ≡ true
  pub checked : IsChecked kept layout

abbrev pub YesIsPromised : Type 0
YesIsPromised =
    (turns : Option (List Kept)) (geometry : Sizes) (path text : List ℕ) → (said_of_check turns geometry path (Ok text)).outcome ≡ Done
    → (kept : List Kept) × (turns ≡ Some kept) × Promised kept geometry text

-- ---- the texts

-- of one turn, the lines that `check` prints of its records
abbrev pub SaysWhatCheckPrints : Type 0
SaysWhatCheckPrints =
    (layout : Declaration) (kept : List Kept) → are_several kept ≡ false
    → lines_after [] (judged_said layout kept).texts ≡ (printed_answer Omitted layout (map (λ one. one.bytes) kept)).text

-- of several, the lines that `talk` prints of a turn that has this layout
abbrev pub SaysWhatTalkPrints : Type 0
SaysWhatTalkPrints =
    (layouts : List Declaration) (layout : Declaration) (stop : Stop) → slice_get layouts stop.turn ≡ Some layout
    → lines_after [] (verdict_said layout.entries true (Some stop)).texts ≡ stop_text layouts stop

-- ---- lines

-- no data line of Check has a line's end, whatever the names are
abbrev pub ChecksAreLines : Type 0
ChecksAreLines =
    (turns : Option (List Kept)) (geometry : Sizes) (path : List ℕ) (read : Result (List ℕ) (List ℕ))
    → are_whole (said_of_check turns geometry path read).texts ≡ true

-- the layouts are layouts
abbrev pub AreLayouts : List Named → Type 0
AreLayouts [] = Unit {0}
AreLayouts (one ∷ all) = IsLayout one.layout × AreLayouts all

-- and none of a report that is a text
abbrev pub ReportsAreLines : Type 0
ReportsAreLines =
    (layouts : Listed) (v : Picture) (turns : Option (List Kept)) (number : ℕ) → AreLayouts layouts.all → are_whole (told_texts number (told_of layouts v turns)) ≡ true
