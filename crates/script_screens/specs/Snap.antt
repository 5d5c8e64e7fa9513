-- What Snap is asked for, and what is said of a kept screen.
use Rattle.std.specs.Prelude.{ℕ, Bool, List, [], ◌∷◌, codes, Option, Some, None, if◌then◌else◌}
use Rattle.std.specs.Fmt.{decimal}
use Rattle.std.specs.Str.{str_eq_ignore_ascii_case}
use Rattle.ds_screen.specs.Picture.{Picture}
use Rattle.script_screens.specs.declared.code_page.CodePage.{CodePage}
use Rattle.script_screens.specs.declared.reading.Reading.TheVariants.{Ascii, Ascii1, Ebcdic, Ebcdic1, ReadBuffer}
use Rattle.script_screens.specs.declared.snap.Kept.{Kept}
use Rattle.script_screens.specs.declared.snap.Kept.TheVariants.{Status, Rows, Columns, Reading}
use Rattle.script_screens.specs.declared.snap.Snap.{Snap}
use Rattle.script_screens.specs.declared.snap.Snap.TheVariants as asked
use Rattle.script_screens.specs.declared.snap.SnapFault.{SnapFault}
use Rattle.script_screens.specs.declared.snap.SnapFault.TheVariants.{NotSaved, Extra, Unknown}
use Rattle.script_screens.specs.Lines.{Said, done}
use Rattle.script_screens.specs.Status.{Link, status_words}
use Rattle.script_screens.specs.Reading.{said_of_reading}

abbrev pub is_word : List ℕ → List ℕ → Bool
is_word text word = str_eq_ignore_ascii_case text word

-- the actions that read what was kept, in letters of either case
abbrev pub reading_word : List ℕ → Option Kept
reading_word text =
    if is_word text (codes "Ascii") then Some (Reading Ascii) else (if is_word text (codes "Ascii1") then Some (Reading Ascii1)
    else (if is_word text (codes "Ebcdic") then Some (Reading Ebcdic) else (if is_word text (codes "Ebcdic1") then Some (Reading Ebcdic1)
    else (if is_word text (codes "ReadBuffer") then Some (Reading ReadBuffer) else None))))

-- a word that takes no others
abbrev pub alone : Snap → List (List ℕ) → Snap
alone snap [] = snap
alone snap (word ∷ words) = asked.Fault Extra

abbrev pub or_unknown : Option Kept → Snap
or_unknown None = asked.Fault Unknown
or_unknown (Some kept) = asked.Kept kept

abbrev pub snap_with : List ℕ → List (List ℕ) → Snap
snap_with text words =
    if is_word text (codes "Save") then alone asked.Save words else (if is_word text (codes "Status") then alone (asked.Kept Status) words
    else (if is_word text (codes "Rows") then alone (asked.Kept Rows) words else (if is_word text (codes "Cols") then alone (asked.Kept Columns) words
    else or_unknown (reading_word text))))

abbrev pub snap_of : List (List ℕ) → Snap
snap_of [] = asked.Save
snap_of (word ∷ words) = snap_with word words

abbrev pub said_of_kept : CodePage → Picture → Option Link → ℕ → Kept → List (List ℕ) → Said
said_of_kept page v link model Status arguments = done (status_words v link model ∷ [])
said_of_kept page v link model Rows arguments = done (decimal v.size.rows ∷ [])
said_of_kept page v link model Columns arguments = done (decimal v.size.cols ∷ [])
said_of_kept page v link model (Reading reading) arguments = said_of_reading page v reading arguments

abbrev pub snap_fault_words : SnapFault → List ℕ
snap_fault_words NotSaved = codes "No saved state"
snap_fault_words Extra = codes "Extra argument(s)"
snap_fault_words Unknown = codes "Parameter must be save, status, rows, cols, Wait, Ascii, Ascii1, Ebcdic, Ebcdic1 or ReadBuffer"
