-- The checker's values as the program holds them.
use Rattle.std.specs.Prelude.{◌≡◌, ℕ, Bool, not, List, [], length, Result, Ok, Err}
use Rattle.ds_codec.specs.declared.size.Size.{Size}
use Rattle.ds_screen.specs.declared.lock.Lock.{Lock}
use Rattle.ds_screen.specs.Picture.{Picture}
use Rattle.ds_screen.specs.Fields.{fields_of}
use Rattle.ds_screen.specs.Outline.{Outlined, IsOutlineOf}
use Rattle.scr_layout.specs.Layout.{Declaration}
use Rattle.scr_check.specs.declared.cursor.Cursor.{Cursor}
use Rattle.scr_check.specs.declared.finding.Finding.{Finding}
use Rattle.scr_check.specs.declared.verdict.Verdict.{Verdict}
use Rattle.scr_check.specs.declared.verdict.Verdict.TheVariants.{Yes, No}
use Rattle.scr_check.specs.declared.opening.Opening.{Opening}
use Rattle.scr_check.specs.declared.opening.Opening.TheVariants.{Leads, Stands}
use Rattle.scr_check.specs.Opening.{is_none_of, ready, opening_of}

-- what a verdict tells
abbrev pub findings_in : Verdict → List Finding
findings_in Yes = []
findings_in (No findings) = findings.items

-- a verdict that is no yes tells something
abbrev pub TellsSome : Verdict → Type 0
TellsSome Yes = Unit {0}
TellsSome (No findings) = findings.items ≡ [] → ⊥

abbrev pub IsReady : Picture → Size → Result (Unit {0}) Finding → Type 0
IsReady v size (Ok done) = ready size v ≡ Ok v
IsReady v size (Err finding) = ready size v ≡ Err finding

-- the same of whatever picture has this lock, this size, and fields or none
abbrev pub IsReadyFor : Lock → Size → Size → Bool → Result (Unit {0}) Finding → Type 0
IsReadyFor lock shown declared has_fields result =
    (v : Picture) → v.lock ≡ lock → v.size ≡ shown → is_none_of (fields_of v.cells) ≡ not has_fields → IsReady v declared result

abbrev pub IsReadyOn : Outlined → Size → Result (Unit {0}) Finding → Type 0
IsReadyOn outline size result = (v : Picture) → IsOutlineOf outline v → IsReady v size result

-- this is the outline of the picture that was opened, or the finding that comes first
abbrev pub IsOpened : Result Picture Finding → Opening → Type 0
IsOpened opened (Leads outline) = (v : Picture) × (opened ≡ Ok v) × IsOutlineOf outline v
IsOpened opened (Stands finding) = opened ≡ Err finding

-- the same of records
abbrev pub IsOpening : Declaration → List (List ℕ) → Opening → Type 0
IsOpening layout records opening = IsOpened (opening_of layout records) opening

-- the cursor of a picture, and how many cells it has
abbrev pub IsCursorOf : Cursor → Picture → Type 0
IsCursorOf cursor v = (length v.cells ≡ cursor.cells) × (v.cursor ≡ cursor.at)

-- this is so of whatever picture has this cursor
abbrev pub FromCursor : Cursor → (Picture → Type 0) → Type 0
FromCursor cursor holds = (v : Picture) → IsCursorOf cursor v → holds v
