-- A finding's number, its keys, and the text of its line.
use Rattle.std.specs.Prelude.{ℕ, List, [], ◌++◌, codes, slice_get, Option, Some, None}
use Rattle.std.specs.Fmt.{decimal}
use Rattle.ds_terminal.specs.Refused.{refused_text}
use Rattle.scr_layout.specs.Entry.{Declared}
use Rattle.scr_check.specs.declared.finding.Demo.{Demo}
use Rattle.scr_check.specs.declared.finding.Overlong.{Overlong}
use Rattle.scr_check.specs.declared.finding.Finding.{Finding}
use Rattle.scr_check.specs.declared.finding.Finding.TheVariants.{RecordRefused, NoRecord, FirstNotErase, NotAWrite, KeyboardLocked, OtherSize, Unformatted, Undeclared, UndeclaredFixed, Missing, TooLong, OtherKind, EmptyModified, CursorDependent, Selectable}

-- the number behind the F of a finding's line
abbrev pub finding_number : Finding → ℕ
finding_number (RecordRefused index refused) = 1
finding_number NoRecord = 2
finding_number FirstNotErase = 3
finding_number (NotAWrite index) = 4
finding_number KeyboardLocked = 5
finding_number (OtherSize shown declared) = 6
finding_number Unformatted = 7
finding_number (Undeclared place demo) = 8
finding_number (UndeclaredFixed place demo) = 9
finding_number (Missing index) = 10
finding_number (TooLong found) = 11
finding_number (OtherKind index) = 12
finding_number (EmptyModified place) = 13
finding_number (CursorDependent index) = 14
finding_number (Selectable place) = 15

-- the keys that show a finding
abbrev pub demo_of : Finding → Option Demo
demo_of (Undeclared place demo) = Some demo
demo_of (UndeclaredFixed place demo) = Some demo
demo_of (TooLong found) = found.demo
demo_of finding = None

abbrev pub named : Option Declared → List ℕ
named None = []
named (Some entry) = entry.name

-- the name of the entry of this index
abbrev pub name_at : List Declared → ℕ → List ℕ
name_at entries index = named (slice_get entries index)

abbrev pub demo_text : Demo → List ℕ
demo_text demo = codes "right " ++ (decimal demo.rights ++ (codes ", type " ++ decimal demo.types))

abbrev pub keys_end : Option Demo → List ℕ
keys_end None = []
keys_end (Some demo) = codes ", keys: " ++ demo_text demo

abbrev pub overlong_text : List ℕ → Overlong → List ℕ
overlong_text name found =
    codes "F11 " ++ (name ++ (codes " length " ++ (decimal found.length ++ (codes ", declared " ++ (decimal found.declared ++ keys_end found.demo)))))

abbrev pub missing_text : List ℕ → List ℕ
missing_text name = codes "F10 missing " ++ name

abbrev pub other_kind_text : List ℕ → List ℕ
other_kind_text name = codes "F12 " ++ (name ++ codes " is of the other kind")

-- entries go by their names
abbrev pub finding_text : List Declared → Finding → List ℕ
finding_text entries (RecordRefused index refused) = codes "F1 record " ++ (decimal index ++ (codes " " ++ refused_text refused))
finding_text entries NoRecord = codes "F2 no record"
finding_text entries FirstNotErase = codes "F3 first record does not erase"
finding_text entries (NotAWrite index) = codes "F4 record " ++ (decimal index ++ codes " is no write")
finding_text entries KeyboardLocked = codes "F5 keyboard stays locked"
finding_text entries (OtherSize shown declared) =
    codes "F6 size " ++ (decimal shown.rows ++ (codes "x" ++ (decimal shown.cols ++ (codes ", layout " ++ (decimal declared.rows
    ++ (codes "x" ++ decimal declared.cols))))))
finding_text entries Unformatted = codes "F7 no field"
finding_text entries (Undeclared place demo) = codes "F8 undeclared input at " ++ (decimal place ++ keys_end (Some demo))
finding_text entries (UndeclaredFixed place demo) = codes "F9 undeclared fixed at " ++ (decimal place ++ keys_end (Some demo))
finding_text entries (Missing index) = missing_text (name_at entries index)
finding_text entries (TooLong found) = overlong_text (name_at entries found.entry) found
finding_text entries (OtherKind index) = other_kind_text (name_at entries index)
finding_text entries (EmptyModified place) = codes "F13 empty modified field at " ++ decimal place
finding_text entries (CursorDependent index) = codes "F14 record " ++ (decimal index ++ codes " depends on the cursor")
finding_text entries (Selectable place) = codes "F15 selectable at " ++ decimal place
