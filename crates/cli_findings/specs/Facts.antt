-- What a finding tells beside its number and its words, each where it has one.
use Rattle.std.specs.Prelude.{ℕ, ◌+◌, ◌/◌, ◌%◌, List, ◌++◌, codes, slice_get, Option, Some, None, option_map, option_and_then}
use Rattle.std.specs.Fmt.{decimal}
use Rattle.ds_codec.specs.declared.size.Size.{Size}
use Rattle.ds_screen.specs.Picture.{Picture}
use Rattle.ds_terminal.specs.Refused.{refused_at}
use Rattle.scr_layout.specs.Entry.{Declared}
use Rattle.scr_check.specs.declared.finding.Demo.{Demo}
use Rattle.scr_check.specs.declared.finding.Finding.{Finding}
use Rattle.scr_check.specs.declared.finding.Finding.TheVariants.{RecordRefused, FirstNotErase, NotAWrite, OtherSize, Undeclared, UndeclaredFixed, Missing, TooLong, OtherKind, EmptyModified, CursorDependent, Selectable}
use Rattle.scr_check.specs.declared.traced.Traced.{Traced}
use Rattle.cli_commands.specs.DemoLines.{bytes_replayed}

abbrev pub or_else : Option ℕ → Option ℕ → Option ℕ
or_else (Some n) other = Some n
or_else None other = other

-- ---- the record

-- the record that a finding tells by itself, counted from 0
abbrev pub record_told : Finding → Option ℕ
record_told (RecordRefused index refused) = Some index
record_told FirstNotErase = Some 0
record_told (NotAWrite index) = Some index
record_told (CursorDependent index) = Some index
record_told finding = None

-- the byte of that record at which it is refused, counted from 0
abbrev pub byte_told : Finding → Option ℕ
byte_told (RecordRefused index refused) = Some (refused_at refused)
byte_told finding = None

-- the record that it is about: the one that it tells, or that of the order from which it comes
abbrev pub record_of : Traced → Option ℕ
record_of traced = or_else (record_told traced.finding) (option_map (λ origin. origin.index) traced.origin)

-- the byte of that record: the one that it tells, or the order's first
abbrev pub byte_of : Traced → Option ℕ
byte_of traced = or_else (byte_told traced.finding) (option_map (λ origin. origin.at) traced.origin)

-- ---- the field

abbrev pub entry_index : Finding → Option ℕ
entry_index (Missing index) = Some index
entry_index (TooLong found) = Some found.entry
entry_index (OtherKind index) = Some index
entry_index finding = None

-- the entry that it is about
abbrev pub entry_of : List Declared → Finding → Option Declared
entry_of entries finding = option_and_then (slice_get entries) (entry_index finding)

-- the place of a field that has no entry
abbrev pub field_place : Finding → Option ℕ
field_place (Undeclared place demo) = Some place
field_place (UndeclaredFixed place demo) = Some place
field_place (EmptyModified place) = Some place
field_place (Selectable place) = Some place
field_place finding = None

-- the buffer address of the first character of the field, or of the entry
abbrev pub place_of : List Declared → Finding → Option ℕ
place_of entries finding = or_else (field_place finding) (option_map (λ entry. entry.place) (entry_of entries finding))

-- the row and the column of a buffer address, counted from 1
abbrev pub row_at : Size → ℕ → ℕ
row_at size place = place / size.cols + 1

abbrev pub column_at : Size → ℕ → ℕ
column_at size place = place % size.cols + 1

-- the cells of a field that has more than its entry declares
abbrev pub length_of : Finding → Option ℕ
length_of (TooLong found) = Some found.length
length_of finding = None

-- ---- the screen

-- the size of the screen, and the layout's
abbrev pub sizes_of : Finding → Option (Size × Size)
sizes_of (OtherSize shown declared) = Some (shown, declared)
sizes_of finding = None

abbrev pub size_text : Size → List ℕ
size_text size = decimal size.rows ++ (codes "x" ++ decimal size.cols)

-- ---- the keys

-- what the keys of a demo send from a picture
abbrev pub sent_from : Option Picture → Option Demo → Option (List ℕ)
sent_from opened None = None
sent_from None (Some demo) = None
sent_from (Some v) (Some demo) = Some (bytes_replayed v demo)
