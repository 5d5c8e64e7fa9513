-- What to add for a finding: the entry of a field that has none, and the orders that write an attribute as it should be.
use Rattle.std.specs.Prelude.{ℕ, ◌+◌, not, ◌&&◌, ◌==◌, nat_le, nat_lt, false, Option, Some, None, option_and_then, List, [], ◌++◌, codes, length, if◌then◌else◌}
use Rattle.std.specs.Fmt.{decimal}
use Rattle.ds_codec.specs.Address.{six_bit_code}
use Rattle.ds_codec.specs.Attribute.{is_protected, with_protected, with_modified}
use Rattle.ds_codec.specs.Geometry.{cells_of}
use Rattle.ds_screen.specs.Picture.{Picture, cell_at}
use Rattle.ds_screen.specs.Fields.{attribute_of, fields_of}
use Rattle.ds_screen.specs.Ring.{ring_on}
use Rattle.order_lines.specs.Print.{hex_byte}
use Rattle.scr_layout.specs.declared.entry.Kind.{Kind}
use Rattle.scr_layout.specs.declared.entry.Kind.TheVariants.{Input, Fixed}
use Rattle.scr_layout.specs.Layout.{Declaration}
use Rattle.scr_check.specs.declared.finding.Finding.{Finding}
use Rattle.scr_check.specs.declared.finding.Finding.TheVariants.{Undeclared, UndeclaredFixed, TooLong, OtherKind, EmptyModified}
use Rattle.scr_check.specs.Traced.{attribute_place}
use Rattle.cli_findings.specs.Facts.{place_of, row_at, column_at}
use Rattle.cli_findings.specs.FieldName.{field_name}
use Rattle.cli_findings.specs.Help.{names_in, address_digits}
use Rattle.cli_reports.specs.Extent.{length_in}

-- ---- the entry

-- the place of a field that has no entry, and the kind that its entry has
abbrev pub undeclared : Finding → Option (ℕ × Kind)
undeclared (Undeclared place demo) = Some (place, Input)
undeclared (UndeclaredFixed place demo) = Some (place, Fixed)
undeclared finding = None

abbrev pub kind_line : Kind → List ℕ
kind_line Input = []
kind_line Fixed = codes "    kind = \"fixed\"\n"

unfoldable pub entry_block : List ℕ → ℕ → ℕ → ℕ → List ℕ
entry_block name row column length =
    codes "  add:\n    [[field]]\n    name = \"" ++ (name ++ (codes "\"\n    row = " ++ (decimal row ++ (codes "\n    col = " ++ (decimal column
    ++ (codes "\n    length = " ++ (decimal length ++ codes "\n")))))))

-- the lines of a layout for a field at a place with so many cells
abbrev pub entry_lines : Declaration → ℕ → Kind → Option ℕ → List ℕ
entry_lines layout place kind None = []
entry_lines layout place kind (Some length) =
    entry_block (field_name (names_in layout.entries) place) (row_at layout.size place) (column_at layout.size place) length ++ kind_line kind

abbrev pub entry_for : Declaration → Picture → Option (ℕ × Kind) → List ℕ
entry_for layout v None = []
entry_for layout v (Some found) = entry_lines layout found.0 found.1 (length_in found.0 (fields_of v.cells))

-- ---- the attribute

-- without its modified data tag, or protected where it wasn't and not where it was
abbrev pub amended : Finding → ℕ → Option ℕ
amended (UndeclaredFixed place demo) bits = Some (with_modified bits false)
amended (EmptyModified place) bits = Some (with_modified bits false)
amended (OtherKind index) bits = Some (with_protected bits (not (is_protected bits)))
amended finding bits = None

-- Set Buffer Address and Start Field
abbrev pub amended_line : List ℕ → ℕ → List ℕ
amended_line address bits = codes "  write: 11" ++ (address ++ (codes "1D" ++ (hex_byte (six_bit_code bits) ++ codes "\n")))

abbrev pub amended_at : Declaration → ℕ → Option ℕ → List ℕ
amended_at layout at None = []
amended_at layout at (Some bits) = amended_line (address_digits layout.geometry.mode layout.size at) bits

-- the attribute that begins the field at a place of a screen of the layout's size
abbrev pub write_line : Declaration → Picture → Finding → ℕ → List ℕ
write_line layout v finding place =
    if nat_lt place (cells_of layout.size) && (cells_of layout.size == length v.cells)
    then amended_at layout (attribute_place layout.size place)
    (option_and_then (amended finding) (attribute_of (cell_at v.cells (attribute_place layout.size place))))
    else []

abbrev pub write_for : Declaration → Picture → Finding → Option ℕ → List ℕ
write_for layout v finding None = []
write_for layout v finding (Some place) = write_line layout v finding place

-- ---- the end of a field

-- the attribute that ends a field: protected, and passed by the cursor
abbrev pub stopper : ℕ
stopper = 0x30

-- the cells of a field that has more than its entry declares
abbrev pub declared_cells : Finding → Option ℕ
declared_cells (TooLong found) = Some found.declared
declared_cells finding = None

-- the attribute that ends the field at a place of a screen of the layout's size after so many cells
abbrev pub stop_after : Declaration → Picture → ℕ → ℕ → List ℕ
stop_after layout v place cells =
    if nat_lt place (cells_of layout.size) && (nat_le cells (cells_of layout.size) && (cells_of layout.size == length v.cells))
    then amended_line (address_digits layout.geometry.mode layout.size (ring_on (cells_of layout.size) place cells)) stopper
    else []

abbrev pub stop_for : Declaration → Picture → Option ℕ → Option ℕ → List ℕ
stop_for layout v (Some place) (Some cells) = stop_after layout v place cells
stop_for layout v place cells = []

-- ---- all of them

abbrev pub written_for : Declaration → Picture → Finding → Option ℕ → List ℕ
written_for layout v finding place = write_for layout v finding place ++ stop_for layout v place (declared_cells finding)

abbrev pub added : Declaration → Picture → Finding → List ℕ
added layout v finding = entry_for layout v (undeclared finding) ++ written_for layout v finding (place_of layout.entries finding)
