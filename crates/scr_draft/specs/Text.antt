-- The text of a draft.
use Rattle.std.specs.Prelude.{ℕ, ◌+◌, ◌/◌, ◌%◌, Bool, not, ◌&&◌, ◌==◌, List, [], ◌∷◌, ◌++◌, codes, if◌then◌else◌}
use Rattle.std.specs.Fmt.{decimal}
use Rattle.std.specs.List.{flat_map}
use Rattle.ds_codec.specs.declared.size.Mode.{Mode}
use Rattle.ds_codec.specs.declared.size.Mode.TheVariants.{Bits14, Bits16}
use Rattle.ds_codec.specs.declared.size.Size.{Size}
use Rattle.ds_codec.specs.Geometry.{Sizes}
use Rattle.ds_codec.specs.Attribute.{is_protected, is_numeric, is_hidden}
use Rattle.ds_codec.specs.Same.{same_size}
use Rattle.ds_screen.specs.declared.field.FieldAt.{FieldAt}
use Rattle.ds_screen.specs.Picture.{Picture}
use Rattle.scr_layout.specs.declared.entry.Kind.{Kind}
use Rattle.scr_layout.specs.declared.entry.Kind.TheVariants.{Input, Fixed}
use Rattle.scr_draft.specs.Drafted.{Named, kind_of, label_before}

-- ---- the keys at the top

abbrev pub mode_line : Mode → List ℕ
mode_line Bits14 = []
mode_line Bits16 = codes "addresses = 16\n"

unfoldable pub default_line : Size → List ℕ
default_line size = codes "default = \"" ++ (decimal size.rows ++ (codes "x" ++ (decimal size.cols ++ codes "\"\n")))

unfoldable pub alternate_line : Size → List ℕ
alternate_line size = codes "alternate = \"" ++ (decimal size.rows ++ (codes "x" ++ (decimal size.cols ++ codes "\"\n")))

unfoldable pub geometry_lines : Sizes → List ℕ
geometry_lines geometry = mode_line geometry.mode ++ (default_line geometry.default ++ alternate_line geometry.alternate)

-- the screen that is shown; where both are of one size, the default one
abbrev pub screen_line : Picture → List ℕ
screen_line v = if same_size v.size v.geometry.default then codes "screen = \"default\"\n" else codes "screen = \"alternate\"\n"

abbrev pub top_lines : Picture → List ℕ
top_lines v = geometry_lines v.geometry ++ screen_line v

-- ---- a field

abbrev pub kind_word : Kind → List ℕ
kind_word Input = codes "input"
kind_word Fixed = codes "fixed"

-- an operator can type there, digits alone on a terminal that locks letters out
abbrev pub takes_digits : ℕ → Bool
takes_digits bits = not (is_protected bits) && is_numeric bits

abbrev pub label_words : List ℕ → List ℕ
label_words [] = codes "no label"
label_words (c ∷ cs) = c ∷ cs

-- what an operator sees: the label, and whether the field is hidden or numeric
abbrev pub comment_line : Picture → FieldAt → List ℕ
comment_line v field =
    codes "# " ++ (label_words (label_before v field) ++ ((if is_hidden field.attr then codes ", hidden" else [])
    ++ ((if takes_digits field.attr then codes ", numeric" else []) ++ codes "\n")))

-- the row and the column of its first cell, counted from 1
abbrev pub place_lines : ℕ → ℕ → List ℕ
place_lines cols place =
    codes "row = " ++ (decimal (place / cols + 1) ++ (codes "\ncol = " ++ (decimal (place % cols + 1) ++ codes "\n")))

unfoldable pub name_lines : List ℕ → List ℕ
name_lines name = codes "\n[[field]]\nname = \"" ++ (name ++ codes "\"\n")

abbrev pub length_lines : FieldAt → List ℕ
length_lines field =
    codes "length = " ++ (decimal field.length ++ (codes "\nkind = \"" ++ (kind_word (kind_of field.attr) ++ codes "\"\n")))

-- what follows the name
unfoldable pub other_lines : Picture → FieldAt → List ℕ
other_lines v field = place_lines v.size.cols field.place ++ (length_lines field ++ comment_line v field)

unfoldable pub field_lines : Picture → Named → List ℕ
field_lines v d = name_lines d.name ++ other_lines v d.field

abbrev pub draft_text : Picture → List Named → List ℕ
draft_text v drafts = top_lines v ++ flat_map (field_lines v) drafts
