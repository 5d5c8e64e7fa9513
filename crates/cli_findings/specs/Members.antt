-- A finding as a JSON object. Its members are in the order of their keys, and a key that doesn't apply is left out.
use Rattle.std.specs.Prelude.{ℕ, ◌==◌, List, [], ◌∷◌, ◌++◌, codes, slice_get, Option, Some, None, option_map, option_and_then, if◌then◌else◌}
use Rattle.serde_json.specs.Data.{Data, number, unsigned, string, array, object, Members, no_members, member, put}
use Rattle.serde_json.specs.View.{items_of}
use Rattle.hex.specs.Hex.{encode_upper}
use Rattle.ds_codec.specs.declared.size.Size.{Size}
use Rattle.ds_screen.specs.Picture.{Picture}
use Rattle.scr_layout.specs.Entry.{Declared}
use Rattle.scr_layout.specs.Layout.{Declaration}
use Rattle.scr_check.specs.declared.finding.Demo.{Demo}
use Rattle.scr_check.specs.declared.finding.Finding.{Finding}
use Rattle.scr_check.specs.declared.origins.Origin.{Origin}
use Rattle.scr_check.specs.declared.traced.Traced.{Traced}
use Rattle.scr_check.specs.FindingText.{demo_of, finding_number, finding_text}
use Rattle.cli_findings.specs.Facts.{record_of, byte_of, entry_of, place_of, row_at, column_at, length_of, sizes_of, size_text, sent_from}
use Rattle.cli_findings.specs.Help.{help_of}
use Rattle.cli_findings.specs.Name.{name_of}

-- ---- one member

-- the members, with a value at a key where there is one
abbrev pub with_some : List ℕ → Option Data → Members → Members
with_some key None members = members
with_some key (Some value) members = put key value members

abbrev pub with_count : List ℕ → Option ℕ → Members → Members
with_count key count members = with_some key (option_map (λ n. number (unsigned n)) count) members

abbrev pub with_text : List ℕ → Option (List ℕ) → Members → Members
with_text key text members = with_some key (option_map string text) members

-- ---- what they tell

abbrev pub with_words : List Declared → Finding → Members → Members
with_words entries finding members =
    with_text (codes "words") (Some (finding_text entries finding))
    (with_text (codes "name") (Some (name_of finding)) (with_count (codes "number") (Some (finding_number finding)) members))

-- a record, its line, of those on which records stand, and a byte of it
abbrev pub with_spot : List ℕ → Option ℕ → Option ℕ → Members → Members
with_spot numbers index byte members =
    with_count (codes "byte") byte
    (with_count (codes "line") (option_and_then (slice_get numbers) index) (with_count (codes "record") index members))

-- where an order stands
abbrev pub spot_data : List ℕ → Origin → Data
spot_data numbers origin = object (with_spot numbers (Some origin.index) (Some origin.at) no_members)

-- the order that ends the field
abbrev pub with_end : List ℕ → Option Origin → Members → Members
with_end numbers end members = with_some (codes "end") (option_map (spot_data numbers) end) members

-- where the field begins
abbrev pub with_place : Size → Option ℕ → Members → Members
with_place size place members =
    with_count (codes "column") (option_map (column_at size) place)
    (with_count (codes "row") (option_map (row_at size) place) (with_count (codes "place") place members))

-- the cells of the field, and the entry
abbrev pub with_entry : List Declared → Finding → Members → Members
with_entry entries finding members =
    with_text (codes "entry") (option_map (λ entry. entry.name) (entry_of entries finding))
    (with_count (codes "declared") (option_map (λ entry. entry.length) (entry_of entries finding)) (with_count (codes "length") (length_of finding) members))

-- the size of the screen, and the layout's
abbrev pub with_sizes : Option (Size × Size) → Members → Members
with_sizes sizes members =
    with_text (codes "layout") (option_map (λ both. size_text both.1) sizes) (with_text (codes "size") (option_map (λ both. size_text both.0) sizes) members)

-- a key as a line of keys, with how often it is pressed
abbrev pub key_data : List ℕ → ℕ → Data
key_data line times = object (member (codes "key") (string line) (member (codes "times") (number (unsigned times)) no_members))

-- nothing of a key that isn't pressed
abbrev pub pressed : List ℕ → ℕ → List Data
pressed line times = if times == 0 then [] else (key_data line times ∷ [])

abbrev pub keys_data : Demo → Data
keys_data demo = array (items_of (pressed (codes "right") demo.rights ++ (pressed (codes "type C1") demo.types ++ pressed (codes "enter") 1)))

-- the keys that show it, and what they send
abbrev pub with_keys : Option Picture → Option Demo → Members → Members
with_keys opened demo members =
    with_text (codes "sends") (option_map encode_upper (sent_from opened demo)) (with_some (codes "keys") (option_map keys_data demo) members)

-- what to do
abbrev pub with_help : Declaration → Traced → Members → Members
with_help layout traced members = with_text (codes "help") (help_of layout traced) members

-- ---- the object

-- what is told of a finding of records on these lines that leave this picture
abbrev pub finding_members : Declaration → List ℕ → Option Picture → Traced → Members
finding_members layout numbers opened traced =
    with_help layout traced (with_keys opened (demo_of traced.finding)
    (with_sizes (sizes_of traced.finding)
    (with_entry layout.entries traced.finding (with_place layout.size (place_of layout.entries traced.finding)
    (with_end numbers traced.end (with_spot numbers (record_of traced) (byte_of traced) (with_words layout.entries traced.finding no_members)))))))

abbrev pub finding_data : Declaration → List ℕ → Option Picture → Traced → Data
finding_data layout numbers opened traced = object (finding_members layout numbers opened traced)
