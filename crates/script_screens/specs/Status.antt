-- The status line, and what is known of a connection.
use Rattle.std.specs.Prelude.{ℕ, ◌/◌, ◌%◌, Bool, true, false, ◌&&◌, List, ◌++◌, codes, Option, Some, None, is_some, if◌then◌else◌}
use Rattle.std.specs.Fmt.{decimal}
use Rattle.ds_codec.specs.Attribute.{is_protected}
use Rattle.ds_screen.specs.declared.lock.Lock.{Lock}
use Rattle.ds_screen.specs.declared.lock.Lock.TheVariants.{Free}
use Rattle.ds_screen.specs.Picture.{Picture}
use Rattle.ds_screen.specs.Fields.{attribute_before, ruling_bits}
use Rattle.script_screens.specs.declared.connection.Protocol.{Protocol}
use Rattle.script_screens.specs.declared.connection.Connection as lent

-- a connection: the host as it was given, its port, the protocol, and the name of the logical unit, empty where there is none
pub record Link : Type 0 where
  pub host : List ℕ
  pub port : ℕ
  pub protocol : Protocol
  pub lu_name : List ℕ

abbrev pub link_of : lent.Connection → Link
link_of it = record { host = it.host.now; port = it.port; protocol = it.protocol; lu_name = it.lu_name.now }

abbrev pub link_seen : Option lent.Connection → Option Link
link_seen None = None
link_seen (Some it) = Some (link_of it)

-- the keyboard takes keys where the terminal is connected and waits for nothing
abbrev pub is_free : Lock → Bool
is_free Free = true
is_free lock = false

abbrev pub keyboard_word : Bool → Lock → List ℕ
keyboard_word connected lock = if connected && is_free lock then codes "U" else codes "L"

abbrev pub screen_word : Bool → List ℕ
screen_word formatted = if formatted then codes "F" else codes "U"

abbrev pub field_word : Bool → List ℕ
field_word protected = if protected then codes "P" else codes "U"

abbrev pub connection_word : Option Link → List ℕ
connection_word None = codes "N"
connection_word (Some link) = codes "C(" ++ (link.host ++ codes ")")

abbrev pub mode_word : Option Link → List ℕ
mode_word None = codes "N"
mode_word (Some link) = codes "I"

abbrev pub spaced : List ℕ → List ℕ
spaced word = word ++ codes " "

-- five words of the keyboard, the screen, the cursor's field, the connection and its mode
abbrev pub state_words : Picture → Option Link → List ℕ
state_words v link =
    spaced (keyboard_word (is_some link) v.lock) ++ (spaced (screen_word (is_some (attribute_before v.cells v.cursor)))
    ++ (spaced (field_word (is_protected (ruling_bits v.cells v.cursor))) ++ (spaced (connection_word link) ++ spaced (mode_word link))))

-- five numbers: of the model, of rows and columns, and the cursor's row and column from 0
abbrev pub number_words : Picture → ℕ → List ℕ
number_words v model =
    spaced (decimal model) ++ (spaced (decimal v.size.rows) ++ (spaced (decimal v.size.cols)
    ++ (spaced (decimal (v.cursor / v.size.cols)) ++ spaced (decimal (v.cursor % v.size.cols)))))

-- eleven words, the last of a window that isn't there
abbrev pub status_words : Picture → Option Link → ℕ → List ℕ
status_words v link model = state_words v link ++ (number_words v model ++ codes "0x0")

-- and one for a time that isn't taken
abbrev pub status_line : Picture → Option Link → ℕ → List ℕ
status_line v link model = status_words v link model ++ codes " -\n"
