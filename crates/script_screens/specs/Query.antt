-- What Query says.
use Rattle.std.specs.Prelude.{ℕ, ◌+◌, ◌/◌, ◌%◌, ◌==◌, Bool, List, [], ◌∷◌, ◌++◌, map, length, codes, Option, Some, None, is_some, if◌then◌else◌}
use Rattle.std.specs.Fmt.{decimal}
use Rattle.std.specs.Str.{str_eq_ignore_ascii_case}
use Rattle.ds_codec.specs.declared.size.Size.{Size}
use Rattle.ds_screen.specs.Picture.{Picture}
use Rattle.ds_screen.specs.Fields.{attribute_before}
use Rattle.script_screens.specs.declared.connection.Protocol.{Protocol}
use Rattle.script_screens.specs.declared.connection.Protocol.TheVariants.{Tn3270, Tn3270e}
use Rattle.script_screens.specs.declared.item.Item.{Item}
use Rattle.script_screens.specs.declared.item.Item.TheVariants.{BindPluName, ConnectionState, Cursor, Cursor1, Formatted, Host, LocalEncoding, LuName, Model, ScreenCurSize, ScreenMaxSize, ScreenSizeCurrent, ScreenSizeMax, TerminalName, Tls, Version}
use Rattle.script_screens.specs.declared.query.Query.{Query}
use Rattle.script_screens.specs.declared.query.Query.TheVariants as asked
use Rattle.script_screens.specs.declared.connection.Device as lent
use Rattle.script_screens.specs.Lines.{Said, done, failed}
use Rattle.script_screens.specs.Status.{Link}

-- a device: its name, and what is said of the program's version
pub record Named : Type 0 where
  pub name : List ℕ
  pub version : List ℕ

abbrev pub device_seen : lent.Device → Named
device_seen it = record { name = it.name.now; version = it.version.now }

abbrev pub item_name : Item → List ℕ
item_name BindPluName = codes "BindPluName"
item_name ConnectionState = codes "ConnectionState"
item_name Cursor = codes "Cursor"
item_name Cursor1 = codes "Cursor1"
item_name Formatted = codes "Formatted"
item_name Host = codes "Host"
item_name LocalEncoding = codes "LocalEncoding"
item_name LuName = codes "LuName"
item_name Model = codes "Model"
item_name ScreenCurSize = codes "ScreenCurSize"
item_name ScreenMaxSize = codes "ScreenMaxSize"
item_name ScreenSizeCurrent = codes "ScreenSizeCurrent"
item_name ScreenSizeMax = codes "ScreenSizeMax"
item_name TerminalName = codes "TerminalName"
item_name Tls = codes "Tls"
item_name Version = codes "Version"

-- all items, and those that are said when none is asked for
abbrev pub all_items : List Item
all_items =
    BindPluName ∷ ConnectionState ∷ Cursor ∷ Cursor1 ∷ Formatted ∷ Host ∷ LocalEncoding ∷ LuName ∷ Model ∷ ScreenCurSize ∷ ScreenMaxSize
    ∷ ScreenSizeCurrent ∷ ScreenSizeMax ∷ TerminalName ∷ Tls ∷ Version ∷ []

abbrev pub listed_items : List Item
listed_items =
    BindPluName ∷ ConnectionState ∷ Cursor1 ∷ Formatted ∷ Host ∷ LocalEncoding ∷ LuName ∷ ScreenSizeCurrent ∷ ScreenSizeMax ∷ TerminalName
    ∷ Tls ∷ Version ∷ []

-- the first of some items of this name, in letters of either case
abbrev pub item_in : List Item → List ℕ → Option Item
item_in [] text = None
item_in (item ∷ items) text = if str_eq_ignore_ascii_case text (item_name item) then Some item else item_in items text

abbrev pub item_named : List ℕ → Option Item
item_named text = item_in all_items text

-- ---- values

-- a row and a column from 0, and from 1 with the position
abbrev pub cursor_value : Picture → List ℕ
cursor_value v = decimal (v.cursor / v.size.cols) ++ (codes " " ++ decimal (v.cursor % v.size.cols))

abbrev pub cursor1_value : Picture → List ℕ
cursor1_value v =
    codes "row " ++ (decimal (v.cursor / v.size.cols + 1) ++ (codes " column " ++ (decimal (v.cursor % v.size.cols + 1)
    ++ (codes " offset " ++ decimal v.cursor))))

abbrev pub protocol_value : Protocol → List ℕ
protocol_value Tn3270 = codes "connected-3270"
protocol_value Tn3270e = codes "connected-tn3270e"

abbrev pub state_value : Option Link → List ℕ
state_value None = codes "not-connected"
state_value (Some link) = protocol_value link.protocol

abbrev pub formatted_value : Bool → List ℕ
formatted_value formatted = if formatted then codes "formatted" else codes "unformatted"

abbrev pub host_value : Option Link → List ℕ
host_value None = []
host_value (Some link) = codes "host " ++ (link.host ++ (codes " " ++ decimal link.port))

abbrev pub lu_value : Option Link → List ℕ
lu_value None = []
lu_value (Some link) = link.lu_name

abbrev pub tls_value : Option Link → List ℕ
tls_value None = []
tls_value (Some link) = codes "not secure"

abbrev pub size_value : Size → List ℕ
size_value size = decimal size.rows ++ (codes " " ++ decimal size.cols)

abbrev pub long_size_value : Size → List ℕ
long_size_value size = codes "rows " ++ (decimal size.rows ++ (codes " columns " ++ decimal size.cols))

abbrev pub item_value : Picture → Option Link → Named → Item → List ℕ
item_value v link device BindPluName = []
item_value v link device ConnectionState = state_value link
item_value v link device Cursor = cursor_value v
item_value v link device Cursor1 = cursor1_value v
item_value v link device Formatted = formatted_value (is_some (attribute_before v.cells v.cursor))
item_value v link device Host = host_value link
item_value v link device LocalEncoding = codes "UTF-8"
item_value v link device LuName = lu_value link
item_value v link device Model = device.name
item_value v link device ScreenCurSize = size_value v.size
item_value v link device ScreenMaxSize = size_value v.geometry.alternate
item_value v link device ScreenSizeCurrent = long_size_value v.size
item_value v link device ScreenSizeMax = long_size_value v.geometry.alternate
item_value v link device TerminalName = device.name
item_value v link device Tls = tls_value link
item_value v link device Version = device.version

-- ---- answers

-- an item with its name; behind the colon of an empty one there is no space
abbrev pub named_value : List ℕ → List ℕ → List ℕ
named_value name value = if length value == 0 then name ++ codes ":" else name ++ (codes ": " ++ value)

abbrev pub item_text : Picture → Option Link → Named → Item → List ℕ
item_text v link device item = named_value (item_name item) (item_value v link device item)

abbrev pub query_name : Query → List ℕ
query_name asked.Query = codes "Query"
query_name asked.Show = codes "Show"

abbrev pub item_said : Picture → Option Link → Named → Query → Option Item → Said
item_said v link device name None = failed (query_name name ++ codes ": Unknown parameter")
item_said v link device name (Some item) = done (item_value v link device item ∷ [])

abbrev pub said_of_query : Picture → Option Link → Named → Query → List (List ℕ) → Said
said_of_query v link device name [] = done (map (item_text v link device) listed_items)
said_of_query v link device name (word ∷ []) = item_said v link device name (item_named word)
said_of_query v link device name words = failed (query_name name ++ codes "() requires 0 or 1 arguments")
