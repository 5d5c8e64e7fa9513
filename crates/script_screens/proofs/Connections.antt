-- What is said of a connection has no line's end where no name has one.
use Rattle.std.proofs.Common.{◌≡◌, ◌+◌, ◌/◌, ◌%◌, ℕ, Bool, true, length, List, [], ◌∷◌, ◌++◌, codes, Option, Some, None, refl}
use Rattle.std.specs.Prelude.{◌==◌, ◌&&◌, is_some}
use Rattle.std.specs.Fmt.{decimal}
use Rattle.ds_codec.specs.declared.size.Size.{Size}
use Rattle.ds_codec.specs.Attribute.{is_protected}
use Rattle.ds_screen.specs.declared.lock.Lock.{Lock}
use Rattle.ds_screen.specs.Picture.{Picture}
use Rattle.ds_screen.specs.Fields.{attribute_before, ruling_bits}
use Rattle.script_screens.specs.declared.connection.Protocol.{Protocol}
use Rattle.script_screens.specs.declared.connection.Protocol.TheVariants.{Tn3270, Tn3270e}
use Rattle.script_screens.specs.declared.snap.Kept.TheVariants.{Status, Rows, Columns, Reading}
use Rattle.script_screens.specs.declared.item.Item.{Item}
use Rattle.script_screens.specs.declared.item.Item.TheVariants as items
use Rattle.script_screens.specs.declared.query.Query.{Query}
use Rattle.script_screens.specs.declared.query.Query.TheVariants as asked
use Rattle.script_screens.specs.Status.{Link, is_free, keyboard_word, screen_word, field_word, connection_word, mode_word, spaced, state_words, number_words, status_words}
use Rattle.script_screens.specs.Query.{Named, item_name, cursor_value, cursor1_value, protocol_value, state_value, host_value, lu_value, tls_value, size_value, long_size_value, item_value, named_value, item_text, query_name, item_said, item_named, listed_items}
use Rattle.script_screens.specs.Laws.{is_whole, are_whole, LinkIsWhole, KeptAreLines, QueriesAreLines}
use Rattle.script_screens.proofs.Whole.{and_true, either_way, join, five, all, decimal_whole}
use Rattle.script_screens.proofs.Sayings.{readings_are_lines}

abbrev Whole : List ℕ → Type 0
Whole text = is_whole text ≡ true

-- ---- the status

spaced_whole : (word : List ℕ) → Whole word → Whole (spaced word)
spaced_whole word whole = join word (codes " ") whole refl

spaced_number : (n : ℕ) → Whole (spaced (decimal n))
spaced_number n = spaced_whole (decimal n) (decimal_whole n)

connection_whole : (link : Option Link) → LinkIsWhole link → Whole (connection_word link)
connection_whole None whole = refl
connection_whole (Some link) whole = join (codes "C(") (link.host ++ codes ")") refl (join link.host (codes ")") whole.0 refl)

mode_whole : (link : Option Link) → Whole (mode_word link)
mode_whole None = refl
mode_whole (Some link) = refl

keyboard_whole : (connected : Bool) (lock : Lock) → Whole (keyboard_word connected lock)
keyboard_whole connected lock = either_way Whole (connected && is_free lock) (codes "U") (codes "L") refl refl

screen_whole : (formatted : Bool) → Whole (screen_word formatted)
screen_whole formatted = either_way Whole formatted (codes "F") (codes "U") refl refl

field_whole : (protected : Bool) → Whole (field_word protected)
field_whole protected = either_way Whole protected (codes "P") (codes "U") refl refl

state_whole : (v : Picture) (link : Option Link) → LinkIsWhole link → Whole (state_words v link)
state_whole v link whole =
    let formatted : Bool = is_some (attribute_before v.cells v.cursor) in
    let protected : Bool = is_protected (ruling_bits v.cells v.cursor) in
    five (spaced (keyboard_word (is_some link) v.lock)) (spaced (screen_word formatted)) (spaced (field_word protected)) (spaced (connection_word link)) (spaced (mode_word link))
    (spaced_whole (keyboard_word (is_some link) v.lock) (keyboard_whole (is_some link) v.lock)) (spaced_whole (screen_word formatted) (screen_whole formatted))
    (spaced_whole (field_word protected) (field_whole protected)) (spaced_whole (connection_word link) (connection_whole link whole))
    (spaced_whole (mode_word link) (mode_whole link))

number_whole : (v : Picture) (model : ℕ) → Whole (number_words v model)
number_whole v model =
    five (spaced (decimal model)) (spaced (decimal v.size.rows)) (spaced (decimal v.size.cols)) (spaced (decimal (v.cursor / v.size.cols)))
    (spaced (decimal (v.cursor % v.size.cols))) (spaced_number model) (spaced_number v.size.rows) (spaced_number v.size.cols)
    (spaced_number (v.cursor / v.size.cols)) (spaced_number (v.cursor % v.size.cols))

status_whole : (v : Picture) (link : Option Link) (model : ℕ) → LinkIsWhole link → Whole (status_words v link model)
status_whole v link model whole =
    join (state_words v link) (number_words v model ++ codes "0x0") (state_whole v link whole) (join (number_words v model) (codes "0x0") (number_whole v model) refl)

pub kept_are_lines : KeptAreLines
kept_are_lines page v link model Status arguments whole = and_true _ _ (status_whole v link model whole) refl
kept_are_lines page v link model Rows arguments whole = and_true _ _ (decimal_whole v.size.rows) refl
kept_are_lines page v link model Columns arguments whole = and_true _ _ (decimal_whole v.size.cols) refl
kept_are_lines page v link model (Reading reading) arguments whole = readings_are_lines page v reading arguments

-- ---- Query

worded : (word : List ℕ) (n : ℕ) → Whole word → Whole (word ++ decimal n)
worded word n whole = join word (decimal n) whole (decimal_whole n)

size_whole : (size : Size) → Whole (size_value size)
size_whole size = join (decimal size.rows) (codes " " ++ decimal size.cols) (decimal_whole size.rows) (worded (codes " ") size.cols refl)

long_size_whole : (size : Size) → Whole (long_size_value size)
long_size_whole size =
    join (codes "rows ") (decimal size.rows ++ (codes " columns " ++ decimal size.cols)) refl
    (join (decimal size.rows) (codes " columns " ++ decimal size.cols) (decimal_whole size.rows) (worded (codes " columns ") size.cols refl))

cursor_whole : (v : Picture) → Whole (cursor_value v)
cursor_whole v =
    join (decimal (v.cursor / v.size.cols)) (codes " " ++ decimal (v.cursor % v.size.cols)) (decimal_whole (v.cursor / v.size.cols))
    (worded (codes " ") (v.cursor % v.size.cols) refl)

cursor1_whole : (v : Picture) → Whole (cursor1_value v)
cursor1_whole v =
    five (codes "row ") (decimal (v.cursor / v.size.cols + 1)) (codes " column ") (decimal (v.cursor % v.size.cols + 1)) (codes " offset " ++ decimal v.cursor)
    refl (decimal_whole (v.cursor / v.size.cols + 1)) refl (decimal_whole (v.cursor % v.size.cols + 1)) (worded (codes " offset ") v.cursor refl)

protocol_whole : (protocol : Protocol) → Whole (protocol_value protocol)
protocol_whole Tn3270 = refl
protocol_whole Tn3270e = refl

link_state_whole : (link : Option Link) → Whole (state_value link)
link_state_whole None = refl
link_state_whole (Some link) = protocol_whole link.protocol

host_whole : (link : Option Link) → LinkIsWhole link → Whole (host_value link)
host_whole None whole = refl
host_whole (Some link) whole =
    join (codes "host ") (link.host ++ (codes " " ++ decimal link.port)) refl (join link.host (codes " " ++ decimal link.port) whole.0 (worded (codes " ") link.port refl))

lu_whole : (link : Option Link) → LinkIsWhole link → Whole (lu_value link)
lu_whole None whole = refl
lu_whole (Some link) whole = whole.1

tls_whole : (link : Option Link) → Whole (tls_value link)
tls_whole None = refl
tls_whole (Some link) = refl

value_whole : (v : Picture) (link : Option Link) (device : Named) (item : Item) → LinkIsWhole link → Whole device.name → Whole device.version
    → Whole (item_value v link device item)
value_whole v link device items.BindPluName whole name version = refl
value_whole v link device items.ConnectionState whole name version = link_state_whole link
value_whole v link device items.Cursor whole name version = cursor_whole v
value_whole v link device items.Cursor1 whole name version = cursor1_whole v
value_whole v link device items.Formatted whole name version =
    either_way Whole (is_some (attribute_before v.cells v.cursor)) (codes "formatted") (codes "unformatted") refl refl
value_whole v link device items.Host whole name version = host_whole link whole
value_whole v link device items.LocalEncoding whole name version = refl
value_whole v link device items.LuName whole name version = lu_whole link whole
value_whole v link device items.Model whole name version = name
value_whole v link device items.ScreenCurSize whole name version = size_whole v.size
value_whole v link device items.ScreenMaxSize whole name version = size_whole v.geometry.alternate
value_whole v link device items.ScreenSizeCurrent whole name version = long_size_whole v.size
value_whole v link device items.ScreenSizeMax whole name version = long_size_whole v.geometry.alternate
value_whole v link device items.TerminalName whole name version = name
value_whole v link device items.Tls whole name version = tls_whole link
value_whole v link device items.Version whole name version = version

item_name_whole : (item : Item) → Whole (item_name item)
item_name_whole items.BindPluName = refl
item_name_whole items.ConnectionState = refl
item_name_whole items.Cursor = refl
item_name_whole items.Cursor1 = refl
item_name_whole items.Formatted = refl
item_name_whole items.Host = refl
item_name_whole items.LocalEncoding = refl
item_name_whole items.LuName = refl
item_name_whole items.Model = refl
item_name_whole items.ScreenCurSize = refl
item_name_whole items.ScreenMaxSize = refl
item_name_whole items.ScreenSizeCurrent = refl
item_name_whole items.ScreenSizeMax = refl
item_name_whole items.TerminalName = refl
item_name_whole items.Tls = refl
item_name_whole items.Version = refl

named_whole : (name value : List ℕ) → Whole name → Whole value → Whole (named_value name value)
named_whole name value first second =
    either_way Whole (length value == 0) (name ++ codes ":") (name ++ (codes ": " ++ value)) (join name (codes ":") first refl)
    (join name (codes ": " ++ value) first (join (codes ": ") value refl second))

query_name_whole : (query : Query) → Whole (query_name query)
query_name_whole asked.Query = refl
query_name_whole asked.Show = refl

item_said_whole : (v : Picture) (link : Option Link) (device : Named) (query : Query) (item : Option Item) → LinkIsWhole link → Whole device.name
    → Whole device.version → are_whole (item_said v link device query item).texts ≡ true
item_said_whole v link device q None whole name version = and_true _ _ (join (query_name q) (codes ": Unknown parameter") (query_name_whole q) refl) refl
item_said_whole v link device q (Some item) whole name version = and_true _ _ (value_whole v link device item whole name version) refl

pub queries_are_lines : QueriesAreLines
queries_are_lines v link device q [] whole name version =
    all (item_text v link device) listed_items
    (λ item. named_whole (item_name item) (item_value v link device item) (item_name_whole item) (value_whole v link device item whole name version))
queries_are_lines v link device q (word ∷ []) whole name version = item_said_whole v link device q (item_named word) whole name version
queries_are_lines v link device q (word ∷ second ∷ words) whole name version =
    and_true _ _ (join (query_name q) (codes "() requires 0 or 1 arguments") (query_name_whole q) refl) refl
