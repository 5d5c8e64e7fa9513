-- Several screens in turn, with no keys between them: each on the worst that an operator can have left of the one before.
use Rattle.std.specs.Prelude.{ℕ, ◌+◌, Bool, true, false, List, [], ◌∷◌, map, Option, Some, None, option_map, Result, Ok, Err, if◌then◌else◌}
use Rattle.ds_codec.specs.declared.refused.Refused as read
use Rattle.ds_codec.specs.declared.command.Command.{Command}
use Rattle.ds_codec.specs.declared.command.Command.TheVariants.{Write}
use Rattle.ds_codec.specs.Order.{Item, set_buffer_address, set_attribute, Site}
use Rattle.ds_codec.specs.Record.{Message}
use Rattle.ds_codec.specs.Reading.{◌>>=◌, read_of}
use Rattle.ds_terminal.specs.declared.refused.Refused.TheVariants.{Read}
use Rattle.ds_screen.specs.Picture.{Picture}
use Rattle.ds_screen.specs.Records.{shown_of}
use Rattle.ds_screen.specs.Worst.{worst_of}
use Rattle.scr_layout.specs.Layout.{Declaration}
use Rattle.scr_check.specs.declared.finding.Finding.{Finding}
use Rattle.scr_check.specs.declared.finding.Finding.TheVariants.{RecordRefused, NoRecord, NotAWrite, Undeclared, UndeclaredFixed, TooLong, CursorDependent}
use Rattle.scr_check.specs.Opening.{writes, applied, unless_found, ready, opening_of}
use Rattle.scr_check.specs.Findings.{no_keys, findings_of, answer_of}

-- a turn: the records of the host, and the layout of the screen to which they lead
pub record Round : Type 0 where
  pub records : List (List ℕ)
  pub layout : Declaration

-- ---- the records of a later turn

-- Set Attribute writes nothing, so the order after it decides; Set Buffer Address says where to begin
abbrev pub starts_at_cursor : Item → Bool → Bool
starts_at_cursor (set_attribute kind value) others = others
starts_at_cursor (set_buffer_address address) others = false
starts_at_cursor order others = true

-- the first order that isn't Set Attribute acts where the cursor stands
abbrev pub start_at_cursor : List Site → Bool
start_at_cursor [] = false
start_at_cursor (site ∷ sites) = starts_at_cursor site.order (start_at_cursor sites)

-- a Write begins where the operator left the cursor, unless its orders say where
abbrev pub depends_on_cursor : Command → List Site → Bool
depends_on_cursor (Write wcc) orders = start_at_cursor orders
depends_on_cursor command orders = false

-- each record writes, and none depends on the cursor
abbrev pub later_fault : ℕ → Command → List Site → Option Finding
later_fault index command orders =
    if writes command then (if depends_on_cursor command orders then Some (CursorDependent index) else None) else Some (NotAWrite index)

-- the picture that the record of this number leaves, or what stands against it: that it can't be read, its command, that
-- it depends on the cursor, that it can't be applied
abbrev pub taken_later : ℕ → Picture → Result Message read.Refused → Result Picture Finding
taken_later index v (Err refused) = Err (RecordRefused index (Read refused))
taken_later index v (Ok message) =
    unless_found (later_fault index message.command message.orders) (applied index (shown_of v message.command message.orders))

-- the records in turn, up to the first against which something stands
abbrev pub later_from : ℕ → Picture → List (List ℕ) → Result Picture Finding
later_from index v [] = Ok v
later_from index v (bytes ∷ others) = taken_later index v (read_of v.geometry.mode bytes) >>= λ next. later_from (index + 1) next others

-- the picture that the records of a later turn leave of the worst of the picture before, or the one finding that comes
-- first
abbrev pub opened_later : Picture → Declaration → List (List ℕ) → Result Picture Finding
opened_later before layout [] = Err NoRecord
opened_later before layout (bytes ∷ others) = later_from 0 (worst_of before) (bytes ∷ others) >>= ready layout.size

abbrev pub later_opening : Picture → Round → Result Picture Finding
later_opening before round = opened_later before round.layout round.records

-- ---- findings

-- The keys of a finding count from a new terminal. Later they would begin where the operator left the cursor, so none are
-- told: 0 and 0.
abbrev pub without_keys : Finding → Finding
without_keys (Undeclared place demo) = Undeclared place no_keys
without_keys (UndeclaredFixed place demo) = UndeclaredFixed place no_keys
without_keys (TooLong found) = TooLong (record found { demo = option_map (λ demo. no_keys) found.demo })
without_keys finding = finding

-- all that is told of a later turn
abbrev pub later_told : Declaration → Result Picture Finding → List Finding
later_told layout (Err finding) = finding ∷ []
later_told layout (Ok v) = map without_keys (findings_of layout v)

-- ---- the walk

-- the first turn with findings, and these
pub record Stop : Type 0 where
  pub turn : ℕ
  pub findings : List Finding

abbrev pub stops_or : ℕ → List Finding → Option Stop → Option Stop
stops_or turn [] others = others
stops_or turn (finding ∷ findings) others = Some (record { turn = turn; findings = finding ∷ findings })

-- the walk goes on from the picture that the records left
abbrev pub goes_on : (Picture → Option Stop) → Result Picture Finding → Option Stop
goes_on others (Ok v) = others v
goes_on others (Err finding) = None

-- from this turn on, after a picture
unfoldable pub walk_from : ℕ → Picture → List Round → Option Stop
walk_from turn before [] = None
walk_from turn before (round ∷ rounds) =
    stops_or turn (later_told round.layout (later_opening before round)) (goes_on (λ v. walk_from (turn + 1) v rounds) (later_opening before round))

-- the first turn is on a new terminal, as for `check`
unfoldable pub walk_of : List Round → Option Stop
walk_of [] = None
walk_of (round ∷ rounds) =
    stops_or 0 (answer_of round.layout round.records) (goes_on (λ v. walk_from 1 v rounds) (opening_of round.layout round.records))
