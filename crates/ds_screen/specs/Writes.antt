-- Into which positions the orders of a record store characters or an attribute, each with the place of its order in the
-- record.
use Rattle.std.specs.Prelude.{ℕ, ◌-◌, min, max, ◌==◌, List, [], ◌∷◌, ◌++◌, length, Option, Some, None, if◌then◌else◌}
use Rattle.ds_codec.specs.declared.command.Command.{Command}
use Rattle.ds_codec.specs.declared.command.Command.TheVariants as commands
use Rattle.ds_codec.specs.Geometry.{Sizes, cells_of}
use Rattle.ds_codec.specs.Order.{Item, text, start_field, start_field_extended, modify_field, repeat_to_address, graphic_escape, Site}
use Rattle.ds_screen.specs.declared.refused.Why.{Why}
use Rattle.ds_screen.specs.declared.writes.Write.{Write}
use Rattle.ds_screen.specs.Ring.{ring_distance}
use Rattle.ds_screen.specs.Picture.{Picture}
use Rattle.ds_screen.specs.Orders.{Writing, effect_of, fault_of}
use Rattle.ds_screen.specs.Records.{begun, erased}

-- how many positions there are from b up to the stop, round a ring of n; all of them where the stop is b
abbrev pub repeated_count : ℕ → ℕ → ℕ → ℕ
repeated_count n b stop = if b == stop then n else ring_distance n b stop

-- Into how many positions an order stores, from the buffer address b on round a ring of n. The other orders store
-- nothing: Program Tab and Erase Unprotected to Address put nulls alone.
abbrev pub stored_count : ℕ → ℕ → Item → ℕ
stored_count n b (text run) = min (length run) n
stored_count n b (start_field attribute) = 1
stored_count n b (start_field_extended pairs) = 1
stored_count n b (modify_field pairs) = 1
stored_count n b (repeat_to_address stop character) = repeated_count n b stop
stored_count n b (graphic_escape code) = 1
stored_count n b order = 0

-- some positions in a row, if there are any
abbrev pub piece : ℕ → ℕ → ℕ → List Write
piece place count at = if count == 0 then [] else record { place = place; count = count; at = at } ∷ []

-- count positions from b on round a ring of n, parted at its end: what lies before the end, then what lies from 0 on
abbrev pub pieces : ℕ → ℕ → ℕ → ℕ → List Write
pieces n b count at = piece b (min count (n - b)) at ++ piece 0 (count - (n - b)) at

-- what an order writes into a buffer of n positions at this buffer address
abbrev pub writes_at : Site → ℕ → ℕ → List Write
writes_at site n address = pieces n address (stored_count n address site.order) site.at

-- nothing is written by an order at fault, nor by those after it
abbrev pub unless_at_fault : Option Why → List Write → List Write
unless_at_fault None writes = writes
unless_at_fault (Some why) writes = []

-- what the orders write in turn, up to the first that is at fault
unfoldable pub order_writes : List Site → Writing → List Write
order_writes [] w = []
order_writes (site ∷ sites) w =
    unless_at_fault (fault_of site.order w)
    (writes_at site (length w.cells) w.address ++ order_writes sites (effect_of site.order w))

abbrev pub written_on : ℕ → List Site → Picture → List Write
written_on wcc orders v = order_writes orders (begun wcc v.cells v.cursor)

-- what a record writes on a picture, from first to last; a position may come more than once
unfoldable pub record_writes : Picture → Command → List Site → List Write
record_writes v (commands.Write wcc) orders = written_on wcc orders v
record_writes v (commands.EraseWrite wcc) orders = written_on wcc orders (erased v.geometry.default v)
record_writes v (commands.EraseWriteAlternate wcc) orders = written_on wcc orders (erased v.geometry.alternate v)
record_writes v command orders = []

-- how many positions the larger size has
abbrev pub most_positions : Sizes → ℕ
most_positions geometry = max (cells_of geometry.default) (cells_of geometry.alternate)
