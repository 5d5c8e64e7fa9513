-- Records as lines tell them, and what is written for them.
use Rattle.std.specs.Prelude.{◌≡◌, ℕ, ◌+◌, zero, suc, Bool, false, List, [], ◌∷◌, ◌++◌, length, Option, Some, None, is_none, Result, Ok, Err, if◌then◌else◌}
use Rattle.ds_codec.specs.declared.size.Mode.{Mode}
use Rattle.ds_codec.specs.declared.command.Command.{Command}
use Rattle.ds_codec.specs.declared.write.Unwritable.{Unwritable}
use Rattle.ds_codec.specs.declared.write.Unwritable.TheVariants.{NotAllowed}
use Rattle.ds_codec.specs.Command.{wcc_of}
use Rattle.ds_codec.specs.Order.{Item}
use Rattle.ds_codec.specs.Reading.{◌>>=◌}
use Rattle.ds_codec.specs.Record.{is_text_order}
use Rattle.ds_codec.specs.Writing.{flaw_of, flaw_at, are_not_allowed, written_order, written_record}

-- a command and its orders
pub record Draft : Type 0 where
  pub command : Command
  pub orders : List Item

abbrev pub flaw_or : Option Unwritable → Option Unwritable → Option Unwritable
flaw_or (Some flaw) later = Some flaw
flaw_or None later = later

-- the flaw of the least of the first n orders that has one
abbrev pub first_flaw : ℕ → List Item → ℕ → Option Unwritable
first_flaw cells orders zero = None
first_flaw cells orders (suc n) = flaw_or (first_flaw cells orders n) (flaw_at cells orders n)

-- why a record cannot be written for a buffer of so many cells, the command's reason first
abbrev pub unwritable_of : ℕ → Draft → Option Unwritable
unwritable_of cells draft =
    if are_not_allowed draft.command draft.orders then Some NotAllowed else first_flaw cells draft.orders (length draft.orders)

abbrev pub bytes_or : Option Unwritable → List ℕ → Result (List ℕ) Unwritable
bytes_or None bytes = Ok bytes
bytes_or (Some flaw) bytes = Err flaw

-- the bytes of the record, or why there are none
abbrev pub written_of : Mode → ℕ → Draft → Result (List ℕ) Unwritable
written_of mode cells draft = bytes_or (unwritable_of cells draft) (written_record mode cells draft.command draft.orders)

-- ---- order by order

-- what is written of so many orders, and whether the last of them is text
pub record Part : Type 0 where
  pub bytes : List ℕ
  pub count : ℕ
  pub after_text : Bool

abbrev pub part_unless : Option Unwritable → Part → Result Part Unwritable
part_unless None part = Ok part
part_unless (Some flaw) part = Err flaw

-- a record to which orders may come yet: what is written of it for a buffer of so many cells, or its first flaw
pub record Partial : Type 0 where
  pub command : Command
  pub mode : Mode
  pub cells : ℕ
  pub part : Result Part Unwritable

-- no order came so far
abbrev pub begun : Mode → ℕ → Command → Partial
begun mode cells command =
    record { command = command; mode = mode; cells = cells; part = Ok (record { bytes = written_record mode cells command []; count = 0; after_text = false }) }

abbrev pub with_part : Mode → ℕ → Command → Item → Part → Result Part Unwritable
with_part mode cells command it part =
    if is_none (wcc_of command) then Err NotAllowed
    else part_unless (flaw_of cells part.after_text it part.count)
    (record { bytes = part.bytes ++ written_order mode cells it; count = part.count + 1; after_text = is_text_order it })

-- one more order came
abbrev pub with_order : Partial → Item → Partial
with_order partial it = record partial { part = partial.part >>= with_part partial.mode partial.cells partial.command it }

-- the bytes, once all orders came
abbrev pub bytes_in : Partial → Result (List ℕ) Unwritable
bytes_in partial = partial.part >>= λ part. Ok part.bytes

-- orders that come in turn
abbrev pub with_orders : Partial → List Item → Partial
with_orders partial [] = partial
with_orders partial (it ∷ orders) = with_orders (with_order partial it) orders

-- what is written of orders that come in turn is what is written of the whole record
abbrev pub OrdersAreWrittenInTurn : Type 0
OrdersAreWrittenInTurn =
    (mode : Mode) (cells : ℕ) (command : Command) (orders : List Item)
    → bytes_in (with_orders (begun mode cells command) orders) ≡ written_of mode cells (record { command = command; orders = orders })
