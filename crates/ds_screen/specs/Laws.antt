-- Laws on what records do, in the words of the data stream.
use Rattle.std.specs.Prelude.{◌≡◌, ℕ, ◌+◌, ◌%◌, ◌<◌, ◌⊎◌, ◌↔◌, true, false, List, [], ◌∷◌, ◌++◌, length, replicate, Ok, Err, Some}
use Rattle.ds_codec.specs.declared.cell.Cell.{Cell}
use Rattle.ds_codec.specs.declared.size.Mode.{Mode}
use Rattle.ds_codec.specs.declared.command.Command.{Command}
use Rattle.ds_codec.specs.declared.command.Command.TheVariants.{Write, EraseWrite, EraseWriteAlternate, EraseAllUnprotected}
use Rattle.ds_codec.specs.Attribute.{is_protected}
use Rattle.ds_codec.specs.Geometry.{cells_of}
use Rattle.ds_codec.specs.Order.{Item, set_buffer_address, modify_field, repeat_to_address, erase_unprotected_to_address, Site}
use Rattle.ds_codec.specs.Record.{Message, SpellsRecord}
use Rattle.ds_screen.specs.declared.refused.Refused.{Refused}
use Rattle.ds_screen.specs.Ring.{ring_distance}
use Rattle.ds_screen.specs.Picture.{Picture, IsSound, blank, cell_at}
use Rattle.ds_screen.specs.Fields.{is_attribute, is_character, bits_of, governs, is_open}
use Rattle.ds_screen.specs.Orders.{Writing, effect_of, fault_of}
use Rattle.ds_screen.specs.Records.{begun, acts, RecordShows}

-- a record leads from a picture to one picture
abbrev pub HasOneEffect : Type 0
HasOneEffect = (before after other : Picture) (message : Message) → RecordShows before message after → RecordShows before message other → after ≡ other

-- a record that some bytes spell leaves a sound picture sound
abbrev pub RecordsStaySound : Type 0
RecordsStaySound =
    (before after : Picture) (message : Message) (mode : Mode) (bytes : List ℕ) → IsSound before → SpellsRecord mode message bytes
    → RecordShows before message after → IsSound after

-- the address of an order is that of a position
abbrev pub HasAddressInside : ℕ → Item → Type 0
HasAddressInside n (set_buffer_address address) = address < n
HasAddressInside n (repeat_to_address address character) = address < n
HasAddressInside n (erase_unprotected_to_address address) = address < n
HasAddressInside n order = Unit {0}

abbrev pub HaveAddressesInside : ℕ → List Site → Type 0
HaveAddressesInside n [] = Unit {0}
HaveAddressesInside n (site ∷ sites) = HasAddressInside n site.order × HaveAddressesInside n sites

-- an order that changes an attribute finds one at the buffer address
abbrev pub StandsOnField : Item → Writing → Type 0
StandsOnField (modify_field pairs) w = is_attribute (cell_at w.cells w.address) ≡ true
StandsOnField order w = Unit {0}

-- each does, when its turn comes
abbrev pub StandOnFields : List Site → Writing → Type 0
StandOnFields [] w = Unit {0}
StandOnFields (site ∷ sites) w = StandsOnField site.order w × StandOnFields sites (effect_of site.order w)

abbrev pub CanBeDone : List Site → Writing → Type 0
CanBeDone orders w = HaveAddressesInside (length w.cells) orders × StandOnFields orders w

-- what a write's orders need, counted on the size that the write sets; reads and No-operation never act
abbrev pub CanBeApplied : Picture → Command → List Site → Type 0
CanBeApplied v (Write wcc) orders = CanBeDone orders (begun wcc v.cells v.cursor)
CanBeApplied v (EraseWrite wcc) orders = CanBeDone orders (begun wcc (replicate (cells_of v.geometry.default) blank) 0)
CanBeApplied v (EraseWriteAlternate wcc) orders = CanBeDone orders (begun wcc (replicate (cells_of v.geometry.alternate) blank) 0)
CanBeApplied v EraseAllUnprotected orders = Unit {0}
CanBeApplied v command orders = ⊥

-- a record has an effect exactly where its addresses are inside and the attributes that it changes are there
abbrev pub HasEffectExactly : Type 0
HasEffectExactly =
    (before : Picture) (message : Message) → CanBeApplied before message.command message.orders ↔ ((after : Picture) × RecordShows before message after)

-- the orders before the one at fault act, and it cannot
pub record StopsAt (orders : List Site) (start : Writing) (refused : Refused) : Type 0 where
  pub early : List Site
  pub site : Site
  pub late : List Site
  pub before : Writing
  pub parts : orders ≡ early ++ site ∷ late
  pub acted : acts early start ≡ Ok before
  pub fault : fault_of site.order before ≡ Some refused.why
  pub place : refused.at ≡ site.at

-- orders are refused exactly at the least one at fault
abbrev pub StopsAtLeast : Type 0
StopsAtLeast = (orders : List Site) (start : Writing) (refused : Refused) → (acts orders start ≡ Err refused) ↔ StopsAt orders start refused

-- q holds an attribute and p a character, and no attribute is nearer before p
pub record Governs (cells : List Cell) (q p : ℕ) : Type 0 where
  pub attribute : is_attribute (cell_at cells q) ≡ true
  pub character : is_character (cell_at cells p) ≡ true
  pub nearest : (r : ℕ) → r < length cells → is_attribute (cell_at cells r) ≡ true → ring_distance (length cells) r p < ring_distance (length cells) q p → ⊥

abbrev pub GovernsExactly : Type 0
GovernsExactly =
    (cells : List Cell) (q p : ℕ) → q < length cells → p < length cells → (governs cells q p ≡ true) ↔ Governs cells q p

abbrev pub HasNoAttribute : List Cell → Type 0
HasNoAttribute cells = (q : ℕ) → q < length cells → is_attribute (cell_at cells q) ≡ false

-- p holds a character, and either there is no attribute at all, or the one that governs p is unprotected
abbrev pub IsOpen : List Cell → ℕ → Type 0
IsOpen cells p =
    (is_character (cell_at cells p) ≡ true)
    × (HasNoAttribute cells ⊎ ((q : ℕ) × (q < length cells) × Governs cells q p × (is_protected (bits_of (cell_at cells q)) ≡ false)))

abbrev pub OpensExactly : Type 0
OpensExactly = (cells : List Cell) (p : ℕ) → p < length cells → (is_open cells p ≡ true) ↔ IsOpen cells p

-- the distance from q to p is the least number of steps on from q that lead to p
pub record IsLeastWay (n q p steps : ℕ) : Type 0 where
  pub leads : (q + steps) % n ≡ p
  pub least : (d : ℕ) → d < steps → (q + d) % n ≡ p → ⊥

abbrev pub DistanceIsLeast : Type 0
DistanceIsLeast = (n q p : ℕ) → q < n → p < n → IsLeastWay n q p (ring_distance n q p)
