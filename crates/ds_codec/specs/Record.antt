-- The outbound grammar: which command and orders a record's bytes spell, and the leftmost fault of a record.
use Rattle.std.specs.Prelude.{◌≡◌, ℕ, ◌+◌, Bool, true, false, ◌&&◌, List, [], ◌∷◌, ◌++◌, length, take, drop, Option, Some, None}
use Rattle.ds_codec.specs.declared.size.Mode.{Mode}
use Rattle.ds_codec.specs.declared.command.Command.{Command}
use Rattle.ds_codec.specs.declared.command.CommandCode.{CommandCode}
use Rattle.ds_codec.specs.declared.command.CommandCode.TheVariants.{Write, EraseWrite, EraseWriteAlternate, WriteStructuredField}
use Rattle.ds_codec.specs.declared.refused.Why.{Why}
use Rattle.ds_codec.specs.declared.refused.Why.TheVariants.{Empty, UnknownCommand, StructuredField, NoWcc, Trailing}
use Rattle.ds_codec.specs.Command.{is_code_of, command_code_of, wcc_of}
use Rattle.ds_codec.specs.Order.{Item, text, start_field_extended, modify_field, Site, SpellsOrder, HasFault}

-- what a record says: a command, and orders at their places
pub record Message : Type 0 where
  pub command : Command
  pub orders : List Site

abbrev pub is_text_order : Item → Bool
is_text_order (text run) = true
is_text_order order = false

-- no text follows text, so each run is as long as it can be
abbrev pub MayFollow : Item → List Site → Type 0
MayFollow order [] = Unit {0}
MayFollow order (next ∷ others) = (is_text_order order && is_text_order next.order) ≡ false

-- the bytes are the spellings of the orders, put one after the other, the first of them at this place
abbrev pub AreSpelled : Mode → ℕ → List Site → List ℕ → Type 0
AreSpelled mode at [] bytes = bytes ≡ []
AreSpelled mode at (site ∷ sites) bytes =
    (part : List ℕ) × (rest : List ℕ) × (bytes ≡ part ++ rest) × (site.at ≡ at) × SpellsOrder mode site.order part
    × MayFollow site.order sites × AreSpelled mode (at + length part) sites rest

-- in some mode some bytes spell the orders, the first of them at place 2, as a record's
abbrev pub HaveSpelling : List Site → Type 0
HaveSpelling sites = (mode : Mode) × (bytes : List ℕ) × AreSpelled mode 2 sites bytes

-- a text is the bytes of the record from its order's place on, and pairs are those after that byte and their count
abbrev pub LiesAt : List ℕ → ℕ → Item → Type 0
LiesAt bytes at (text run) = take (length run) (drop at bytes) ≡ run
LiesAt bytes at (start_field_extended pairs) = take (length pairs) (drop (at + 2) bytes) ≡ pairs
LiesAt bytes at (modify_field pairs) = take (length pairs) (drop (at + 2) bytes) ≡ pairs
LiesAt bytes at order = Unit {0}

abbrev pub AreLaidOut : List ℕ → List Site → Type 0
AreLaidOut bytes [] = Unit {0}
AreLaidOut bytes (site ∷ sites) = LiesAt bytes site.at site.order × AreLaidOut bytes sites

-- a write control character and orders for a write, nothing for another command (that nothing may follow is our own rule)
abbrev pub SpellsRest : Mode → Option ℕ → List Site → List ℕ → Type 0
SpellsRest mode None orders rest = (orders ≡ []) × (rest ≡ [])
SpellsRest mode (Some wcc) orders rest = (more : List ℕ) × (rest ≡ wcc ∷ more) × AreSpelled mode 2 orders more

-- the bytes spell the record
abbrev pub SpellsRecord : Mode → Message → List ℕ → Type 0
SpellsRecord mode message bytes =
    (code : ℕ) × (rest : List ℕ) × (bytes ≡ code ∷ rest) × (is_code_of code (command_code_of message.command) ≡ true)
    × SpellsRest mode (wcc_of message.command) message.orders rest

-- the commands that carry a write control character and orders
abbrev pub is_write : CommandCode → Bool
is_write Write = true
is_write EraseWrite = true
is_write EraseWriteAlternate = true
is_write code = false

-- the commands that stand alone
abbrev pub is_alone : CommandCode → Bool
is_alone Write = false
is_alone EraseWrite = false
is_alone EraseWriteAlternate = false
is_alone WriteStructuredField = false
is_alone code = true

-- the byte is a code of some command that passes the test
abbrev pub IsCode : (CommandCode → Bool) → ℕ → Type 0
IsCode test byte = (code : CommandCode) × (test code ≡ true) × (is_code_of byte code ≡ true)

-- a write, whole orders, and then the fault
abbrev pub FaultsAt : Mode → Why → List ℕ → ℕ → Type 0
FaultsAt mode why bytes at =
    (code : ℕ) × (wcc : ℕ) × (early : List Site) × (part : List ℕ) × (rest : List ℕ) × (bytes ≡ code ∷ wcc ∷ (part ++ rest))
    × IsCode is_write code × AreSpelled mode 2 early part × (at ≡ 2 + length part) × HasFault mode why rest

-- what stands before this place is good, and here is this fault
abbrev pub IsRefusedAt : Mode → List ℕ → ℕ → Why → Type 0
IsRefusedAt mode bytes at Empty = (at ≡ 0) × (bytes ≡ [])
IsRefusedAt mode bytes at UnknownCommand =
    (at ≡ 0) × (byte : ℕ) × (rest : List ℕ) × (bytes ≡ byte ∷ rest) × ((code : CommandCode) → is_code_of byte code ≡ false)
IsRefusedAt mode bytes at StructuredField =
    (at ≡ 0) × (byte : ℕ) × (rest : List ℕ) × (bytes ≡ byte ∷ rest) × (is_code_of byte WriteStructuredField ≡ true)
IsRefusedAt mode bytes at NoWcc = (at ≡ 1) × (byte : ℕ) × (bytes ≡ byte ∷ []) × IsCode is_write byte
IsRefusedAt mode bytes at Trailing =
    (at ≡ 1) × (byte : ℕ) × (next : ℕ) × (rest : List ℕ) × (bytes ≡ byte ∷ next ∷ rest) × IsCode is_alone byte
IsRefusedAt mode bytes at why = FaultsAt mode why bytes at

-- no bytes spell two records
abbrev pub HasOneReading : Type 0
HasOneReading =
    (mode : Mode) (bytes : List ℕ) (message other : Message) → SpellsRecord mode message bytes → SpellsRecord mode other bytes
    → message ≡ other
