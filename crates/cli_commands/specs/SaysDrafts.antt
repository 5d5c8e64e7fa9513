-- What order lines tell, beside the taking of them in turn: which lines are ignored, and which make each record.
use Rattle.std.specs.Prelude.{◌≡◌, ◌⊎◌, ℕ, ◌≤◌, Bool, true, false, not, ◌&&◌, ◌==◌, List, [], ◌∷◌, ◌++◌, length, Some, None, Ok}
use Rattle.std.specs.List.{filter}
use Rattle.std.specs.Str.{is_utf8}
use Rattle.ds_codec.specs.Geometry.{Sizes}
use Rattle.ds_codec.specs.Order.{Item}
use Rattle.order_lines.specs.Draft.{Draft}
use Rattle.order_lines.specs.Says.{Says}
use Rattle.order_lines.specs.Told.{Told, command, order}
use Rattle.cli_commands.specs.declared.input.sizes.SizeLine.{SizeLine}
use Rattle.cli_commands.specs.Drafts.{drafts_in_lines}
use Rattle.cli_commands.specs.Sizes.{usual_sizes, geometry_told}

-- ---- one record

-- the line is text, and says this
abbrev pub LineSays : List ℕ → Told → Type 0
LineSays line told = (is_utf8 line ≡ true) × Says line told

-- each line says the order at its place
abbrev pub SayOrders : List (List ℕ) → List Item → Type 0
SayOrders [] [] = Unit {0}
SayOrders [] (item ∷ items) = ⊥
SayOrders (line ∷ lines) [] = ⊥
SayOrders (line ∷ lines) (item ∷ items) = LineSays line (order item) × SayOrders lines items

-- the first line says the command, and each other one the order at its place
abbrev pub SayRecord : List (List ℕ) → Draft → Type 0
SayRecord [] draft = ⊥
SayRecord (line ∷ lines) draft = LineSays line (command draft.command) × SayOrders lines draft.orders

-- ---- all records

abbrev pub AreEmpty : List (List ℕ) → Type 0
AreEmpty [] = Unit {0}
AreEmpty (line ∷ lines) = (line ≡ []) × AreEmpty lines

-- the end of the input, or an empty line
abbrev pub EndsRecord : List (List ℕ) → Type 0
EndsRecord [] = Unit {0}
EndsRecord (line ∷ lines) = line ≡ []

-- any empty lines, the lines of the first record, the empty line or the end that ends it, and so on
abbrev pub SayRecords : List (List ℕ) → List Draft → Type 0
SayRecords lines [] = AreEmpty lines
SayRecords lines (draft ∷ drafts) =
    (gap : List (List ℕ)) × (block : List (List ℕ)) × (rest : List (List ℕ)) × (lines ≡ gap ++ (block ++ rest))
    × AreEmpty gap × SayRecord block draft × EndsRecord rest × SayRecords rest drafts

-- after any empty lines one line tells the sizes, and those after it say the records; or all say records, and the sizes
-- are the usual
abbrev pub SizesAndDrafts : List (List ℕ) → Sizes → List Draft → Type 0
SizesAndDrafts lines geometry drafts =
    ((gap : List (List ℕ)) × (line : List ℕ) × (others : List (List ℕ)) × (lines ≡ gap ++ line ∷ others)
    × AreEmpty gap × (is_utf8 line ≡ true) × (geometry_told line ≡ Some geometry) × SayRecords others drafts)
    ⊎ ((geometry ≡ usual_sizes) × SayRecords lines drafts)

abbrev pub begins_with_number_sign : List ℕ → Bool
begins_with_number_sign [] = false
begins_with_number_sign (b ∷ bs) = b == 0x23

abbrev pub is_comment : List ℕ → Bool
is_comment line = begins_with_number_sign line && is_utf8 line

-- the lines that are no comments
abbrev pub uncommented : List (List ℕ) → List (List ℕ)
uncommented lines = filter (λ line. not (is_comment line)) lines

-- Of the lines that are no comments one may tell the sizes, and the others say the records: at most 1,000.
pub record TellDrafts (lines : List (List ℕ)) (geometry : Sizes) (drafts : List Draft) : Type 0 where
  pub lines_tell : SizesAndDrafts (uncommented lines) geometry drafts
  pub few : length drafts ≤ 1000

-- ---- the law

-- the sizes and the records alone
abbrev pub AreTold : List (List ℕ) → Sizes → List Draft → Type 0
AreTold lines geometry drafts =
    (later : SizeLine) × (drafts_in_lines lines ≡ Ok (record { size_line = later; geometry = geometry; ended = drafts; current = None }))

-- lines tell sizes and records exactly where they say them
abbrev pub DraftsAreTold : Type 0
DraftsAreTold =
    (lines : List (List ℕ)) (geometry : Sizes) (drafts : List Draft)
    → (AreTold lines geometry drafts → TellDrafts lines geometry drafts) × (TellDrafts lines geometry drafts → AreTold lines geometry drafts)
