-- Converting records to order lines and back.
use Rattle.std.specs.Prelude.{◌≡◌, ℕ, ◌≤◌, ◌⊎◌, List, [], ◌∷◌, ◌++◌, codes, length, Ok}
use Rattle.std.specs.List.{flat_map}
use Rattle.hex.specs.Hex.{IsBytes}
use Rattle.ds_codec.specs.declared.size.Mode.{Mode}
use Rattle.ds_codec.specs.declared.size.Size.{Size}
use Rattle.ds_codec.specs.Geometry.{Sizes, cells_of}
use Rattle.ds_codec.specs.Record.{Message}
use Rattle.ds_codec.specs.Reading.{read_of}
use Rattle.ds_codec.specs.Writing.{orders_in, IsReadAgain}
use Rattle.order_lines.specs.Laws.{AreInside}
use Rattle.cli_commands.specs.declared.status.Status.TheVariants.{Done}
use Rattle.cli_commands.specs.Lines.{lines_in}
use Rattle.cli_commands.specs.Printed.{printed}
use Rattle.cli_commands.specs.declared.input.sizes.SizeLine.TheVariants.{Allowed}
use Rattle.cli_commands.specs.Convert.{lines_printed}
use Rattle.cli_commands.specs.Drafts.{line_told, sizes}
use Rattle.cli_commands.specs.Sizes.{usual_sizes}
use Rattle.cli_commands.specs.Back.{size_after, bytes_line, printed_back}

-- the records consist of bytes
abbrev pub AreBytes : List (List ℕ) → Type 0
AreBytes [] = Unit {0}
AreBytes (bytes ∷ others) = IsBytes bytes × AreBytes others

-- both records are read, as the same command and the same orders
abbrev pub SayTheSame : Mode → List ℕ → List ℕ → Type 0
SayTheSame mode bytes other = (message : Message) × (read_of mode bytes ≡ Ok message) × IsReadAgain mode message.command (orders_in message) other

abbrev pub AreTheSame : Mode → List (List ℕ) → List (List ℕ) → Type 0
AreTheSame mode [] [] = Unit {0}
AreTheSame mode [] (other ∷ others) = ⊥
AreTheSame mode (bytes ∷ records) [] = ⊥
AreTheSame mode (bytes ∷ records) (other ∷ others) = SayTheSame mode bytes other × AreTheSame mode records others

-- Each address of each record is below the cells of the size that its own erase, or the last one before
-- it, sets; before the first erase, of this size.
abbrev pub AllInside : Sizes → Size → List (List ℕ) → Type 0
AllInside geometry size [] = Unit {0}
AllInside geometry size (bytes ∷ others) =
    (message : Message) → read_of geometry.mode bytes ≡ Ok message
    → AreInside (cells_of (size_after geometry size message.command)) message.orders × AllInside geometry (size_after geometry size message.command) others

-- a text tells the sizes: none, for the usual sizes, or one line
abbrev pub TellsSizes : List ℕ → Sizes → Type 0
TellsSizes told geometry =
    ((told ≡ []) × (geometry ≡ usual_sizes))
    ⊎ ((line : List ℕ) × (told ≡ line ++ codes "\n") × (lines_in told ≡ line ∷ []) × (line_told Allowed line ≡ sizes geometry))

-- The lines to which records are converted, after a line of sizes or none, are converted back to records
-- that are read as the same commands and orders: all records that can be read, whose addresses are below
-- the cells of the size for which they are written, up to the limits of an input.
abbrev pub ConvertsBack : Type 0
ConvertsBack =
    (told : List ℕ) (geometry : Sizes) (records : List (List ℕ)) (lines : List ℕ)
    → TellsSizes told geometry → AreBytes records → length records ≤ 1000 → lines_printed geometry.mode 0 records ≡ Ok lines
    → AllInside geometry geometry.default records → length (told ++ lines) ≤ 16777216
    → (others : List (List ℕ)) × (printed_back (told ++ lines) ≡ printed (flat_map bytes_line others) Done) × AreTheSame geometry.mode records others
