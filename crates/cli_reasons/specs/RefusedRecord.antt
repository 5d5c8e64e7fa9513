-- The sentence of a record that is refused, or cannot be written.
use Rattle.std.specs.Prelude.{ℕ, ◌+◌, ◌-◌, ◌^◌, min, false, List, ◌++◌, codes, Option, None}
use Rattle.std.specs.Option.{option_map}
use Rattle.ds_codec.specs.declared.refused.Why.{Why}
use Rattle.ds_codec.specs.declared.refused.Why.TheVariants.{Empty, UnknownCommand, StructuredField, NoWcc, UnknownOrder, Truncated, ReservedAddress, BadType, BadCharacter, Trailing}
use Rattle.ds_codec.specs.declared.write.Unwritable.{Unwritable as Flaw}
use Rattle.ds_codec.specs.declared.write.Unwritable.TheVariants as flaws
use Rattle.ds_screen.specs.declared.refused.Why as screen
use Rattle.ds_screen.specs.declared.refused.Why.TheVariants.{AddressOutside, NoFieldHere, NotAWrite}
use Rattle.ds_terminal.specs.declared.refused.Refused.{Refused}
use Rattle.ds_terminal.specs.declared.refused.Refused.TheVariants.{Read, Apply}
use Rattle.ds_terminal.specs.Refused.{refused_at}
use Rattle.cli_commands.specs.declared.fault.Fault.{Fault}
use Rattle.cli_commands.specs.declared.fault.Fault.TheVariants.{RecordRefused, Unwritable}
use Rattle.cli_commands.specs.Lines.{lines_in}
use Rattle.cli_reasons.specs.Head.{column_head, line_head}
use Rattle.cli_reasons.specs.Refusal.{byte_column, order_from, record_from}

-- ---- in words

abbrev pub read_reason : Why → List ℕ
read_reason Empty = codes "the record has no byte"
read_reason UnknownCommand = codes "a record begins with a command, as F5, and this byte is none"
read_reason StructuredField = codes "Write Structured Field is not taken"
read_reason NoWcc = codes "the write control character after the command is missing"
read_reason UnknownOrder = codes "this byte begins no order and is no character"
read_reason Truncated = codes "the record ends inside an order"
read_reason ReservedAddress = codes "an address does not begin with the bits 10"
read_reason BadType = codes "this attribute type is not known"
read_reason BadCharacter = codes "no character has this code"
read_reason Trailing = codes "nothing follows this command"

abbrev pub apply_reason : screen.Why → List ℕ
apply_reason AddressOutside = codes "the order's address is outside the screen"
apply_reason NoFieldHere = codes "Modify Field stands where no attribute is"
apply_reason NotAWrite = codes "a read command or no operation writes no screen"

abbrev pub refused_reason : Refused → List ℕ
refused_reason (Read refused) = read_reason refused.why
refused_reason (Apply refused) = apply_reason refused.why

abbrev pub flaw_reason : Flaw → List ℕ
flaw_reason (flaws.AddressOutside order) = codes "the address is outside the screen"
flaw_reason (flaws.BadText order) = codes "a text right after another, or a byte that is no character"
flaw_reason (flaws.BadPairs order) = codes "a pair of a type that is not known, or more than 255 pairs"
flaw_reason (flaws.BadCode order) = codes "no character has this code"
flaw_reason flaws.NotAllowed = codes "its command takes no orders"
flaw_reason flaws.OutOfMemory = codes "out of memory"

-- the line of its record that a flaw is of: the command's is the first
abbrev pub flaw_line : Flaw → ℕ
flaw_line (flaws.AddressOutside order) = order + 1
flaw_line (flaws.BadText order) = order + 1
flaw_line (flaws.BadPairs order) = order + 1
flaw_line (flaws.BadCode order) = order + 1
flaw_line flaws.NotAllowed = 1
flaw_line flaws.OutOfMemory = 0

-- ---- the sentence

abbrev pub refused_words : List ℕ → Refused → ℕ × List ℕ → List ℕ
refused_words name refused found =
    column_head name found.0 (byte_column found.1 (min (refused_at refused) 32768)) ++ (refused_reason refused ++ codes "\n")

abbrev pub flaw_words : List ℕ → Flaw → ℕ → List ℕ
flaw_words name flaw number = line_head name number ++ (flaw_reason flaw ++ codes "\n")

-- of a record that is refused where its byte stands, of one that cannot be written the line of the order
abbrev pub refusal_sentence : List ℕ → List ℕ → Fault → Option (List ℕ)
refusal_sentence name text (RecordRefused index refused) = option_map (refused_words name refused) (record_from 1 index (lines_in text))
refusal_sentence name text (Unwritable index flaw) = option_map (flaw_words name flaw) (order_from 1 false index (min (flaw_line flaw) (2 ^ 64 - 1)) (lines_in text))
refusal_sentence name text fault = None
