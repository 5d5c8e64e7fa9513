-- What is wrong with a line, in words.
use Rattle.std.specs.Prelude.{ℕ, List, ◌++◌, ◌∷◌, [], codes, decimal, if◌then◌else◌}
use Rattle.std.specs.Char.{is_ascii_graphic}
use Rattle.order_lines.specs.Print.{hex_byte}
use Rattle.cli_reasons.specs.declared.flaw.Flaw.{Flaw}
use Rattle.cli_reasons.specs.declared.flaw.Why.{Why}
use Rattle.cli_reasons.specs.declared.flaw.Why.TheVariants.{NotDigit, OddDigits, NotUtf8, ByteOrderMark, Utf16, Tab, Prefix, Comment, SizesOfLayout, SizesTooLate, NoSizes, Turn, NoCode, NeedsStrokes, NoKey, NoStroke, NoOrder, OtherForm, NoCommand, SecondCommand, TooLong, NoCharacter, NoString, NeedsCharacters, OpenQuote, NoRun, NoSpace, HalfByte}
use Rattle.cli_reasons.specs.declared.flaw.Limit.{Limit}
use Rattle.cli_reasons.specs.declared.flaw.Limit.TheVariants.{Bytes, Records, RecordBytes, Keys}

abbrev pub flaw_at : ℕ → Why → Flaw
flaw_at column why = record { column = column; why = why }

abbrev pub quoted_text : ℕ → List ℕ
quoted_text character = codes "'" ++ (character ∷ codes "'")

abbrev pub bare_text : ℕ → List ℕ
bare_text byte = codes "the byte " ++ hex_byte byte

-- the character between two quotes where ASCII prints it, else its two digits
abbrev pub byte_text : ℕ → List ℕ
byte_text byte = if is_ascii_graphic byte then quoted_text byte else bare_text byte

abbrev pub odd_text : ℕ → List ℕ
odd_text count = codes "the line ends after " ++ (decimal count ++ codes " digits, an odd number")

abbrev pub limit_words : Limit → List ℕ
limit_words Bytes = codes "more than 16,777,216 bytes"
limit_words Records = codes "more than 1,000 records"
limit_words RecordBytes = codes "a record of more than 32,768 bytes"
limit_words Keys = codes "more than 100,000 keys"

-- the words for what is of characters
abbrev pub character_words : Why → List ℕ
character_words NoString = codes "'string' takes one character or more"
character_words NeedsCharacters = codes "characters between quotes; give the option --chars"
character_words OpenQuote = codes "no quote ends the characters; one among them stands twice"
character_words NoRun = codes "characters between quotes, or digits, are missing"
character_words NoSpace = codes "a space stands after the quote that ends characters"
character_words HalfByte = codes "a byte takes two hexadecimal digits"
character_words why = []

-- the words for what is of keys or of orders, or a limit
abbrev pub other_words : Why → List ℕ
other_words NoCode = codes "'type' takes two hexadecimal digits, from 40 to FE"
other_words NeedsStrokes = codes " is a stroke; give the option --strokes"
other_words NoKey = codes " is no key"
other_words NoStroke = codes " is no key and no stroke"
other_words NoOrder = codes " is no command and no order"
other_words OtherForm = codes " is written otherwise, as in "
other_words NoCommand = codes "an order before its command"
other_words SecondCommand = codes "a second command; an empty line ends a record"
other_words (TooLong limit) = limit_words limit
other_words why = character_words why

-- the words for each reason, of which no byte and no number is a part
abbrev pub why_words : Why → List ℕ
why_words (NotDigit byte) = codes " is no hexadecimal digit"
why_words (OddDigits count) = []
why_words (NotUtf8 byte) = codes " is no UTF-8"
why_words ByteOrderMark = codes "a byte order mark; save the text without one"
why_words Utf16 = codes "the text is UTF-16; save it as UTF-8"
why_words Tab = codes "a tab; only spaces may stand between digits"
why_words Prefix = codes "'0x'; digits stand without it"
why_words Comment = codes "'#' begins a comment only at the beginning of a line"
why_words (NoCharacter byte) = codes " is none of the 95 characters from the space to the tilde"
why_words SizesOfLayout = codes "the layout gives the sizes; leave this line out"
why_words SizesTooLate = codes "sizes are told once, before the first record"
why_words NoSizes = codes "no sizes of a terminal, as in 'size 24x80 43x80'"
why_words Turn = codes "a line 'turn' is for 'talk', 'draft --turns' and 'bind --turns'"
why_words why = other_words why

abbrev pub why_text : Why → List ℕ
why_text (NotDigit byte) = byte_text byte ++ codes " is no hexadecimal digit"
why_text (OddDigits count) = odd_text count
why_text (NotUtf8 byte) = byte_text byte ++ codes " is no UTF-8"
why_text (NoCharacter byte) = byte_text byte ++ codes " is none of the 95 characters from the space to the tilde"
why_text why = why_words why
