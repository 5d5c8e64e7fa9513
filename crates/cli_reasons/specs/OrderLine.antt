-- Why a line of orders is refused.
use Rattle.std.specs.Prelude.{ℕ, ◌+◌, ◌%◌, ◌==◌, min, nat_eq, Bool, List, [], ◌∷◌, codes, drop, length, slice_index, Option, Some, None, if◌then◌else◌}
use Rattle.std.specs.List.{starts_with, list_any, before_first}
use Rattle.std.specs.Str.{bytes_eq}
use Rattle.cli_reasons.specs.declared.flaw.Flaw.{Flaw}
use Rattle.cli_reasons.specs.declared.flaw.Why.{Why}
use Rattle.cli_reasons.specs.declared.flaw.Why.TheVariants.{NeedsCharacters, NotDigit, OddDigits, NoOrder, OtherForm}
use Rattle.cli_reasons.specs.declared.record_line.SizesBy.{SizesBy}
use Rattle.cli_reasons.specs.Digits.{first_no_digit}
use Rattle.cli_reasons.specs.Flaw.{flaw_at}
use Rattle.cli_reasons.specs.RecordLine.{size_why}
use Rattle.cli_reasons.specs.Text.{text_or}

-- a word, and a line that begins with it
pub record Form : Type 0 where
  pub word : List ℕ
  pub line : List ℕ

abbrev pub form : List ℕ → List ℕ → Form
form word line = record { word = word; line = line }

abbrev pub commands : List Form
commands =
    form (codes "W") (codes "'W C2'") ∷ form (codes "EW") (codes "'EW C2'") ∷ form (codes "EWA") (codes "'EWA C2'")
    ∷ form (codes "EAU") (codes "'EAU'") ∷ form (codes "RB") (codes "'RB'") ∷ form (codes "RM") (codes "'RM'")
    ∷ form (codes "RMA") (codes "'RMA'") ∷ form (codes "NOP") (codes "'NOP'") ∷ []

abbrev pub cell_orders : List Form
cell_orders =
    form (codes "SF") (codes "'SF 20'") ∷ form (codes "SFE") (codes "'SFE C0=20 42=F2'") ∷ form (codes "MF") (codes "'MF C0=20'")
    ∷ form (codes "SA") (codes "'SA 42=F2'") ∷ form (codes "GE") (codes "'GE 41'") ∷ form (codes "TEXT") (codes "'TEXT C1C2'") ∷ []

abbrev pub address_orders : List Form
address_orders =
    form (codes "SBA") (codes "'SBA 80'") ∷ form (codes "RA") (codes "'RA 80 40'") ∷ form (codes "EUA") (codes "'EUA 80'")
    ∷ form (codes "IC") (codes "'IC'") ∷ form (codes "PT") (codes "'PT'") ∷ []

-- the line of a word, by a table
abbrev pub form_in : List ℕ → List Form → Option (List ℕ)
form_in word [] = None
form_in word (f ∷ others) = if bytes_eq word f.word then Some f.line else form_in word others

abbrev pub command_form : List ℕ → Option (List ℕ)
command_form word = form_in word commands

abbrev pub cell_form : List ℕ → Option (List ℕ)
cell_form word = form_in word cell_orders

abbrev pub address_form : List ℕ → Option (List ℕ)
address_form word = form_in word address_orders

abbrev pub form_or : Option (List ℕ) → Option (List ℕ) → Option (List ℕ)
form_or (Some line) other = Some line
form_or None other = other

-- how a line of this command or order is written
abbrev pub form_of : List ℕ → Option (List ℕ)
form_of word = form_or (command_form word) (form_or (cell_form word) (address_form word))

abbrev pub is_space : ℕ → Bool
is_space c = c == 0x20

-- the first word of a line, up to a space
abbrev pub first_word : List ℕ → List ℕ
first_word line = if list_any is_space line then before_first is_space line else line

-- a quote begins characters
abbrev pub digit_why : ℕ → Why
digit_why byte = if byte == 39 then NeedsCharacters else NotDigit byte

-- what is wrong with the digits of a text, of which this is the first byte that is none
abbrev pub digits_flaw_from : List ℕ → Option ℕ → Flaw
digits_flaw_from digits (Some place) = flaw_at (place + 6) (digit_why (slice_index digits place))
digits_flaw_from digits None =
    if length digits % 2 == 1 then flaw_at (length digits + 6) (OddDigits (length digits)) else flaw_at 6 OtherForm

-- the digits of a text stand after five characters
abbrev pub text_digits_flaw : List ℕ → Flaw
text_digits_flaw digits = digits_flaw_from digits (first_no_digit digits)

-- what stands after a word of so many bytes, or what is missing there
abbrev pub operand_flaw : List ℕ → ℕ → Flaw
operand_flaw line word =
    if starts_with nat_eq line (codes "TEXT ") then text_digits_flaw (drop 5 line)
    else flaw_at (min (word + 2) (length line + 1)) OtherForm

abbrev pub flaw_by_form : List ℕ → ℕ → Option (List ℕ) → Flaw
flaw_by_form line word (Some known) = operand_flaw line word
flaw_by_form line word None = flaw_at 1 NoOrder

-- the first word is not known, or something else stands after it
abbrev pub word_flaw : List ℕ → List ℕ → Flaw
word_flaw line word = flaw_by_form line (length word) (form_of word)

abbrev pub order_text_flaw : SizesBy → List ℕ → Flaw
order_text_flaw sizes line =
    if starts_with nat_eq line (codes "size") then flaw_at 1 (size_why sizes) else word_flaw line (first_word line)

abbrev pub order_flaw : SizesBy → List ℕ → Flaw
order_flaw sizes line = text_or line (order_text_flaw sizes line)
