-- Where a record stands in an input of lines, and a byte or an order of it.
use Rattle.std.specs.Prelude.{ℕ, ◌+◌, ◌-◌, ◌==◌, ◌&&◌, not, nat_eq, nat_lt, Bool, true, false, List, [], ◌∷◌, codes, Option, Some, None, if◌then◌else◌}
use Rattle.std.specs.List.{starts_with}
use Rattle.hex.specs.Hex.{is_hex_digit}
use Rattle.cli_commands.specs.Lines.{is_ignored}
use Rattle.cli_reasons.specs.Digits.{digit_count}
use Rattle.cli_reasons.specs.Judged.{is_spaced}

-- ---- a line of records

-- a line that is no comment and no sizes, with a digit
abbrev pub is_record : List ℕ → Bool
is_record line = not (is_ignored line) && (not (starts_with nat_eq line (codes "size")) && nat_lt 0 (digit_count line))

-- the number of the line that is the record after so many others
abbrev pub record_from : ℕ → ℕ → List (List ℕ) → Option (ℕ × List ℕ)
record_from number others [] = None
record_from number others (line ∷ lines) =
    if is_record line then (if others == 0 then Some (number, line) else record_from (number + 1) (others - 1) lines)
    else record_from (number + 1) others lines

-- the column of the digit after so many others, or that after the line's end
abbrev pub column_from : ℕ → ℕ → List ℕ → ℕ
column_from column others [] = column
column_from column others (c ∷ cs) =
    if is_hex_digit c then (if others == 0 then column else column_from (column + 1) (others - 1) cs)
    else column_from (column + 1) others cs

-- a byte is two digits
abbrev pub byte_column : List ℕ → ℕ → ℕ
byte_column line at = column_from 1 (at + at) line

-- ---- lines of orders

-- neither a comment nor sizes nor the end of a record
abbrev pub is_order : List ℕ → Bool
is_order line = not (is_ignored line) && not (starts_with nat_eq line (codes "size"))

-- The number of the line of an order: of the record after so many others, the line after so many others of it, its command first.
-- Whether a record has begun is told.
abbrev pub order_from : ℕ → Bool → ℕ → ℕ → List (List ℕ) → Option ℕ
order_from number begun others before [] = None
order_from number begun others before ([] ∷ lines) =
    if begun then order_from (number + 1) false (others - 1) before lines else order_from (number + 1) false others before lines
order_from number begun others before (line ∷ lines) =
    if is_order line
    then (if others == 0 then (if before == 0 then Some number else order_from (number + 1) true others (before - 1) lines)
    else order_from (number + 1) true others before lines)
    else order_from (number + 1) begun others before lines

-- ---- a text that is no layout

-- its first line that is no comment is a record
abbrev pub holds_records : List (List ℕ) → Bool
holds_records [] = false
holds_records (line ∷ lines) = if is_ignored line then holds_records lines else is_spaced line && nat_lt 0 (digit_count line)
