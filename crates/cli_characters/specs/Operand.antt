-- What stands after TEXT: runs with a space between two, each of characters between quotes or of digits. Between quotes each of the 95
-- characters stands for its code, and a quote twice for one; elsewhere two digits of either case are a byte.
use Rattle.std.specs.Prelude.{ℕ, ◌+◌, ◌==◌, Bool, true, false, List, [], ◌∷◌, Option, Some, None, option_and_then, if◌then◌else◌}
use Rattle.std.specs.Option.{option_map, option_map_or}
use Rattle.hex.specs.Hex.{hex_digit_value, is_hex_digit}
use Rattle.ds_codec.specs.Digits.{byte_from}
use Rattle.cli_characters.specs.declared.place.Place.{Place}
use Rattle.cli_characters.specs.declared.place.Place.TheVariants.{Begins, Inside, Quote, Digits, Half}
use Rattle.cli_characters.specs.declared.operand.Stop.{Stop}
use Rattle.cli_characters.specs.Table.{code_of}

-- where a character leads, and the byte that it completes
abbrev pub Step : Type 0
Step = Place × Option ℕ

abbrev pub on : Place → Option ℕ → Option Step
on place byte = Some (place, byte)

-- the first digit of a byte
abbrev pub first_digit : ℕ → Option Step
first_digit c = if is_hex_digit c then Some (Half c, None) else None

-- at the front of a run; between quotes; after a quote that ends them or is the first of two; after a byte's digits; after one digit
abbrev pub step : Place → ℕ → Option Step
step Begins c = if c == 39 then on Inside None else first_digit c
step Inside c = if c == 39 then on Quote None else option_map (λ code. (Inside, Some code)) (code_of c)
step Quote c = if c == 39 then on Inside (Some 0x7D) else (if c == 32 then on Begins None else None)
step Digits c = if c == 32 then on Begins None else first_digit c
step (Half high) c = option_map (λ byte. (Digits, Some byte)) (byte_from (hex_digit_value high) (hex_digit_value c))

-- a run may end after its quote or after a byte's digits
abbrev pub may_end : Place → Bool
may_end Begins = false
may_end Inside = false
may_end Quote = true
may_end Digits = true
may_end (Half high) = false

abbrev pub with_byte : Option ℕ → List ℕ → List ℕ
with_byte None bytes = bytes
with_byte (Some byte) bytes = byte ∷ bytes

-- the bytes that what is left spells, where it is good
abbrev pub told_from : Place → List ℕ → Option (List ℕ)
told_from place [] = if may_end place then Some [] else None
told_from place (c ∷ cs) = option_and_then (λ (s : Step). option_map (with_byte s.1) (told_from s.0 cs)) (step place c)

abbrev pub told_of : List ℕ → Option (List ℕ)
told_of operand = told_from Begins operand

-- ---- where it is not good

abbrev pub stop_at : ℕ → Place → Stop
stop_at at place = record { at = at; place = place }

-- where the first character stands that leads nowhere, or the end where the text may not end there
abbrev pub stop_from : ℕ → Place → List ℕ → Option Stop
stop_from at place [] = if may_end place then None else Some (stop_at at place)
stop_from at place (c ∷ cs) = option_map_or (λ (s : Step). stop_from (at + 1) s.0 cs) (step place c) (Some (stop_at at place))

abbrev pub first_stop : List ℕ → Option Stop
first_stop operand = stop_from 0 Begins operand
