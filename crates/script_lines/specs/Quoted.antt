-- A text between quotes.
use Rattle.std.specs.Prelude.{ℕ, zero, suc, ◌==◌, Bool, false, ◌&&◌, List, [], ◌∷◌, ◌++◌, length, drop, Option, Some, None, option_map, if◌then◌else◌}

-- what stands at the front of a text: nothing, the closing quote, a backslash and the closing quote, or a byte of the text
pub data Taken : Type 0 where
  nothing : Taken
  ends : (rest : List ℕ) → Taken
  closes : (rest : List ℕ) → Taken
  one : (byte : ℕ) → (rest : List ℕ) → Taken

abbrev pub begins_quote : List ℕ → Bool
begins_quote [] = false
begins_quote (byte ∷ bytes) = byte == 0x22

-- `\"` is a quote, `\\"` one backslash and the end, and every other backslash stands for itself
abbrev pub after_backslash : List ℕ → Taken
after_backslash [] = one 0x5C []
after_backslash (byte ∷ bytes) =
    if byte == 0x22 then one 0x22 bytes
    else (if (byte == 0x5C) && begins_quote bytes then closes (drop 1 bytes) else one 0x5C (byte ∷ bytes))

abbrev pub taken : List ℕ → Taken
taken [] = nothing
taken (byte ∷ bytes) = if byte == 0x22 then ends bytes else (if byte == 0x5C then after_backslash bytes else one byte bytes)

-- bytes before a text, and what comes after it
abbrev pub with_bytes : List ℕ → Option (List ℕ × List ℕ) → Option (List ℕ × List ℕ)
with_bytes bytes found = option_map (λ parts. (bytes ++ parts.0, parts.1)) found

abbrev pub then_taken : Taken → (List ℕ → Option (List ℕ × List ℕ)) → Option (List ℕ × List ℕ)
then_taken nothing others = None
then_taken (ends rest) others = Some ([], rest)
then_taken (closes rest) others = Some (0x5C ∷ [], rest)
then_taken (one byte rest) others = with_bytes (byte ∷ []) (others rest)

-- of so many bytes at most
unfoldable pub unquoted_within : ℕ → List ℕ → Option (List ℕ × List ℕ)
unquoted_within zero bytes = None
unquoted_within (suc most) bytes = then_taken (taken bytes) (unquoted_within most)

-- a text after its opening quote, and what comes after the closing one
abbrev pub unquoted : List ℕ → Option (List ℕ × List ℕ)
unquoted bytes = unquoted_within (suc (length bytes)) bytes
