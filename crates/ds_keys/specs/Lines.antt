-- The words of keys.
use Rattle.std.specs.Prelude.{ℕ, Bool, ◌&&◌, ◌==◌, List, [], ◌∷◌, ◌++◌, length, take, slice_index, codes, Option, Some, None, if◌then◌else◌}
use Rattle.std.specs.Str.{bytes_eq}
use Rattle.ds_codec.specs.Aid.{access_aid, function_aid}
use Rattle.ds_codec.specs.Character.{is_graphic}
use Rattle.ds_codec.specs.Digits.{byte_from}
use Rattle.hex.specs.Hex.{hex_digit_value}
use Rattle.ds_keys.specs.declared.key.Key.{Key}
use Rattle.ds_keys.specs.declared.key.Key.TheVariants.{Typed, Left, Right, Up, Down, Tab, BackTab, NewLine, Home, EraseEof, EraseInput, Delete, Reset, Attention}

-- a key and the word for it
pub record Word : Type 0 where
  pub text : List ℕ
  pub key : Key

abbrev pub word : List ℕ → Key → Word
word text key = record { text = text; key = key }

abbrev pub cursor_words : List Word
cursor_words =
    word (codes "left") Left ∷ word (codes "right") Right ∷ word (codes "up") Up ∷ word (codes "down") Down ∷ word (codes "tab") Tab
    ∷ word (codes "backtab") BackTab ∷ word (codes "newline") NewLine ∷ word (codes "home") Home ∷ []

abbrev pub edit_words : List Word
edit_words =
    word (codes "eraseeof") EraseEof ∷ word (codes "eraseinput") EraseInput ∷ word (codes "delete") Delete ∷ word (codes "reset") Reset ∷ []

abbrev pub attention_words : List Word
attention_words =
    word (codes "enter") (Attention 0x7D) ∷ word (codes "clear") (Attention 0x6D) ∷ word (codes "pa1") (Attention (access_aid 1))
    ∷ word (codes "pa2") (Attention (access_aid 2)) ∷ word (codes "pa3") (Attention (access_aid 3)) ∷ []

abbrev pub first_functions : List Word
first_functions =
    word (codes "pf1") (Attention (function_aid 1)) ∷ word (codes "pf2") (Attention (function_aid 2)) ∷ word (codes "pf3") (Attention (function_aid 3)) ∷ word (codes "pf4") (Attention (function_aid 4))
    ∷ word (codes "pf5") (Attention (function_aid 5)) ∷ word (codes "pf6") (Attention (function_aid 6)) ∷ word (codes "pf7") (Attention (function_aid 7)) ∷ word (codes "pf8") (Attention (function_aid 8)) ∷ []

abbrev pub middle_functions : List Word
middle_functions =
    word (codes "pf9") (Attention (function_aid 9)) ∷ word (codes "pf10") (Attention (function_aid 10)) ∷ word (codes "pf11") (Attention (function_aid 11)) ∷ word (codes "pf12") (Attention (function_aid 12))
    ∷ word (codes "pf13") (Attention (function_aid 13)) ∷ word (codes "pf14") (Attention (function_aid 14)) ∷ word (codes "pf15") (Attention (function_aid 15)) ∷ word (codes "pf16") (Attention (function_aid 16)) ∷ []

abbrev pub last_functions : List Word
last_functions =
    word (codes "pf17") (Attention (function_aid 17)) ∷ word (codes "pf18") (Attention (function_aid 18)) ∷ word (codes "pf19") (Attention (function_aid 19)) ∷ word (codes "pf20") (Attention (function_aid 20))
    ∷ word (codes "pf21") (Attention (function_aid 21)) ∷ word (codes "pf22") (Attention (function_aid 22)) ∷ word (codes "pf23") (Attention (function_aid 23)) ∷ word (codes "pf24") (Attention (function_aid 24)) ∷ []

abbrev pub sending_words : List Word
sending_words = attention_words ++ (first_functions ++ (middle_functions ++ last_functions))

abbrev pub words : List Word
words = cursor_words ++ (edit_words ++ sending_words)

-- the key of a text, by a table of words
abbrev pub key_in : List ℕ → List Word → Option Key
key_in text [] = None
key_in text (w ∷ others) = if bytes_eq text w.text then Some w.key else key_in text others

-- a code can be typed from 40 to FE
abbrev pub typed_code : Option ℕ → Option Key
typed_code (Some code) = if is_graphic code then Some (Typed code) else None
typed_code None = None

-- `type` and two hexadecimal digits
abbrev pub is_typing : List ℕ → Bool
is_typing text = length text == 7 && bytes_eq (take 5 text) (codes "type ")

unfoldable pub typed_key : List ℕ → Option Key
typed_key text = if is_typing text then typed_code (byte_from (hex_digit_value (slice_index text 5)) (hex_digit_value (slice_index text 6))) else None

-- the key that a line names, if it names one
unfoldable pub key_of : List ℕ → Option Key
key_of text = if is_typing text then typed_key text else key_in text words
