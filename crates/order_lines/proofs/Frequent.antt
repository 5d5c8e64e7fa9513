-- Lines by their first word: no command and no other order begins as they do.
use Rattle.std.proofs.Common.{◌≡◌, ℕ, List, ◌++◌, refl}
use Rattle.std.specs.Prelude.{codes, Option, Some, None}
use Rattle.std.specs.Option.{option_map}
use Rattle.hex.specs.Hex.{decode_of}
use Rattle.ds_codec.specs.Order.{Item, set_buffer_address, erase_unprotected_to_address}
use Rattle.order_lines.specs.Words.{byte_told, number_told}
use Rattle.order_lines.specs.Told.{order, first_told, attribute_from, text_from, repeat_told, command_told, order_told, short_told, address_told, told_of}

order_first : (told : Option Item) → first_told None told ≡ option_map order told
order_first (Some told) = refl
order_first None = refl

pub text_first : (rest : List ℕ) → told_of (codes "TEXT " ++ rest) ≡ option_map order (text_from (decode_of rest))
unfolding command_told order_told
text_first rest = order_first (text_from (decode_of rest))

pub attribute_first : (rest : List ℕ) → told_of (codes "SF " ++ rest) ≡ option_map order (attribute_from (byte_told rest))
unfolding command_told order_told short_told
attribute_first rest = order_first (attribute_from (byte_told rest))

pub set_address_first : (rest : List ℕ) → address_told (codes "SBA " ++ rest) ≡ option_map set_buffer_address (number_told rest)
unfolding address_told
set_address_first rest = refl

pub erase_first : (rest : List ℕ) → address_told (codes "EUA " ++ rest) ≡ option_map erase_unprotected_to_address (number_told rest)
unfolding address_told
erase_first rest = refl

pub repeat_first : (rest : List ℕ) → address_told (codes "RA " ++ rest) ≡ repeat_told rest
unfolding address_told
repeat_first rest = refl
