-- What is printed for a command or an order is told again.
use Rattle.std.proofs.Common.{◌≡◌, ◌<◌, ℕ, suc, ◌+◌, ◌-◌, ◌*◌, ◌/◌, ◌%◌, ◌^◌, Bool, true, false, eqb, ltb, not, ◌&&◌, List, [], ◌∷◌, ◌++◌, length, get_or, take, drop, Option, Some, None, Ok, refl, ap, arith}
use Rattle.std.specs.Prelude.{codes, nat_eq}
use Rattle.std.specs.Fmt.{decimal, digit_glyph}
use Rattle.std.specs.List.{list_all, prefix_len, starts_with}
use Rattle.std.specs.Char.{is_ascii_digit}
use Rattle.std.specs.Str.{all_ascii_digits}
use Rattle.std.specs.Str.Parse.{digits_value}
use Rattle.std.proofs.lemmas.Bool.{eqb-true, lt-ltb}
use Rattle.std.proofs.lemmas.Bool.Decides.{nat_tests}
use Rattle.std.proofs.lemmas.List.{take_at, length-append}
use Rattle.std.proofs.Math.Seq.{drop-append-add}
use Rattle.std.proofs.lemmas.Fmt.{digits_decimal, decimal_is_IsNumeral, decimal_nonempty, decimal_digit, first_decimal}
use Rattle.hex.specs.Hex.{IsBytes, hex_digit_value}
use Rattle.hex.proofs.HexLemmas.{decode_of-encode_upper}
use Rattle.ds_codec.specs.declared.command.Command.{Command}
use Rattle.ds_codec.specs.declared.command.Command.TheVariants as commands
use Rattle.ds_codec.specs.Command.{wcc_of}
use Rattle.ds_codec.specs.Character.{Glyph, glyph, is_glyph}
use Rattle.ds_codec.specs.Order.{Item, text, start_field, start_field_extended, set_buffer_address, set_attribute, modify_field, insert_cursor, program_tab, repeat_to_address, erase_unprotected_to_address, graphic_escape}
use Rattle.ds_codec.proofs.Below.{each_below, both_true}
use Rattle.ds_codec.proofs.TextRuns.{prefix-append}
use Rattle.ds_codec.specs.Digits.{byte_from}
use Rattle.order_lines.specs.Words.{byte_told, pair_told, pairs_told, is_numeral, number_told, cut_at}
use Rattle.order_lines.specs.Print.{hex_byte, pair_word, pair_words, character_word, order_words, command_words}
use Rattle.order_lines.specs.Told.{command, order, told_of, command_told, order_told, short_told, address_told, repeat_told, character_told, text_from}
use Rattle.order_lines.specs.Laws.{are_plain}
use Rattle.order_lines.proofs.Plain.{digits_model, plain-append, plain-decimal, plain-hex_byte, plain-encode, plain-pair_word, plain-pair_words}

-- ---- bytes and pairs

is_some_of : Option ℕ → ℕ → Bool
is_some_of (Some v) d = eqb v d
is_some_of None d = false

some_is : (o : Option ℕ) (d : ℕ) → is_some_of o d ≡ true → o ≡ Some d
unfolding is_some_of
some_is (Some v) d h = ap Some (eqb-true v d h)
some_is None d h = absurd cc

glyph_value : (d : ℕ) → d < 16 → hex_digit_value (digit_glyph true d) ≡ Some d
unfolding is_some_of
glyph_value d lt = some_is _ d (each_below (λ k. is_some_of (hex_digit_value (digit_glyph true k)) k) 16 d refl lt)

pub byte_pair : (b : ℕ) → b < 256 → byte_from (hex_digit_value (digit_glyph true (b / 16))) (hex_digit_value (digit_glyph true (b % 16))) ≡ Some b
byte_pair b small =
    let high : b / 16 < 16 = omega arith in
    let low : b % 16 < 16 = omega arith in
    let whole : 16 * (b / 16) + b % 16 ≡ b = omega arith in
    rw (glyph_value (b / 16) high, glyph_value (b % 16) low) (ap Some whole)

pub byte_again : (b : ℕ) → b < 256 → byte_told (hex_byte b) ≡ Some b
byte_again b small = byte_pair b small

pub pair_again : (kind value : ℕ) → kind < 256 → value < 256 → pair_told (pair_word kind value) ≡ Some (kind, value)
pair_again kind value first second = rw (byte_pair kind first, byte_pair value second) refl

pub pairs_again : (count : ℕ) (pairs : List ℕ) → IsBytes pairs → length pairs ≡ 2 * count → pairs_told (pair_words pairs) ≡ Some pairs
pairs_again count [] h even = refl
pairs_again count (kind ∷ []) h even = absurd (omega arith)
pairs_again count (kind ∷ value ∷ pairs) h even =
    let others : pairs_told (pair_words pairs) ≡ Some pairs = pairs_again (count - 1) pairs (λ i. h (suc (suc i))) (omega arith) in
    rw (byte_pair kind (h 0), byte_pair value (h 1), others) refl

-- ---- numbers

from_ascii : (ds : List ℕ) → all_ascii_digits ds ≡ true → list_all is_ascii_digit ds ≡ true
from_ascii [] h = refl
from_ascii (c ∷ cs) h =
    let parts = both_true (is_ascii_digit c) (all_ascii_digits cs) h in rw (parts.0, from_ascii cs parts.1) refl

no_zero_first : (c : ℕ) → 48 < c → eqb c 48 ≡ false
no_zero_first c large = grind (arith, nat_tests)

numeral_again : (ds : List ℕ) → list_all is_ascii_digit ds ≡ true → 0 < length ds → 48 < get_or ds 0 0 → is_numeral ds ≡ true
numeral_again [] digits some large = absurd (omega arith)
numeral_again (c ∷ []) digits some large = digits
numeral_again (c ∷ d ∷ cs) digits some large = rw (no_zero_first c large) digits

decimal_numeral : (n : ℕ) → n < 2 ^ 64 → is_numeral (decimal n) ≡ true
decimal_numeral n small =
    elim (eqb n 0) as (λ t. eqb n 0 ≡ t → is_numeral (decimal n) ≡ true) [
      | true ↦ λ zero_is. let zero : n ≡ 0 = eqb-true n 0 zero_is in let text : decimal 0 ≡ 48 ∷ [] = decimal_digit 0 (omega arith) in rw (zero, text) refl
      | false ↦ λ other.
          let positive : 0 < n = grind (arith, nat_tests) in
          numeral_again (decimal n) (from_ascii (decimal n) (digits_decimal digits_model n small)) (decimal_nonempty n small) (first_decimal n positive small)
    ] refl

pub number_again : (n : ℕ) → n < 4294967296 → number_told (decimal n) ≡ Some n
number_again n small =
    let wide : n < 2 ^ 64 = omega arith in
    let value : digits_value 10 (decimal n) ≡ n = (decimal_is_IsNumeral n wide).1 in
    let test : ltb n 4294967296 ≡ true = lt-ltb n 4294967296 small in
    rw (decimal_numeral n wide, value, test) refl

-- ---- an address, a space, and a character

no_space : (c : ℕ) → is_ascii_digit c ≡ true → not (eqb c 32) ≡ true
no_space c h = grind (arith, nat_tests)

no_spaces : (ds : List ℕ) → list_all is_ascii_digit ds ≡ true → list_all (λ c. not (eqb c 32)) ds ≡ true
no_spaces [] h = refl
no_spaces (c ∷ cs) h =
    let parts = both_true (is_ascii_digit c) (list_all is_ascii_digit cs) h in rw (no_space c parts.0, no_spaces cs parts.1) refl

cut_again : (ds rest : List ℕ) → list_all is_ascii_digit ds ≡ true → cut_at 32 (ds ++ 32 ∷ rest) ≡ Some (ds, rest)
cut_again ds rest digits =
    let n : prefix_len (λ c. not (eqb c 32)) (ds ++ 32 ∷ rest) ≡ length ds = prefix-append (λ c. not (eqb c 32)) ds (32 ∷ rest) (no_spaces ds digits) refl in
    let inside : ltb (length ds) (length (ds ++ 32 ∷ rest)) ≡ true = lt-ltb _ _ (omega (arith, length-append ds (32 ∷ rest))) in
    let front : take (length ds) (ds ++ 32 ∷ rest) ≡ ds = take_at ds (32 ∷ rest) (length ds) refl in
    let behind : drop (length ds + 1) (ds ++ 32 ∷ rest) ≡ rest = drop-append-add ds (32 ∷ rest) 1 in
    rw (n, inside, front, behind) refl

pub no_escape : (x y : ℕ) → starts_with nat_eq (x ∷ y ∷ []) (codes "GE ") ≡ false
no_escape x y =
    elim (eqb 71 x) as (λ t. (t && (eqb 69 y && false)) ≡ false) [
      | true ↦ elim (eqb 69 y) as (λ t. (t && false) ≡ false) [ true ↦ refl | false ↦ refl ]
      | false ↦ refl
    ]

character_again : (character : Glyph) → character.code < 256 → is_glyph character ≡ true → character_told (character_word character) ≡ Some character
character_again character small exists = of_alt character.code character.alt small exists
  where
    of_alt : (code : ℕ) (alt : Bool) → code < 256 → is_glyph (glyph code alt) ≡ true → character_told (character_word (glyph code alt)) ≡ Some (glyph code alt)
    of_alt code true small exists = rw (byte_again code small, exists) refl
    of_alt code false small exists = rw (no_escape (digit_glyph true (code / 16)) (digit_glyph true (code % 16)), byte_again code small, exists) refl

-- ---- lines

-- an order that its line says again
abbrev pub IsLineItem : Item → Type 0
IsLineItem (text run) = (0 < length run) × IsBytes run
IsLineItem (start_field attribute) = attribute < 64
IsLineItem (start_field_extended pairs) = (count : ℕ) × (length pairs ≡ 2 * count) × IsBytes pairs
IsLineItem (set_buffer_address address) = address < 4294967296
IsLineItem (set_attribute kind value) = (kind < 256) × (value < 256)
IsLineItem (modify_field pairs) = (count : ℕ) × (length pairs ≡ 2 * count) × IsBytes pairs
IsLineItem insert_cursor = Unit {0}
IsLineItem program_tab = Unit {0}
IsLineItem (repeat_to_address address character) = (address < 4294967296) × (character.code < 256) × (is_glyph character ≡ true)
IsLineItem (erase_unprotected_to_address address) = address < 4294967296
IsLineItem (graphic_escape code) = code < 256

text_again : (run : List ℕ) → 0 < length run → text_from (Ok run) ≡ Some (text run)
text_again [] some = absurd (omega arith)
text_again (b ∷ bs) some = refl

repeat_again : (address : ℕ) (character : Glyph) → address < 4294967296 → character.code < 256 → is_glyph character ≡ true
    → repeat_told (decimal address ++ 32 ∷ character_word character) ≡ Some (repeat_to_address address character)
repeat_again address character near small exists =
    let wide : address < 2 ^ 64 = omega arith in
    let digits : list_all is_ascii_digit (decimal address) ≡ true = from_ascii (decimal address) (digits_decimal digits_model address wide) in
    rw (cut_again (decimal address) (character_word character) digits, number_again address near, character_again character small exists) refl

order_again : (item : Item) → IsLineItem item → order_told (order_words item) ≡ Some item
unfolding order_told short_told address_told
order_again (text run) (some, bytes) = rw (decode_of-encode_upper run bytes) (text_again run some)
order_again (start_field attribute) six =
    let small : attribute < 256 = omega arith in
    let test : ltb attribute 64 ≡ true = lt-ltb attribute 64 six in
    rw (byte_again attribute small, test) refl
order_again (start_field_extended pairs) (count, even, bytes) = rw (pairs_again count pairs bytes even) refl
order_again (set_buffer_address address) near = rw (number_again address near) refl
order_again (set_attribute kind value) (first, second) = rw (pair_again kind value first second) refl
order_again (modify_field pairs) (count, even, bytes) = rw (pairs_again count pairs bytes even) refl
order_again insert_cursor is = refl
order_again program_tab is = refl
order_again (repeat_to_address address character) (near, small, exists) = rw (repeat_again address character near small exists) refl
order_again (erase_unprotected_to_address address) near = rw (number_again address near) refl
order_again (graphic_escape code) small = rw (byte_again code small) refl

no_command : (item : Item) → command_told (order_words item) ≡ None
unfolding command_told
no_command (text run) = refl
no_command (start_field attribute) = refl
no_command (start_field_extended pairs) = refl
no_command (set_buffer_address address) = refl
no_command (set_attribute kind value) = refl
no_command (modify_field pairs) = refl
no_command insert_cursor = refl
no_command program_tab = refl
no_command (repeat_to_address address character) = refl
no_command (erase_unprotected_to_address address) = refl
no_command (graphic_escape code) = refl

pub order_line_again : (item : Item) → IsLineItem item → told_of (order_words item) ≡ Some (order item)
order_line_again item is = rw (no_command item, order_again item is) refl

-- a write control character is a byte
abbrev pub IsLineCommand : Option ℕ → Type 0
IsLineCommand None = Unit {0}
IsLineCommand (Some wcc) = wcc < 256

command_again : (told : Command) → IsLineCommand (wcc_of told) → command_told (command_words told) ≡ Some told
unfolding command_told
command_again (commands.Write wcc) small = rw (byte_again wcc small) refl
command_again (commands.EraseWrite wcc) small = rw (byte_again wcc small) refl
command_again (commands.EraseWriteAlternate wcc) small = rw (byte_again wcc small) refl
command_again commands.EraseAllUnprotected small = refl
command_again commands.ReadBuffer small = refl
command_again commands.ReadModified small = refl
command_again commands.ReadModifiedAll small = refl
command_again commands.NoOperation small = refl

pub command_line_again : (told : Command) → IsLineCommand (wcc_of told) → told_of (command_words told) ≡ Some (command told)
command_line_again told small = rw (command_again told small) refl

-- ---- their characters

plain_character : (code : ℕ) (alt : Bool) → code < 256 → are_plain (character_word (glyph code alt)) ≡ true
plain_character code true small = plain-hex_byte code small
plain_character code false small = plain-hex_byte code small

pub plain_order : (item : Item) → IsLineItem item → are_plain (order_words item) ≡ true
plain_order (text run) (some, bytes) = plain-encode run bytes
plain_order (start_field attribute) six = plain-hex_byte attribute (omega arith)
plain_order (start_field_extended pairs) (count, even, bytes) = plain-pair_words pairs bytes
plain_order (set_buffer_address address) near = plain-decimal address (omega arith)
plain_order (set_attribute kind value) (first, second) = plain-pair_word kind value first second
plain_order (modify_field pairs) (count, even, bytes) = plain-pair_words pairs bytes
plain_order insert_cursor is = refl
plain_order program_tab is = refl
plain_order (repeat_to_address address character) (near, small, exists) =
    plain-append (decimal address) (32 ∷ character_word character) (plain-decimal address (omega arith)) (plain_character character.code character.alt small)
plain_order (erase_unprotected_to_address address) near = plain-decimal address (omega arith)
plain_order (graphic_escape code) small = plain-hex_byte code small

pub plain_command : (told : Command) → IsLineCommand (wcc_of told) → are_plain (command_words told) ≡ true
plain_command (commands.Write wcc) small = plain-hex_byte wcc small
plain_command (commands.EraseWrite wcc) small = plain-hex_byte wcc small
plain_command (commands.EraseWriteAlternate wcc) small = plain-hex_byte wcc small
plain_command commands.EraseAllUnprotected small = refl
plain_command commands.ReadBuffer small = refl
plain_command commands.ReadModified small = refl
plain_command commands.ReadModifiedAll small = refl
plain_command commands.NoOperation small = refl
