-- A line that says a command or an order is plain, and begins with a capital letter.
use Rattle.std.proofs.Common.{◌≡◌, ◌≤◌, ℕ, ◌+◌, Bool, true, false, cond, eqb, List, [], ◌∷◌, ◌++◌, take, drop, get_or, codes, Option, Some, None, Ok, option_map, refl, sym, ap, subst, arith, inl, inr}
use Rattle.std.specs.Prelude.{position, ◌==◌}
use Rattle.std.specs.Char.{is_ascii_digit}
use Rattle.std.specs.List.{list_all}
use Rattle.std.specs.Str.Parse.{digits_value}
use Rattle.std.proofs.lemmas.Bool.{eqb-true, ne_eqb}
use Rattle.std.proofs.lemmas.Bool.Decides.{nat_tests}
use Rattle.std.proofs.lemmas.List.{drop_more, take-append-drop}
use Rattle.std.proofs.lemmas.List.Quantifiers.{position-Some}
use Rattle.std.proofs.lemmas.List.Sums.{list_all-from_AllPass}
use Rattle.hex.specs.Hex.{hex_digit_value, is_hex_digit, decode_of}
use Rattle.hex.proofs.HexLemmas.{decode_of-ok}
use Rattle.ds_codec.specs.Digits.{byte_from}
use Rattle.ds_codec.specs.declared.command.Command.TheVariants.{Write, EraseWrite, EraseWriteAlternate, EraseAllUnprotected, ReadBuffer, ReadModified, ReadModifiedAll, NoOperation}
use Rattle.ds_codec.specs.Order.{text, start_field, start_field_extended, set_buffer_address, set_attribute, modify_field, insert_cursor, program_tab, repeat_to_address, erase_unprotected_to_address, graphic_escape}
use Rattle.ds_codec.proofs.Below.{both_true}
use Rattle.order_lines.specs.Laws.{is_plain, are_plain}
use Rattle.order_lines.specs.Words.{byte_told, pair_from, pair_told, pairs_more, pairs_told, is_numeral, number_from, number_told, cut_at}
use Rattle.order_lines.specs.Told.{Told, command, order, told_of}
use Rattle.order_lines.specs.Says.{Says, IsCharacter}
use Rattle.order_lines.proofs.Plain.{and_true, plain-append}
use Rattle.order_lines.proofs.Said.{tells_what_is_said}
use Rattle.cli_commands.specs.declared.input.sizes.SizeLine.{SizeLine}
use Rattle.cli_commands.specs.declared.input.sizes.SizeLine.TheVariants.{Allowed, Refused}
use Rattle.cli_commands.specs.Drafts as drafts
use Rattle.cli_commands.specs.Drafts.{text_told, line_told}
use Rattle.cli_commands.specs.Sizes.{sizes_told}
use Rattle.cli_commands.proofs.PlainLines.{plain_utf8}

-- ---- digits

digit_plain : (c v : ℕ) → hex_digit_value c ≡ Some v → is_plain c ≡ true
digit_plain c v h = grind (arith, nat_tests)

hex_plain : (c : ℕ) → is_hex_digit c ≡ true → is_plain c ≡ true
hex_plain c h = grind (arith, nat_tests)

decimal_plain : (c : ℕ) → is_ascii_digit c ≡ true → is_plain c ≡ true
decimal_plain c h = grind (arith, nat_tests)

all_hex : (words : List ℕ) → list_all is_hex_digit words ≡ true → are_plain words ≡ true
all_hex [] h = refl
all_hex (c ∷ cs) h =
    let parts = both_true (is_hex_digit c) (list_all is_hex_digit cs) h in
    and_true _ _ (hex_plain c parts.0) (all_hex cs parts.1)

all_decimal : (words : List ℕ) → list_all is_ascii_digit words ≡ true → are_plain words ≡ true
all_decimal [] h = refl
all_decimal (c ∷ cs) h =
    let parts = both_true (is_ascii_digit c) (list_all is_ascii_digit cs) h in
    and_true _ _ (decimal_plain c parts.0) (all_decimal cs parts.1)

-- ---- bytes and pairs

both_plain : (high low : ℕ) (x y : Option ℕ) (b : ℕ) → hex_digit_value high ≡ x → hex_digit_value low ≡ y → byte_from x y ≡ Some b → are_plain (high ∷ low ∷ []) ≡ true
both_plain high low (Some x) (Some y) b p q h = and_true _ _ (digit_plain high x p) (and_true _ _ (digit_plain low y q) refl)
both_plain high low None y b p q h = absurd cc
both_plain high low (Some x) None b p q h = absurd cc

byte_plain : (words : List ℕ) (b : ℕ) → byte_told words ≡ Some b → are_plain words ≡ true
byte_plain [] b h = absurd cc
byte_plain (high ∷ []) b h = absurd cc
byte_plain (high ∷ low ∷ []) b h = both_plain high low _ _ b refl refl h
byte_plain (high ∷ low ∷ more ∷ rest) b h = absurd cc

from_pair : (x y : Option ℕ) (pair : ℕ × ℕ) → pair_from x y ≡ Some pair → ((m : ℕ) × (x ≡ Some m)) × ((n : ℕ) × (y ≡ Some n))
from_pair (Some m) (Some n) pair h = ((m, refl), (n, refl))
from_pair None y pair h = absurd cc
from_pair (Some m) None pair h = absurd cc

pair_plain : (words : List ℕ) (pair : ℕ × ℕ) → pair_told words ≡ Some pair → are_plain words ≡ true
pair_plain [] pair h = absurd cc
pair_plain (a ∷ []) pair h = absurd cc
pair_plain (a ∷ b ∷ []) pair h = absurd cc
pair_plain (a ∷ b ∷ s ∷ []) pair h = absurd cc
pair_plain (a ∷ b ∷ s ∷ c ∷ []) pair h = absurd cc
pair_plain (a ∷ b ∷ s ∷ c ∷ d ∷ e ∷ rest) pair h = absurd cc
pair_plain (a ∷ b ∷ s ∷ c ∷ d ∷ []) pair h =
    let kind = byte_told (a ∷ b ∷ []) in
    let value = byte_told (c ∷ d ∷ []) in
    elim (eqb s 0x3D) as (λ t. eqb s 0x3D ≡ t → cond t (pair_from kind value) None ≡ Some pair → are_plain (a ∷ b ∷ s ∷ c ∷ d ∷ []) ≡ true) [
      | true ↦ λ sign told.
          let both = from_pair kind value pair told in
          let first = byte_plain (a ∷ b ∷ []) both.0.0 both.0.1 in
          let last = byte_plain (c ∷ d ∷ []) both.1.0 both.1.1 in
          rw (eqb-true _ _ sign) (plain-append (a ∷ b ∷ []) (0x3D ∷ c ∷ d ∷ []) first last)
      | false ↦ λ sign told. absurd cc
    ] refl h

more_pairs : (first : Option (ℕ × ℕ)) (others : Option (List ℕ)) (pairs : List ℕ) → pairs_more first others ≡ Some pairs → ((p : ℕ × ℕ) × (first ≡ Some p)) × ((ps : List ℕ) × (others ≡ Some ps))
more_pairs (Some p) (Some ps) pairs h = ((p, refl), (ps, refl))
more_pairs None others pairs h = absurd cc
more_pairs (Some p) None pairs h = absurd cc

pairs_plain : (words pairs : List ℕ) → pairs_told words ≡ Some pairs → are_plain words ≡ true
pairs_plain [] pairs h = refl
pairs_plain (z ∷ []) pairs h = absurd cc
pairs_plain (z ∷ a ∷ []) pairs h = absurd cc
pairs_plain (z ∷ a ∷ b ∷ []) pairs h = absurd cc
pairs_plain (z ∷ a ∷ b ∷ s ∷ []) pairs h = absurd cc
pairs_plain (z ∷ a ∷ b ∷ s ∷ c ∷ []) pairs h = absurd cc
pairs_plain (z ∷ a ∷ b ∷ s ∷ c ∷ d ∷ rest) pairs h =
    elim (eqb z 0x20) as (λ t. eqb z 0x20 ≡ t → cond t (pairs_more (pair_told (a ∷ b ∷ s ∷ c ∷ d ∷ [])) (pairs_told rest)) None ≡ Some pairs → are_plain (z ∷ a ∷ b ∷ s ∷ c ∷ d ∷ rest) ≡ true) [
      | true ↦ λ space told.
          let both = more_pairs (pair_told (a ∷ b ∷ s ∷ c ∷ d ∷ [])) (pairs_told rest) pairs told in
          rw (eqb-true _ _ space) (plain-append (a ∷ b ∷ s ∷ c ∷ d ∷ []) rest (pair_plain (a ∷ b ∷ s ∷ c ∷ d ∷ []) both.0.0 both.0.1) (pairs_plain rest both.1.0 both.1.1))
      | false ↦ λ space told. absurd cc
    ] refl h

-- ---- numbers, texts and characters

numeral_plain : (words : List ℕ) → is_numeral words ≡ true → are_plain words ≡ true
numeral_plain [] h = absurd cc
numeral_plain (c ∷ []) h = all_decimal (c ∷ []) h
numeral_plain (c ∷ d ∷ ds) h = all_decimal (c ∷ d ∷ ds) (both_true _ _ h).1

number_plain : (words : List ℕ) (n : ℕ) → number_told words ≡ Some n → are_plain words ≡ true
number_plain words n h =
    elim (is_numeral words) as (λ t. is_numeral words ≡ t → cond t (number_from (digits_value 10 words)) None ≡ Some n → are_plain words ≡ true) [
      | true ↦ λ is told. numeral_plain words is
      | false ↦ λ is told. absurd cc
    ] refl h

pub run_plain : (words run : List ℕ) → decode_of words ≡ Ok run → are_plain words ≡ true
run_plain words run h = all_hex words (list_all-from_AllPass is_hex_digit words (decode_of-ok words run h).1)

character_plain : (words : List ℕ) (character : _) → IsCharacter character words → are_plain words ≡ true
character_plain words character (is, inl named) = rw named.1.1 (plain-append (codes "GE ") named.1.0 refl (byte_plain named.1.0 _ named.1.2))
character_plain words character (is, inr alone) = byte_plain words _ alone.1

-- two parts with a space between them
abbrev is_space : ℕ → Bool
is_space b = b == 0x20

abbrev cut_by : List ℕ → Option ℕ → Option (List ℕ × List ℕ)
cut_by words place = option_map (λ (n : ℕ). (take n words, drop (n + 1) words)) place

cut_there : (words first rest : List ℕ) (place : Option ℕ) → position is_space words ≡ place → cut_by words place ≡ Some (first, rest)
    → are_plain first ≡ true → are_plain rest ≡ true → are_plain words ≡ true
cut_there words first rest None is told before after = absurd cc
cut_there words first rest (Some n) is told before after =
    let found = position-Some is_space words n 0 is in
    let parts : (take n words, drop (n + 1) words) ≡ (first, rest) = cc in
    let front : take n words ≡ first = ap (λ (p : List ℕ × List ℕ). p.0) parts in
    let back : drop (n + 1) words ≡ rest = ap (λ (p : List ℕ × List ℕ). p.1) parts in
    let cut : drop n words ≡ get_or words n 0 ∷ drop (n + 1) words = drop_more words n 0 found.0 in
    let at : get_or words n 0 ≡ 0x20 = eqb-true (get_or words n 0) 0x20 found.1 in
    subst (λ (w : List ℕ). are_plain w ≡ true) (take-append-drop n words) (rw (cut, at, front, back) (plain-append first (0x20 ∷ rest) before after))

cut_plain : (words first rest : List ℕ) → cut_at 0x20 words ≡ Some (first, rest) → are_plain first ≡ true → are_plain rest ≡ true → are_plain words ≡ true
cut_plain words first rest told before after = cut_there words first rest (position is_space words) refl told before after

-- ---- lines

-- a plain line whose first character is a capital letter
record IsWord (line : List ℕ) : Type 0 where
  plain : are_plain line ≡ true
  first : ℕ
  others : List ℕ
  is : line ≡ first ∷ others
  letter : (65 ≤ first) × (first ≤ 90)

carried : (line : List ℕ) (first : ℕ) (name words : List ℕ) → line ≡ (first ∷ name) ++ words → are_plain (first ∷ name) ≡ true → are_plain words ≡ true → 65 ≤ first → first ≤ 90 → IsWord line
carried line first name words is named said least most =
    record { plain = rw is (plain-append (first ∷ name) words named said); first = first; others = name ++ words; is = is; letter = (least, most) }

said_word : (line : List ℕ) (told : Told) → Says line told → IsWord line
said_word line (command (Write wcc)) (w, is, code) = carried line 87 (codes " ") w is refl (byte_plain w _ code) (omega arith) (omega arith)
said_word line (command (EraseWrite wcc)) (w, is, code) = carried line 69 (codes "W ") w is refl (byte_plain w _ code) (omega arith) (omega arith)
said_word line (command (EraseWriteAlternate wcc)) (w, is, code) = carried line 69 (codes "WA ") w is refl (byte_plain w _ code) (omega arith) (omega arith)
said_word line (command EraseAllUnprotected) is = carried line 69 (codes "AU") [] is refl refl (omega arith) (omega arith)
said_word line (command ReadBuffer) is = carried line 82 (codes "B") [] is refl refl (omega arith) (omega arith)
said_word line (command ReadModified) is = carried line 82 (codes "M") [] is refl refl (omega arith) (omega arith)
said_word line (command ReadModifiedAll) is = carried line 82 (codes "MA") [] is refl refl (omega arith) (omega arith)
said_word line (command NoOperation) is = carried line 78 (codes "OP") [] is refl refl (omega arith) (omega arith)
said_word line (order (text run)) (w, is, digits) = carried line 84 (codes "EXT ") w is refl (run_plain w run digits.0) (omega arith) (omega arith)
said_word line (order (start_field attribute)) (small, (w, is, code)) = carried line 83 (codes "F ") w is refl (byte_plain w _ code) (omega arith) (omega arith)
said_word line (order (start_field_extended pairs)) (w, is, all) = carried line 83 (codes "FE") w is refl (pairs_plain w pairs all) (omega arith) (omega arith)
said_word line (order (set_buffer_address address)) (w, is, n) = carried line 83 (codes "BA ") w is refl (number_plain w _ n) (omega arith) (omega arith)
said_word line (order (set_attribute kind value)) (w, is, pair) = carried line 83 (codes "A ") w is refl (pair_plain w _ pair) (omega arith) (omega arith)
said_word line (order (modify_field pairs)) (w, is, all) = carried line 77 (codes "F") w is refl (pairs_plain w pairs all) (omega arith) (omega arith)
said_word line (order insert_cursor) is = carried line 73 (codes "C") [] is refl refl (omega arith) (omega arith)
said_word line (order program_tab) is = carried line 80 (codes "T") [] is refl refl (omega arith) (omega arith)
said_word line (order (repeat_to_address address character)) (w, is, parts) =
    carried line 82 (codes "A ") w is refl (cut_plain w parts.0 parts.1 parts.2 (number_plain parts.0 address parts.3) (character_plain parts.1 character parts.4)) (omega arith) (omega arith)
said_word line (order (erase_unprotected_to_address address)) (w, is, n) = carried line 69 (codes "UA ") w is refl (number_plain w _ n) (omega arith) (omega arith)
said_word line (order (graphic_escape code)) (w, is, byte) = carried line 71 (codes "E ") w is refl (byte_plain w _ byte) (omega arith) (omega arith)

no_sizes : (size_line : SizeLine) (first : ℕ) (others : List ℕ) → first ≤ 90 → sizes_told size_line (first ∷ others) ≡ None
no_sizes Refused first others most = refl
no_sizes Allowed first others most =
    let differs : eqb 115 first ≡ false = ne_eqb 115 first (λ same. omega arith) in
    rw differs refl

by_first : (size_line : SizeLine) (first : ℕ) (others : List ℕ) (told : Told) → 65 ≤ first → first ≤ 90 → told_of (first ∷ others) ≡ Some told → text_told size_line (first ∷ others) ≡ drafts.words told
by_first size_line first others told least most is =
    let differs : eqb first 0x23 ≡ false = ne_eqb _ _ (λ same. omega arith) in
    rw (differs, no_sizes size_line first others most, is) refl

-- a line that says a command or an order tells it
pub word_told : (size_line : SizeLine) (line : List ℕ) (told : Told) → told_of line ≡ Some told → drafts.words told ≡ line_told size_line line
unfolding line_told
word_told size_line line told is =
    let word = said_word line told ((tells_what_is_said line told).0 is) in
    let text = plain_utf8 line word.plain in
    rw text (sym (subst (λ l. text_told size_line l ≡ drafts.words told) (sym word.is) (by_first size_line word.first word.others told word.letter.0 word.letter.1 (subst (λ l. told_of l ≡ Some told) word.is is))))
