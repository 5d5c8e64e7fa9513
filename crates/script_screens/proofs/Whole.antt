-- Texts without a line's end.
use Rattle.std.proofs.Common.{◌≡◌, ◌<◌, ◌+◌, ◌-◌, ◌/◌, ◌%◌, ℕ, zero, suc, Bool, true, false, cond, List, [], ◌∷◌, ◌++◌, map, codes, Option, Some, None, refl, sym, ap, ◌∙◌, arith, true≢false}
use Rattle.std.specs.Prelude.{◌&&◌, not, ◌==◌, nat_lt, nat_le, slice_index, if◌then◌else◌}
use Rattle.std.specs.List.{list_all, range_with_len, flat_map}
use Rattle.std.specs.Fmt.{decimal, digits, digits_onto, digit_glyph}
use Rattle.std.proofs.lemmas.Bool.{ne_eqb, leb-true}
use Rattle.std.proofs.lemmas.List.Folds.{list_all-append}
use Rattle.std.proofs.lemmas.List.Concat.{flat_map-cons}
use Rattle.ds_codec.specs.declared.cell.Cell.{Cell}
use Rattle.ds_codec.specs.declared.cell.Cell.TheVariants.{Field, Char}
use Rattle.ds_codec.specs.Attribute.{is_hidden}
use Rattle.ds_codec.specs.Character.{Glyph}
use Rattle.script_screens.specs.declared.code_page.TheConstants.{CHARACTERS}
use Rattle.script_screens.specs.declared.code_page.CodePage.{CodePage}
use Rattle.script_screens.specs.declared.shown.Form.{Form}
use Rattle.script_screens.specs.declared.shown.Form.TheVariants as forms
use Rattle.script_screens.specs.Characters.{of_page, character_of}
use Rattle.script_screens.specs.Shown.{shown_code, shown_character, utf8, shown_bytes, hex_byte, byte_digits, number_digits, attribute_words, code_words, cell_text, separator}
use Rattle.script_screens.specs.Laws.{is_whole, are_whole}
use Rattle.script_screens.proofs.Codes.{below}

pub and_true : (a b : Bool) → a ≡ true → b ≡ true → (a && b) ≡ true
and_true true b p q = q
and_true false b p q = p

pub either_way : {A : Type 0} (P : A → Type 0) (test : Bool) (y z : A) → P y → P z → P (cond test y z)
either_way P true y z p q = p
either_way P false y z p q = q

-- ---- put together

pub join : (xs ys : List ℕ) → is_whole xs ≡ true → is_whole ys ≡ true → is_whole (xs ++ ys) ≡ true
join xs ys first second = list_all-append (λ byte. not (byte == 10)) xs ys ∙ and_true _ _ first second

pub flat : {X : Type 0} (f : X → List ℕ) (xs : List X) → ((x : X) → is_whole (f x) ≡ true) → is_whole (flat_map f xs) ≡ true
flat f [] each = refl
flat f (x ∷ xs) each = ap is_whole (flat_map-cons f x xs) ∙ join (f x) (flat_map f xs) (each x) (flat f xs each)

pub all : {X : Type 0} (f : X → List ℕ) (xs : List X) → ((x : X) → is_whole (f x) ≡ true) → are_whole (map f xs) ≡ true
all f [] each = refl
all f (x ∷ xs) each = and_true _ _ (each x) (all f xs each)

pub five : (a b c d e : List ℕ) → is_whole a ≡ true → is_whole b ≡ true → is_whole c ≡ true → is_whole d ≡ true → is_whole e ≡ true
    → is_whole (a ++ (b ++ (c ++ (d ++ e)))) ≡ true
five a b c d e first second third fourth fifth =
    join a (b ++ (c ++ (d ++ e))) first (join b (c ++ (d ++ e)) second (join c (d ++ e) third (join d e fourth fifth)))

-- ---- bytes

other : (n : ℕ) → 10 < n → not (n == 10) ≡ true
other n more = ap not (ne_eqb n 10 (λ is. omega (arith, more, is)))

past : (a n : ℕ) → 10 < a → not (a + n == 10) ≡ true
past a n more = other (a + n) (omega (arith, more))

glyph_whole : (d : ℕ) → not (digit_glyph false d == 10) ≡ true
glyph_whole d = either_way (λ n. not (n == 10) ≡ true) (nat_lt d 10) (48 + d) (87 + d) (other (48 + d) (omega arith)) (other (87 + d) (omega arith))

pub hex_whole : (byte : ℕ) → is_whole (hex_byte byte) ≡ true
hex_whole byte = and_true _ _ (glyph_whole (byte / 16)) (and_true _ _ (glyph_whole (byte % 16)) refl)

digits_whole : (k n : ℕ) (acc : List ℕ) → is_whole acc ≡ true → is_whole (digits_onto k 10 false n acc) ≡ true
digits_whole zero n acc whole = whole
digits_whole (suc k) n acc whole =
    let one : is_whole (digit_glyph false (n % 10) ∷ acc) ≡ true = and_true _ _ (glyph_whole (n % 10)) whole in
    either_way (λ text. is_whole text ≡ true) (n / 10 == 0) (digit_glyph false (n % 10) ∷ acc) (digits_onto k 10 false (n / 10) (digit_glyph false (n % 10) ∷ acc))
    one (digits_whole k (n / 10) (digit_glyph false (n % 10) ∷ acc) one)

pub decimal_whole : (n : ℕ) → is_whole (decimal n) ≡ true
unfolding digits
decimal_whole n = digits_whole 64 n [] refl

-- ---- characters

-- a character that is shown is no line's end
abbrev OptionWhole : Option ℕ → Type 0
OptionWhole None = Unit {0}
OptionWhole (Some character) = not (character == 10) ≡ true

no_end_in_table : list_all (λ k. not (slice_index CHARACTERS k == 10)) (range_with_len 0 191) ≡ true
no_end_in_table = refl

within : (code : ℕ) (a b : Bool) → (a && b) ≡ true → (a ≡ true) × (b ≡ true)
within code true true both = (refl, refl)
within code false b both = absurd (true≢false (sym both))
within code true false both = absurd (true≢false (sym both))

in_table : (code : ℕ) (test : Bool) → test ≡ (nat_le 0x40 code && nat_le code 0xFE) → OptionWhole (if test then Some (slice_index CHARACTERS (code - 0x40)) else None)
in_table code false is = tt
in_table code true is =
    let bounds = within code (nat_le 0x40 code) (nat_le code 0xFE) (sym is) in
    below (λ k. not (slice_index CHARACTERS k == 10)) 191 (code - 0x40) no_end_in_table (let most = leb-true code 0xFE bounds.1 in omega (arith, most))

character_whole : (page : CodePage) (code : ℕ) → OptionWhole (character_of page code)
unfolding character_of
character_whole page code = in_table (of_page page code) (nat_le 0x40 (of_page page code) && nat_le (of_page page code) 0xFE) refl

shown_code_whole : (page : CodePage) (code : ℕ) → OptionWhole (shown_code page code)
unfolding shown_code
shown_code_whole page code =
    either_way OptionWhole (code == 0x1C) (Some 0x2A) _ refl (either_way OptionWhole (code == 0x1E) (Some 0x3B) _ refl
    (either_way OptionWhole (code == 0x3F) (Some 0x25A0) _ refl (either_way OptionWhole (code == 0xFF) (Some 0x25CF) (character_of page code) refl (character_whole page code))))

shown_whole : (page : CodePage) (character : Glyph) → OptionWhole (shown_character page character)
shown_whole page character = either_way OptionWhole character.alt (Some 0x3F) (shown_code page character.code) refl (shown_code_whole page character.code)

utf8_whole : (character : ℕ) → not (character == 10) ≡ true → is_whole (utf8 character) ≡ true
utf8_whole character whole =
    either_way (λ text. is_whole text ≡ true) (nat_lt character 0x80) (character ∷ [])
    (cond (nat_lt character 0x800) ((0xC0 + character / 64 % 32) ∷ (0x80 + character % 64) ∷ [])
    ((0xE0 + character / 4096 % 16) ∷ (0x80 + character / 64 % 64) ∷ (0x80 + character % 64) ∷ [])) (and_true _ _ whole refl)
    (either_way (λ text. is_whole text ≡ true) (nat_lt character 0x800) ((0xC0 + character / 64 % 32) ∷ (0x80 + character % 64) ∷ [])
    ((0xE0 + character / 4096 % 16) ∷ (0x80 + character / 64 % 64) ∷ (0x80 + character % 64) ∷ [])
    (and_true _ _ (past 0xC0 (character / 64 % 32) (omega arith)) (and_true _ _ (past 0x80 (character % 64) (omega arith)) refl))
    (and_true _ _ (past 0xE0 (character / 4096 % 16) (omega arith)) (and_true _ _ (past 0x80 (character / 64 % 64) (omega arith))
    (and_true _ _ (past 0x80 (character % 64) (omega arith)) refl))))

bytes_whole : (shown : Option ℕ) → OptionWhole shown → is_whole (shown_bytes shown) ≡ true
bytes_whole None whole = refl
bytes_whole (Some character) whole = utf8_whole character whole

byte_digits_whole : (shown : Option ℕ) → is_whole (byte_digits shown) ≡ true
byte_digits_whole None = refl
byte_digits_whole (Some character) = flat hex_byte (utf8 character) hex_whole

number_digits_whole : (shown : Option ℕ) → is_whole (number_digits shown) ≡ true
number_digits_whole None = refl
number_digits_whole (Some character) = join (hex_byte (character / 256 % 256)) (hex_byte (character % 256)) (hex_whole (character / 256 % 256)) (hex_whole (character % 256))

attribute_whole : (bits : ℕ) → is_whole (attribute_words bits) ≡ true
attribute_whole bits = join (codes "SF(c0=") (hex_byte (0xC0 + bits) ++ codes ")") refl (join (hex_byte (0xC0 + bits)) (codes ")") (hex_whole (0xC0 + bits)) refl)

code_whole : (character : Glyph) → is_whole (code_words character) ≡ true
code_whole character =
    either_way (λ text. is_whole text ≡ true) character.alt (codes "GE(" ++ (hex_byte character.code ++ codes ")")) (hex_byte character.code)
    (join (codes "GE(") (hex_byte character.code ++ codes ")") refl (join (hex_byte character.code) (codes ")") (hex_whole character.code) refl)) (hex_whole character.code)

pub cell_whole : (page : CodePage) (form : Form) (bits : ℕ) (cell : Cell) → is_whole (cell_text page form bits cell) ≡ true
cell_whole page forms.Ascii bits (Field attribute) = refl
cell_whole page forms.Ascii bits (Char character) =
    either_way (λ text. is_whole text ≡ true) (is_hidden bits) (codes " ") (shown_bytes (shown_character page character)) refl
    (bytes_whole (shown_character page character) (shown_whole page character))
cell_whole page forms.Ebcdic bits (Field attribute) = hex_whole 0
cell_whole page forms.Ebcdic bits (Char character) = hex_whole character.code
cell_whole page forms.BufferAscii bits (Field attribute) = attribute_whole attribute
cell_whole page forms.BufferAscii bits (Char character) = byte_digits_whole (shown_character page character)
cell_whole page forms.BufferUnicode bits (Field attribute) = attribute_whole attribute
cell_whole page forms.BufferUnicode bits (Char character) = number_digits_whole (shown_character page character)
cell_whole page forms.BufferEbcdic bits (Field attribute) = attribute_whole attribute
cell_whole page forms.BufferEbcdic bits (Char character) = code_whole character

pub separator_whole : (form : Form) → is_whole (separator form) ≡ true
separator_whole forms.Ascii = refl
separator_whole forms.Ebcdic = refl
separator_whole forms.BufferAscii = refl
separator_whole forms.BufferUnicode = refl
separator_whole forms.BufferEbcdic = refl
