-- The text of a map's layout is read as the layout that it declares.
use Rattle.std.proofs.Common.{◌≡◌, ℕ, zero, suc, ◌+◌, ◌*◌, ◌/◌, ◌%◌, ◌^◌, ◌<◌, ◌≤◌, inl, inr, Bool, true, false, ◌&&◌, ◌||◌, not, ◌==◌, nat_le, cond, IsTrue, List, [], ◌∷◌, ◌++◌, codes, decimal, length, map, append_assoc, Option, Some, None, is_some, pos, refl, sym, ◌∙◌, ap, subst, arith}
use Rattle.std.specs.List.{list_all, flat_map, filter}
use Rattle.std.specs.Fmt.{digits, digits_onto, digit_glyph}
use Rattle.std.proofs.lemmas.Bool.{false≢true, and_parts, cond-false}
use Rattle.std.proofs.lemmas.List.Folds.{list_all-append}
use Rattle.std.proofs.lemmas.Fmt.{decimal_digit, decimal_step}
use Rattle.std.proofs.lemmas.Nat.{div-add-mod', div_below, mod_below}
use Rattle.std.proofs.lemmas.Str.{encode_ascii}
use Rattle.toml_parser.specs.Lexical.{is_non_eol, skip_blank}
use Rattle.toml_parser.specs.Strings.{Key}
use Rattle.toml_parser.proofs.LexicalLemmas.{skip_from-nil}
use Rattle.toml.specs.Data.{Data, string, integer, array, table, Items, no_items, item, push_item, Members, no_members, member}
use Rattle.toml.specs.Tables.{Nodes, no_nodes, node, value, open_array, close, Document, Expression, define, along_header, along_dots, at_key, key_value, array_table}
use Rattle.toml.specs.Parse.{skip_bom, lines, parse_document}
use Rattle.toml.proofs.Turns.{document_some}
use Rattle.toml.proofs.ReadLines.{run, AllPrinted}
use Rattle.toml.proofs.ReadValues.{item_join, item_join-none, item_join-push}
use Rattle.ds_codec.specs.declared.size.Size.{Size}
use Rattle.ds_codec.specs.Geometry.{Sizes}
use Rattle.ds_codec.proofs.Below.{each_below}
use Rattle.bms_source.specs.Printed.{printed_codes}
use Rattle.bms_source.specs.Words.{is_of_symbol, begins_symbol}
use Rattle.bms_map.specs.Fit.{Each, IsScreen, cells_on, IsFit}
use Rattle.bms_map.specs.LayoutText.{lower, numbered, place_of, kind_word, label_text, comment, entry_text, entry_if, screen_word, top_lines, layout_text}
use Rattle.bms_map.specs.Maps.{Shown, Sheet, default_rows}
use Rattle.bms_map.specs.Overlaps.{is_declared, is_input}
use Rattle.bms_map.proofs.MapsetLaws.{maps_are_fit}
use Rattle.scr_layout.specs.declared.fault.LayoutKey.TheVariants as layout_key
use Rattle.scr_layout.specs.Entry.{Declared, is_name_byte, is_name}
use Rattle.scr_layout.specs.Top.{top_keys, numbered_version}
use Rattle.scr_layout.specs.Values.{has_only}
use Rattle.scr_layout.specs.Says.{IsAbsent, HasText, SaysKind, SaysBlock, SayEntries, SaysFields, SaysScreen, TextSays}
use Rattle.scr_layout.specs.SizeText.{size_text}
use Rattle.scr_layout.proofs.ReadLaw.{layout_of-read}
use Rattle.scr_draft.proofs.NameLaws.{decimal_bytes, either_way}
use Rattle.scr_draft.proofs.LineLaws.{skip_comment, text_line, number_line, text_is, number_is, header_is, AreLines, one_line, one_commented, read_lines}
use Rattle.cli_maps.specs.Screen.{sizes_of}
use Rattle.cli_maps.specs.Layouts.{kind_if, name_of, entry_of, declared_fields, declaration_of, IsRead, LayoutsAreRead}
use Rattle.cli_maps.proofs.DeclaredLaws.{IsDeclaredOn, all_declared, place_inside, named_well, is_layout}

-- ---- a comment
abbrev IsPrinted : List ℕ → Type 0
IsPrinted text = list_all is_non_eol text ≡ true

and_two : (a b : Bool) → a ≡ true → b ≡ true → (a && b) ≡ true
and_two true b one other = other
and_two false b one other = absurd cc

printed_append : (xs ys : List ℕ) → IsPrinted xs → IsPrinted ys → IsPrinted (xs ++ ys)
printed_append xs ys one other = list_all-append is_non_eol xs ys ∙ and_two (list_all is_non_eol xs) (list_all is_non_eol ys) one other

digit_printed : (d : ℕ) → d < 10 → is_non_eol (digit_glyph false d) ≡ true
digit_printed d small = each_below (λ n. is_non_eol (digit_glyph false n)) 10 d refl small

digits_printed : (k n : ℕ) (acc : List ℕ) → IsPrinted acc → IsPrinted (digits_onto k 10 false n acc)
digits_printed zero n acc all = all
digits_printed (suc k) n acc all =
    let one : IsPrinted (digit_glyph false (n % 10) ∷ acc) = and_two (is_non_eol (digit_glyph false (n % 10))) (list_all is_non_eol acc) (digit_printed (n % 10) (mod_below n 10 (omega arith))) all in
    elim (n / 10 == 0) as (λ b. IsPrinted (cond b (digit_glyph false (n % 10) ∷ acc) (digits_onto k 10 false (n / 10) (digit_glyph false (n % 10) ∷ acc)))) [
      | true ↦ one
      | false ↦ digits_printed k (n / 10) (digit_glyph false (n % 10) ∷ acc) one
    ]

decimal_printed : (n : ℕ) → IsPrinted (decimal n)
unfolding digits
decimal_printed n = digits_printed 64 n [] refl

small_symbol : (c : ℕ) → is_of_symbol c ≡ true → c < 128
unfolding begins_symbol
small_symbol c e = grind (arith, e)

symbol_printed : (c : ℕ) → is_of_symbol c ≡ true → is_non_eol c ≡ true
unfolding begins_symbol
symbol_printed c e = either_way (is_of_symbol c) (is_non_eol c) (each_below (λ b. not (is_of_symbol b) || is_non_eol b) 128 c refl (small_symbol c e)) e

label_printed : (label : List ℕ) → list_all is_of_symbol label ≡ true → IsPrinted (printed_codes label)
label_printed [] all = refl
label_printed (c ∷ cs) all =
    let parts = and_parts (is_of_symbol c) (list_all is_of_symbol cs) all in
    subst (λ (l : List ℕ). IsPrinted (l ++ printed_codes cs)) (sym (encode_ascii c (small_symbol c parts.0)))
    (and_two (is_non_eol c) (list_all is_non_eol (printed_codes cs)) (symbol_printed c parts.0) (label_printed cs parts.1))

number_printed : (n : ℕ) → IsPrinted (numbered (codes "(") (codes ")") n)
number_printed n = elim (n == 0) as (λ b. IsPrinted (cond b [] (codes "(" ++ (decimal n ++ codes ")")))) [
  | true ↦ refl
  | false ↦ printed_append (decimal n) (codes ")") (decimal_printed n) refl
]

not_zero : (m : ℕ) → 1 ≤ m → (m == 0) ≡ false
not_zero m some = grind (arith, some)

told_printed : (it : Sheet) (field : Shown) → IsDeclaredOn it field → IsPrinted (label_text field)
told_printed it field is =
    subst IsPrinted (sym (cond-false (length field.label == 0) _ (printed_codes field.label ++ numbered (codes "(") (codes ")") field.occurrence) (not_zero (length field.label) is.label)))
    (printed_append (printed_codes field.label) (numbered (codes "(") (codes ")") field.occurrence) (label_printed field.label is.named.symbol) (number_printed field.occurrence))

comment_skipped : (it : Sheet) (field : Shown) (rest : List ℕ) → IsDeclaredOn it field → skip_blank (comment field ++ rest) ≡ skip_blank rest
comment_skipped it field rest is =
    let words = label_text field in
    let number = decimal field.line in
    ap skip_blank (grouped words number) ∙ skip_comment (32 ∷ (words ++ (codes ", line " ++ number))) rest
    (printed_append words (codes ", line " ++ number) (told_printed it field is) (decimal_printed field.line))
  where
    grouped : (words number : List ℕ) → (codes "# " ++ (words ++ (codes ", line " ++ (number ++ codes "\n")))) ++ rest ≡ 35 ∷ ((32 ∷ (words ++ (codes ", line " ++ number))) ++ 10 ∷ rest)
    grouped words number = simp append_assoc refl

-- ---- the lines of a field
abbrev key : List ℕ → Key
key k = ([], k)

abbrev row_of : Sheet → Shown → ℕ
row_of it d = place_of it d / it.area.screen.cols + 1

abbrev col_of : Sheet → Shown → ℕ
col_of it d = place_of it d % it.area.screen.cols + 1

abbrev word_of : Shown → List ℕ
word_of d = kind_word (is_input d)

abbrev block : Sheet → Shown → List Expression
block it d =
    (key (codes "field"), array_table) ∷ (key (codes "name"), key_value (string (name_of d))) ∷ (key (codes "row"), key_value (integer (pos (row_of it d))))
    ∷ (key (codes "col"), key_value (integer (pos (col_of it d)))) ∷ (key (codes "length"), key_value (integer (pos d.length)))
    ∷ (key (codes "kind"), key_value (string (word_of d))) ∷ []

kind_bytes : (b : Bool) → list_all is_name_byte (kind_word b) ≡ true
kind_bytes true = refl
kind_bytes false = refl

name_bytes : (name : List ℕ) → is_name name ≡ true → list_all is_name_byte name ≡ true
name_bytes name is = (and_parts (nat_le 1 (length name) && nat_le (length name) 32) (list_all is_name_byte name) is).1

-- the lines from each key on
abbrev kind_pairs : Shown → List Expression → List Expression
kind_pairs d es = (key (codes "kind"), key_value (string (word_of d))) ∷ es

abbrev length_pairs : Shown → List Expression → List Expression
length_pairs d es = (key (codes "length"), key_value (integer (pos d.length))) ∷ kind_pairs d es

abbrev col_pairs : Sheet → Shown → List Expression → List Expression
col_pairs it d es = (key (codes "col"), key_value (integer (pos (col_of it d)))) ∷ length_pairs d es

abbrev row_pairs : Sheet → Shown → List Expression → List Expression
row_pairs it d es = (key (codes "row"), key_value (integer (pos (row_of it d)))) ∷ col_pairs it d es

abbrev name_pairs : Sheet → Shown → List Expression → List Expression
name_pairs it d es = (key (codes "name"), key_value (string (name_of d))) ∷ row_pairs it d es

abbrev kind_text : Shown → List ℕ → List ℕ
kind_text d rest = text_line (codes "kind") (word_of d) ++ (comment d ++ rest)

abbrev length_text : Shown → List ℕ → List ℕ
length_text d rest = number_line (codes "length") d.length ++ kind_text d rest

abbrev col_text : Sheet → Shown → List ℕ → List ℕ
col_text it d rest = number_line (codes "col") (col_of it d) ++ length_text d rest

abbrev row_text : Sheet → Shown → List ℕ → List ℕ
row_text it d rest = number_line (codes "row") (row_of it d) ++ col_text it d rest

abbrev name_text : Sheet → Shown → List ℕ → List ℕ
name_text it d rest = text_line (codes "name") (name_of d) ++ row_text it d rest

-- a field's text, as its lines
lines_joined : (label number row col size kind words rest : List ℕ)
    → ((codes "\n[[field]]\nname = \"" ++ (label ++ (number ++ codes "\"\n")))
    ++ ((codes "row = " ++ (row ++ (codes "\ncol = " ++ (col ++ (codes "\nlength = " ++ (size ++ codes "\n")))))) ++ ((codes "kind = \"" ++ (kind ++ codes "\"\n")) ++ words))) ++ rest
    ≡ codes "\n[[field]]\n" ++ ((codes "name" ++ (codes " = \"" ++ ((label ++ number) ++ codes "\"\n"))) ++ ((codes "row" ++ (codes " = " ++ (row ++ codes "\n")))
    ++ ((codes "col" ++ (codes " = " ++ (col ++ codes "\n"))) ++ ((codes "length" ++ (codes " = " ++ (size ++ codes "\n"))) ++ ((codes "kind" ++ (codes " = \"" ++ (kind ++ codes "\"\n"))) ++ (words ++ rest))))))
lines_joined label number row col size kind words rest = simp append_assoc refl

block_text : (it : Sheet) (d : Shown) (rest : List ℕ) → entry_text it d ++ rest ≡ codes "\n[[field]]\n" ++ name_text it d rest
block_text it d rest =
    lines_joined (printed_codes (map lower d.label)) (numbered (codes "-") [] d.occurrence) (decimal (row_of it d)) (decimal (col_of it d)) (decimal d.length) (word_of d) (comment d) rest

-- small numbers
record IsSmall (it : Sheet) (d : Shown) : Type 0 where
  row : place_of it d / it.area.screen.cols < it.area.screen.rows
  col : place_of it d % it.area.screen.cols < it.area.screen.cols
  rows : it.area.screen.rows ≤ 43
  cols : it.area.screen.cols ≤ 132
  few : d.length < 2 ^ 63

screen_small : (screen : Size) → IsScreen screen → (screen.rows ≤ 43) × (screen.cols ≤ 132) × (1 ≤ screen.cols) × (screen.rows * screen.cols ≤ 5676)
screen_small screen (inl is) = subst (λ (s : Size). (s.rows ≤ 43) × (s.cols ≤ 132) × (1 ≤ s.cols) × (s.rows * s.cols ≤ 5676)) (sym is) (omega arith, omega arith, omega arith, omega arith)
screen_small screen (inr (inl is)) = subst (λ (s : Size). (s.rows ≤ 43) × (s.cols ≤ 132) × (1 ≤ s.cols) × (s.rows * s.cols ≤ 5676)) (sym is) (omega arith, omega arith, omega arith, omega arith)
screen_small screen (inr (inr (inl is))) = subst (λ (s : Size). (s.rows ≤ 43) × (s.cols ≤ 132) × (1 ≤ s.cols) × (s.rows * s.cols ≤ 5676)) (sym is) (omega arith, omega arith, omega arith, omega arith)
screen_small screen (inr (inr (inr is))) = subst (λ (s : Size). (s.rows ≤ 43) × (s.cols ≤ 132) × (1 ≤ s.cols) × (s.rows * s.cols ≤ 5676)) (sym is) (omega arith, omega arith, omega arith, omega arith)

is_small : (it : Sheet) (d : Shown) → IsFit it → IsDeclaredOn it d → IsSmall it d
is_small it d fit is =
    let sizes = screen_small it.area.screen fit.ground.screen in
    let few = is.named.few in
    record {
      row = div_below (place_of it d) it.area.screen.cols it.area.screen.rows sizes.2 (place_inside it d fit is.on);
      col = mod_below (place_of it d) it.area.screen.cols sizes.2;
      rows = sizes.0;
      cols = sizes.1;
      few = omega (arith, few, sizes.3);
    }

length_on : (it : Sheet) (d : Shown) (es : List Expression) (rest : List ℕ) → IsDeclaredOn it d → IsSmall it d → AreLines true es rest → AreLines true (length_pairs d es) (length_text d rest)
length_on it d es rest is small others =
    one_line true (key (codes "length"), key_value (integer (pos d.length))) (kind_pairs d es) (number_line (codes "length") d.length) (kind_text d rest) (number_is true (codes "length") d.length refl small.few)
    (one_commented true (key (codes "kind"), key_value (string (word_of d))) es (text_line (codes "kind") (word_of d)) (comment d) rest
    (text_is true (codes "kind") (word_of d) refl (kind_bytes (is_input d))) (comment_skipped it d rest is) others)

row_on : (it : Sheet) (d : Shown) (es : List Expression) (rest : List ℕ) → IsDeclaredOn it d → IsSmall it d → AreLines true es rest → AreLines true (row_pairs it d es) (row_text it d rest)
row_on it d es rest is small others =
    let row = small.row in
    let col = small.col in
    let rows = small.rows in
    let cols = small.cols in
    one_line true (key (codes "row"), key_value (integer (pos (row_of it d)))) (col_pairs it d es) (number_line (codes "row") (row_of it d)) (col_text it d rest)
    (number_is true (codes "row") (row_of it d) refl (omega (arith, row, rows)))
    (one_line true (key (codes "col"), key_value (integer (pos (col_of it d)))) (length_pairs d es) (number_line (codes "col") (col_of it d)) (length_text d rest)
    (number_is true (codes "col") (col_of it d) refl (omega (arith, col, cols))) (length_on it d es rest is small others))

block_lines : (it : Sheet) (d : Shown) (es : List Expression) (rest : List ℕ) → IsFit it → IsDeclaredOn it d → AreLines true es rest → AreLines true (block it d ++ es) (entry_text it d ++ rest)
block_lines it d es rest fit is others =
    let all : AreLines true (block it d ++ es) (codes "\n[[field]]\n" ++ name_text it d rest) =
    one_line true (key (codes "field"), array_table) (name_pairs it d es) (codes "\n[[field]]\n") (name_text it d rest) header_is
    (one_line true (key (codes "name"), key_value (string (name_of d))) (row_pairs it d es) (text_line (codes "name") (name_of d)) (row_text it d rest)
    (text_is true (codes "name") (name_of d) refl (name_bytes (name_of d) (named_well (cells_on it.area) d is.label is.named))) (row_on it d es rest is (is_small it d fit is) others)) in
    subst (AreLines true (block it d ++ es)) (sym (block_text it d rest)) all

all_lines : (it : Sheet) → IsFit it → (ds : List Shown) → Each (IsDeclaredOn it) ds → AreLines true (flat_map (block it) ds) (flat_map (entry_text it) ds)
all_lines it fit [] each = skip_from-nil true false
all_lines it fit (d ∷ ds) each = block_lines it d (flat_map (block it) ds) (flat_map (entry_text it) ds) fit each.0 (all_lines it fit ds each.1)

-- the text has those that are declared alone
pub only_declared : (it : Sheet) (fields : List Shown) → flat_map (entry_if it) fields ≡ flat_map (entry_text it) (filter is_declared fields)
only_declared it [] = refl
only_declared it (field ∷ fields) =
    elim (is_declared field) as (λ b. cond b (entry_text it field) [] ++ flat_map (entry_if it) fields ≡ flat_map (entry_text it) (cond b (field ∷ filter is_declared fields) (filter is_declared fields))) [
      | true ↦ ap (λ (l : List ℕ). entry_text it field ++ l) (only_declared it fields)
      | false ↦ only_declared it fields
    ]

-- ---- the keys at the top
abbrev top_pairs : List ℕ → List ℕ → List ℕ → List Expression
top_pairs default alternate screen =
    (key (codes "default"), key_value (string default)) ∷ (key (codes "alternate"), key_value (string alternate)) ∷ (key (codes "screen"), key_value (string screen)) ∷ []

abbrev top_text : List ℕ → List ℕ → List ℕ → List ℕ → List ℕ
top_text default alternate screen rest =
    text_line (codes "default") default ++ (text_line (codes "alternate") alternate ++ (text_line (codes "screen") screen ++ rest))

word_bytes : (b : Bool) → list_all is_name_byte (screen_word b) ≡ true
word_bytes true = refl
word_bytes false = refl

size_bytes : (s : Size) → s.rows ≤ 43 → s.cols ≤ 132 → list_all is_name_byte (size_text s) ≡ true
size_bytes s rows cols =
    list_all-append is_name_byte (decimal s.rows) (120 ∷ decimal s.cols)
    ∙ ap (λ b. b && list_all is_name_byte (120 ∷ decimal s.cols)) (decimal_bytes s.rows (omega (arith, rows))) ∙ decimal_bytes s.cols (omega (arith, cols))

abbrev first_size : Size
first_size = record { rows = 24; cols = 80 }

first_text : codes "24x80" ≡ size_text first_size
first_text =
    sym (ap (λ (l : List ℕ). l ++ 120 ∷ decimal 80) (two_digits 24 2 4 refl refl (omega arith) (omega arith) (omega arith))
    ∙ ap (λ (l : List ℕ). (50 ∷ 52 ∷ []) ++ 120 ∷ l) (two_digits 80 8 0 refl refl (omega arith) (omega arith) (omega arith)))
  where
    two_digits : (n high low : ℕ) → n / 10 ≡ high → n % 10 ≡ low → 10 ≤ n → n < 2 ^ 64 → high < 10 → decimal n ≡ (48 + high) ∷ (48 + low) ∷ []
    two_digits n high low one two least most small =
        decimal_step n least most ∙ ap (λ m. decimal m ++ (48 + n % 10) ∷ []) one ∙ ap (λ (l : List ℕ). l ++ (48 + n % 10) ∷ []) (decimal_digit high small) ∙ ap (λ m. (48 + high) ∷ (48 + m) ∷ []) two

top_joined : (rows cols word rest : List ℕ)
    → ((codes "default = \"24x80\"\nalternate = \"" ++ (rows ++ (codes "x" ++ (cols ++ codes "\"\n")))) ++ (codes "screen = \"" ++ (word ++ codes "\"\n"))) ++ rest
    ≡ (codes "default" ++ (codes " = \"" ++ (codes "24x80" ++ codes "\"\n"))) ++ ((codes "alternate" ++ (codes " = \"" ++ ((rows ++ 120 ∷ cols) ++ codes "\"\n"))) ++ ((codes "screen" ++ (codes " = \"" ++ (word ++ codes "\"\n"))) ++ rest))
top_joined rows cols word rest = simp append_assoc refl

top_is : (it : Sheet) (rest : List ℕ) → top_lines it ++ rest ≡ top_text (size_text first_size) (size_text it.area.screen) (screen_word (it.area.screen.rows == default_rows)) rest
top_is it rest =
    top_joined (decimal it.area.screen.rows) (decimal it.area.screen.cols) (screen_word (it.area.screen.rows == default_rows)) rest
    ∙ ap (λ (l : List ℕ). top_text l (size_text it.area.screen) (screen_word (it.area.screen.rows == default_rows)) rest) first_text

keys_lines : (default alternate screen : List ℕ) (es : List Expression) (rest : List ℕ) → list_all is_name_byte default ≡ true → list_all is_name_byte alternate ≡ true → list_all is_name_byte screen ≡ true
    → AreLines true es rest → AreLines false (top_pairs default alternate screen ++ es) (top_text default alternate screen rest)
keys_lines default alternate screen es rest one two three others =
    let last : List Expression = (key (codes "screen"), key_value (string screen)) ∷ es in
    let last_text = text_line (codes "screen") screen ++ rest in
    one_line false (key (codes "default"), key_value (string default)) ((key (codes "alternate"), key_value (string alternate)) ∷ last) (text_line (codes "default") default) (text_line (codes "alternate") alternate ++ last_text)
    (text_is false (codes "default") default refl one)
    (one_line true (key (codes "alternate"), key_value (string alternate)) last (text_line (codes "alternate") alternate) last_text (text_is true (codes "alternate") alternate refl two)
    (one_line true (key (codes "screen"), key_value (string screen)) es (text_line (codes "screen") screen) rest (text_is true (codes "screen") screen refl three) others))

-- ---- what the lines define
abbrev field_nodes : Sheet → Shown → Nodes
field_nodes it d =
    node (codes "col") (value (integer (pos (col_of it d)))) (node (codes "kind") (value (string (word_of d)))
    (node (codes "length") (value (integer (pos d.length))) (node (codes "name") (value (string (name_of d)))
    (node (codes "row") (value (integer (pos (row_of it d)))) no_nodes))))

abbrev roots : List ℕ → List ℕ → Nodes → Nodes
roots default alternate others = node (codes "alternate") (value (string alternate)) (node (codes "default") (value (string default)) others)

abbrev screen_node : List ℕ → Nodes
screen_node screen = node (codes "screen") (value (string screen)) no_nodes

abbrev with_fields : List ℕ → Items → Nodes → Nodes
with_fields screen done last = node (codes "field") (open_array done last) (screen_node screen)

run_top : (default alternate screen : List ℕ) (es : List Expression) → run (no_nodes, []) (top_pairs default alternate screen ++ es) ≡ run (roots default alternate (screen_node screen), []) es
unfolding define along_header along_dots at_key
run_top default alternate screen es = refl

run_first : (default alternate screen : List ℕ) (it : Sheet) (d : Shown) (es : List Expression)
    → run (roots default alternate (screen_node screen), []) (block it d ++ es) ≡ run (roots default alternate (with_fields screen no_items (field_nodes it d)), codes "field" ∷ []) es
unfolding define along_header along_dots at_key
run_first default alternate screen it d es = refl

run_next : (default alternate screen : List ℕ) (done : Items) (last : Nodes) (it : Sheet) (d : Shown) (es : List Expression)
    → run (roots default alternate (with_fields screen done last), codes "field" ∷ []) (block it d ++ es)
    ≡ run (roots default alternate (with_fields screen (push_item done (table (close last))) (field_nodes it d)), codes "field" ∷ []) es
unfolding define along_header along_dots at_key
run_next default alternate screen done last it d es = refl

-- the tables of the fields
abbrev field_table : Sheet → Shown → Members
field_table it d =
    member (codes "col") (integer (pos (col_of it d))) (member (codes "kind") (string (word_of d))
    (member (codes "length") (integer (pos d.length)) (member (codes "name") (string (name_of d)) (member (codes "row") (integer (pos (row_of it d))) no_members))))

abbrev tables : Sheet → List Shown → Items
tables it [] = no_items
tables it (d ∷ ds) = item (table (field_table it d)) (tables it ds)

abbrev members_of : List ℕ → List ℕ → Members → Members
members_of default alternate others = member (codes "alternate") (string alternate) (member (codes "default") (string default) others)

abbrev screen_member : List ℕ → Members
screen_member screen = member (codes "screen") (string screen) no_members

abbrev field_member : List ℕ → Items → Members
field_member screen items = member (codes "field") (array items) (screen_member screen)

closed : (default alternate screen : List ℕ) (done : Items) (last : Nodes)
    → close (roots default alternate (with_fields screen done last)) ≡ members_of default alternate (field_member screen (push_item done (table (close last))))
closed default alternate screen done last = refl

pushed : (done : Items) (d : Data) → push_item done d ≡ item_join done (item d no_items)
pushed done d = sym (item_join-none (push_item done d)) ∙ item_join-push done d no_items

record Defines (doc : Document) (es : List Expression) (members : Members) : Type 0 where
  after : Document
  ran : run doc es ≡ Some after
  closes : close after.0 ≡ members

run_all : (default alternate screen : List ℕ) (it : Sheet) (done : Items) (last : Nodes) (ds : List Shown)
    → Defines (roots default alternate (with_fields screen done last), codes "field" ∷ []) (flat_map (block it) ds)
    (members_of default alternate (field_member screen (item_join done (item (table (close last)) (tables it ds)))))
run_all default alternate screen it done last [] =
    record {
      after = (roots default alternate (with_fields screen done last), codes "field" ∷ []);
      ran = refl;
      closes = closed default alternate screen done last ∙ ap (λ items. members_of default alternate (field_member screen items)) (pushed done (table (close last)));
    }
run_all default alternate screen it done last (d ∷ ds) =
    let more = run_all default alternate screen it (push_item done (table (close last))) (field_nodes it d) ds in
    record {
      after = more.after;
      ran = run_next default alternate screen done last it d (flat_map (block it) ds) ∙ more.ran;
      closes =
          more.closes
          ∙ ap (λ items. members_of default alternate (field_member screen items)) (item_join-push done (table (close last)) (item (table (field_table it d)) (tables it ds)));
    }

abbrev fields_member : List ℕ → Sheet → List Shown → Members
fields_member screen it [] = screen_member screen
fields_member screen it (d ∷ ds) = field_member screen (tables it (d ∷ ds))

run_layout : (default alternate screen : List ℕ) (it : Sheet) (ds : List Shown)
    → Defines (no_nodes, []) (top_pairs default alternate screen ++ flat_map (block it) ds) (members_of default alternate (fields_member screen it ds))
run_layout default alternate screen it [] =
    record {
      after = (roots default alternate (screen_node screen), []);
      ran = run_top default alternate screen [];
      closes = refl;
    }
run_layout default alternate screen it (d ∷ ds) =
    let more = run_all default alternate screen it no_items (field_nodes it d) ds in
    record {
      after = more.after;
      ran = run_top default alternate screen (flat_map (block it) (d ∷ ds)) ∙ run_first default alternate screen it d (flat_map (block it) ds) ∙ more.ran;
      closes = more.closes;
    }

-- ---- the text as TOML
blocks_printed : (it : Sheet) (ds : List Shown) → AllPrinted (flat_map (block it) ds)
blocks_printed it [] = tt
blocks_printed it (d ∷ ds) =
    (omega arith, ((refl, omega arith, refl), ((refl, omega arith, refl), ((refl, omega arith, refl), ((refl, omega arith, refl), ((refl, omega arith, refl), blocks_printed it ds))))))

top_printed : (default alternate screen : List ℕ) (es : List Expression) → AllPrinted es → AllPrinted (top_pairs default alternate screen ++ es)
top_printed default alternate screen es all = ((refl, omega arith, refl), ((refl, omega arith, refl), ((refl, omega arith, refl), all)))

no_mark : (default alternate screen rest : List ℕ) → skip_bom (top_text default alternate screen rest) ≡ top_text default alternate screen rest
unfolding skip_bom
no_mark default alternate screen rest = refl

abbrev word_for : Sheet → List ℕ
word_for it = screen_word (it.area.screen.rows == default_rows)

text_parses : (it : Sheet) → IsFit it → Each (IsDeclaredOn it) (declared_fields it)
    → parse_document (layout_text it) ≡ Some (members_of (size_text first_size) (size_text it.area.screen) (fields_member (word_for it) it (declared_fields it)))
text_parses it fit each =
    let ds = declared_fields it in
    let default = size_text first_size in
    let alternate = size_text it.area.screen in
    let screen = word_for it in
    let sizes = screen_small it.area.screen fit.ground.screen in
    let rest = flat_map (entry_text it) ds in
    let es = top_pairs default alternate screen ++ flat_map (block it) ds in
    let text = top_text default alternate screen rest in
    let are = keys_lines default alternate screen (flat_map (block it) ds) rest (size_bytes first_size (omega arith) (omega arith)) (size_bytes it.area.screen sizes.0 sizes.1)
    (word_bytes (it.area.screen.rows == default_rows)) (all_lines it fit ds each) in
    let defined = run_layout default alternate screen it ds in
    let ran : lines (suc (length text)) (no_nodes, []) (skip_bom text) ≡ Some defined.after =
    ap (lines (suc (length text)) (no_nodes, [])) (no_mark default alternate screen rest)
    ∙ read_lines false es text text (no_nodes, []) (suc (length text)) are (top_printed default alternate screen (flat_map (block it) ds) (blocks_printed it ds)) refl (omega arith)
    ∙ defined.ran in
    ap parse_document (ap (λ (l : List ℕ). top_lines it ++ l) (only_declared it it.fields) ∙ top_is it rest) ∙ document_some text defined.after ran ∙ ap (λ ms. Some ms) defined.closes

-- ---- what the table says
-- the value that is there
abbrev there : {A : Type 0} (o : Option A) → is_some o ≡ true → A
there (Some x) is = x
there None is = absurd (false≢true is)

kind_said : (it : Sheet) (d : Shown) (b : Bool) → SaysKind (member (codes "col") (integer (pos (col_of it d))) (member (codes "kind") (string (kind_word b))
    (member (codes "length") (integer (pos d.length)) (member (codes "name") (string (name_of d)) (member (codes "row") (integer (pos (row_of it d))) no_members))))) (kind_if b)
kind_said it d true = inr refl
kind_said it d false = refl

block_said : (it : Sheet) (d : Shown) → IsFit it → IsDeclaredOn it d → SaysBlock (there (numbered_version (Some 1)) refl) it.area.screen (field_table it d) (entry_of it d ∷ [])
block_said it d fit is =
    let small = is_small it d fit is in
    let whole : place_of it d / it.area.screen.cols * it.area.screen.cols + place_of it d % it.area.screen.cols ≡ place_of it d = div-add-mod' (place_of it d) it.area.screen.cols in
    record {
      name = name_of d;
      row = place_of it d / it.area.screen.cols;
      col = place_of it d % it.area.screen.cols;
      length = d.length;
      kind = kind_if (is_input d);
      rows = None;
      keys = refl;
      is_named = (refl, named_well (cells_on it.area) d is.label is.named);
      is_placed = (refl, refl, small.row, small.col);
      is_long = refl;
      is_kind = kind_said it d (is_input d);
      has_rows = (refl, refl);
      entries = ap (λ p. (let e : Declared = record { name = name_of d; place = p; length = d.length; kind = kind_if (is_input d) } in e) ∷ []) (sym whole);
    }

fields_said : (it : Sheet) (ds : List Shown) → IsFit it → Each (IsDeclaredOn it) ds → SayEntries (there (numbered_version (Some 1)) refl) it.area.screen (tables it ds) (map (entry_of it) ds)
fields_said it [] fit each = refl
fields_said it (d ∷ ds) fit each = (field_table it d, entry_of it d ∷ [], map (entry_of it) ds, refl, refl, block_said it d fit each.0, fields_said it ds fit each.1)

list_said : (default alternate screen : List ℕ) (it : Sheet) (ds : List Shown) → IsFit it → Each (IsDeclaredOn it) ds
    → SaysFields (there (numbered_version (Some 1)) refl) (members_of default alternate (fields_member screen it ds)) it.area.screen (map (entry_of it) ds)
list_said default alternate screen it [] fit each = inl (refl, refl)
list_said default alternate screen it (d ∷ ds) fit each = inr (tables it (d ∷ ds), refl, fields_said it (d ∷ ds) fit each)

-- the keys at the top of the table
record IsTop (top : Members) (default alternate screen : List ℕ) : Type 0 where
  keys : IsTrue (has_only top_keys top)
  version : IsAbsent layout_key.Version top
  addresses : IsAbsent layout_key.Addresses top
  default_size : HasText layout_key.Default default top
  alternate_size : HasText layout_key.Alternate alternate top
  screen_word : HasText layout_key.Screen screen top

top_said : (default alternate screen : List ℕ) (it : Sheet) (ds : List Shown) → IsTop (members_of default alternate (fields_member screen it ds)) default alternate screen
top_said default alternate screen it [] = record { keys = refl; version = refl; addresses = refl; default_size = refl; alternate_size = refl; screen_word = refl }
top_said default alternate screen it (d ∷ ds) = record { keys = refl; version = refl; addresses = refl; default_size = refl; alternate_size = refl; screen_word = refl }

screen_said : (top : Members) (geometry : Sizes) (size : Size) (b : Bool) → HasText layout_key.Screen (screen_word b) top → (b ≡ true → size ≡ geometry.default) → (b ≡ false → size ≡ geometry.alternate)
    → SaysScreen top geometry size
screen_said top geometry size true has one other = inl (inr has, one refl)
screen_said top geometry size false has one other = inr (has, other refl)

screen_24 : (screen : Size) → IsScreen screen → (screen.rows == 24) ≡ true → screen ≡ first_size
screen_24 screen (inl is) rows = is
screen_24 screen (inr (inl is)) rows = absurd (false≢true (ap (λ (s : Size). s.rows == 24) (sym is) ∙ rows))
screen_24 screen (inr (inr (inl is))) rows = absurd (false≢true (ap (λ (s : Size). s.rows == 24) (sym is) ∙ rows))
screen_24 screen (inr (inr (inr is))) rows = absurd (false≢true (ap (λ (s : Size). s.rows == 24) (sym is) ∙ rows))

text_says : (it : Sheet) → IsFit it → TextSays (layout_text it) (declaration_of it)
text_says it fit =
    let ds = declared_fields it in
    let each = all_declared it it.fields fit.fields fit.named in
    let default = size_text first_size in
    let alternate = size_text it.area.screen in
    let screen = word_for it in
    let top = members_of default alternate (fields_member screen it ds) in
    let keys = top_said default alternate screen it ds in (
      top,
      text_parses it fit each,
      record {
        keys = keys.keys;
        version = there (numbered_version (Some 1)) refl;
        is_version = inl keys.version;
        mode = inl keys.addresses;
        default = inr keys.default_size;
        alternate = inr keys.alternate_size;
        screen = screen_said top (sizes_of it) it.area.screen (it.area.screen.rows == default_rows) keys.screen_word (screen_24 it.area.screen fit.ground.screen) (λ other. refl);
        fields = list_said default alternate screen it ds fit each;
        is_one = is_layout it fit;
      },
    )

pub is_read : (it : Sheet) → IsFit it → IsRead it
is_read it fit = let says = text_says it fit in record { says = says; read = layout_of-read (layout_text it) (declaration_of it) says }

each_read : (maps : List Sheet) → Each IsFit maps → Each IsRead maps
each_read [] each = tt
each_read (it ∷ maps) each = (is_read it each.0, each_read maps each.1)

pub layouts_are_read : LayoutsAreRead
layouts_are_read source maps is = each_read maps (maps_are_fit source maps is)
