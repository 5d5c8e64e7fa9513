-- The text of a draft is read as the layout that it declares.
use Rattle.std.proofs.Common.{◌≡◌, ℕ, zero, suc, ◌+◌, ◌-◌, ◌*◌, ◌/◌, ◌%◌, ◌^◌, ◌<◌, ◌≤◌, inl, inr, Bool, true, false, ◌&&◌, ◌==◌, nat_lt, nat_le, cond, IsTrue, List, [], ◌∷◌, ◌++◌, codes, decimal, length, map, get_or, append_assoc, Option, Some, None, is_some, pos, Ok, refl, sym, ◌∙◌, ap, subst, arith}
use Rattle.std.specs.List.{list_all, range_with_len, flat_map}
use Rattle.std.proofs.lemmas.Bool.{false≢true, and_parts, cases_Bool, cond-true, cond-false, eqb-true, eq-eqb, leb-true, ltb-true}
use Rattle.std.proofs.lemmas.List.Folds.{list_all-append}
use Rattle.std.proofs.lemmas.Fmt.{decimal_digit, decimal_step}
use Rattle.std.proofs.lemmas.Nat.{div-add-mod'}
use Rattle.toml_parser.specs.Lexical.{is_non_eol, skip_blank}
use Rattle.toml_parser.specs.Strings.{Key}
use Rattle.toml_parser.proofs.LexicalLemmas.{skip_from-nil}
use Rattle.toml.specs.Data.{Data, string, integer, array, table, Items, no_items, item, push_item, Members, no_members, member}
use Rattle.toml.specs.Tables.{Nodes, no_nodes, node, value, open_array, close, Document, Expression, define, along_header, along_dots, at_key, key_value, array_table}
use Rattle.toml.specs.Parse.{skip_bom, lines, parse_document}
use Rattle.toml.proofs.Turns.{document_some}
use Rattle.toml.proofs.ReadLines.{run, AllPrinted}
use Rattle.toml.proofs.ReadValues.{item_join, item_join-none, item_join-push}
use Rattle.ds_codec.specs.declared.cell.Cell.{Cell}
use Rattle.ds_codec.specs.declared.cell.Cell.TheVariants.{Field, Char}
use Rattle.ds_codec.specs.declared.size.Mode.{Mode}
use Rattle.ds_codec.specs.declared.size.Mode.TheVariants.{Bits14, Bits16}
use Rattle.ds_codec.specs.declared.size.Size.{Size}
use Rattle.ds_codec.specs.Same.{same_size}
use Rattle.ds_codec.proofs.Same.{size_is, size_self}
use Rattle.ds_codec.specs.Attribute.{is_hidden}
use Rattle.ds_codec.specs.Character.{Glyph}
use Rattle.ds_codec.specs.Geometry.{Sizes, cells_of, limit_of, IsGood}
use Rattle.ds_screen.specs.declared.field.FieldAt.{FieldAt}
use Rattle.ds_screen.specs.Picture.{Picture, IsSound, cell_at}
use Rattle.ds_screen.specs.Shown.{Run as Printed, printed_runs, printed_in, printed_code, text_of}
use Rattle.scr_layout.specs.declared.entry.Kind.{Kind}
use Rattle.scr_layout.specs.declared.entry.Kind.TheVariants.{Input, Fixed}
use Rattle.scr_layout.specs.declared.fault.LayoutKey.TheVariants as layout_key
use Rattle.scr_layout.specs.Entry.{Declared, is_name_byte, is_name}
use Rattle.scr_layout.specs.Layout.{layout_of}
use Rattle.scr_layout.specs.Top.{top_keys, numbered_version}
use Rattle.scr_layout.specs.Values.{has_only}
use Rattle.scr_layout.specs.Says.{IsAbsent, HasText, SaysKind, SaysBlock, SayEntries, SaysFields, SaysMode, SaysScreen, TextSays}
use Rattle.scr_layout.specs.SizeText.{size_text}
use Rattle.scr_layout.proofs.ReadLaw.{layout_of-read}
use Rattle.scr_check.proofs.ListLaws.{Each}
use Rattle.scr_draft.specs.Label.{seen_code, seen_in, seen_at, label_of}
use Rattle.scr_draft.specs.Drafted.{Named, kind_of, label_before, drafted_fields, drafts_of, entry_of, declared_by}
use Rattle.scr_draft.specs.Text.{mode_line, default_line, alternate_line, geometry_lines, top_lines, kind_word, takes_digits, label_words, comment_line, name_lines, other_lines, field_lines, draft_text}
use Rattle.scr_draft.proofs.NameLaws.{decimal_bytes}
use Rattle.scr_draft.proofs.LineLaws.{skip_comment, text_line, number_line, text_is, number_is, header_is, AreLines, one_line, one_commented, read_lines}
use Rattle.scr_draft.proofs.DraftLaws.{good_size, IsDeclared, are_declared, draft_is_layout}

-- ---- a comment
abbrev IsPrinted : List ℕ → Type 0
IsPrinted text = list_all is_non_eol text ≡ true

printed_at : (xs : List ℕ) (i : ℕ) → i < length xs → IsPrinted xs → is_non_eol (get_or xs i 0) ≡ true
printed_at [] i lt all = absurd (omega arith)
printed_at (x ∷ xs) zero lt all = (and_parts (is_non_eol x) (list_all is_non_eol xs) all).0
printed_at (x ∷ xs) (suc i) lt all = printed_at xs i (omega arith) (and_parts (is_non_eol x) (list_all is_non_eol xs) all).1

each_run : (code : ℕ) (runs : List Printed) → list_all (λ (r : Printed). list_all is_non_eol r.characters) runs ≡ true → is_non_eol (printed_in code runs) ≡ true
each_run code [] all = refl
each_run code (r ∷ rs) all =
    let parts = and_parts (list_all is_non_eol r.characters) (list_all (λ (r : Printed). list_all is_non_eol r.characters) rs) all in
    let test = nat_le r.first code && nat_lt code (r.first + length r.characters) in
    elim (cases_Bool test) [
      | inl inside ↦
          let bounds = and_parts (nat_le r.first code) (nat_lt code (r.first + length r.characters)) inside in
          let low : r.first ≤ code = leb-true _ _ bounds.0 in
          let high : code < r.first + length r.characters = ltb-true _ _ bounds.1 in
          ap is_non_eol (cond-true test _ _ inside) ∙ printed_at r.characters (code - r.first) (omega arith) parts.0
      | inr other ↦ ap is_non_eol (cond-false test _ _ other) ∙ each_run code rs parts.1
    ]

code_printed : (code : ℕ) → is_non_eol (printed_code code) ≡ true
unfolding printed_code
code_printed code = each_run code printed_runs refl

glyph_printed : (c : Glyph) → is_non_eol (seen_code c) ≡ true
glyph_printed c =
    elim (cases_Bool (c.code == 0)) [
      | inl null ↦ ap is_non_eol (cond-true (c.code == 0) 32 (text_of c) null)
      | inr other ↦ ap is_non_eol (cond-false (c.code == 0) 32 (text_of c) other) ∙ (elim (cases_Bool c.alt) [
        | inl alt ↦ ap is_non_eol (cond-true c.alt 63 (printed_code c.code) alt)
        | inr plain ↦ ap is_non_eol (cond-false c.alt 63 (printed_code c.code) plain) ∙ code_printed c.code
      ])
    ]

seen_printed : (cell : Cell) → is_non_eol (seen_in cell) ≡ true
seen_printed (Field bits) = refl
seen_printed (Char c) = glyph_printed c

all_printed : (cells : List Cell) (places : List ℕ) → IsPrinted (map (seen_at cells) places)
all_printed cells [] = refl
all_printed cells (p ∷ places) = ap (λ b. b && list_all is_non_eol (map (seen_at cells) places)) (seen_printed (cell_at cells p)) ∙ all_printed cells places

words_printed : (label : List ℕ) → IsPrinted label → IsPrinted (label_words label)
words_printed [] all = refl
words_printed (c ∷ cs) all = all

choice_printed : (b : Bool) (text : List ℕ) → IsPrinted text → IsPrinted (cond b text [])
choice_printed true text all = all
choice_printed false text all = refl

printed_append : (xs ys : List ℕ) → IsPrinted xs → IsPrinted ys → IsPrinted (xs ++ ys)
printed_append xs ys one other = list_all-append is_non_eol xs ys ∙ ap (λ b. b && list_all is_non_eol ys) one ∙ other

skip_words : (words hidden numeric rest : List ℕ) → IsPrinted words → IsPrinted hidden → IsPrinted numeric
    → skip_blank ((codes "# " ++ (words ++ (hidden ++ (numeric ++ codes "\n")))) ++ rest) ≡ skip_blank rest
skip_words words hidden numeric rest one two three =
    let same : (codes "# " ++ (words ++ (hidden ++ (numeric ++ codes "\n")))) ++ rest ≡ 35 ∷ ((32 ∷ (words ++ (hidden ++ numeric))) ++ 10 ∷ rest) = simp append_assoc refl in
    ap skip_blank same ∙ skip_comment (32 ∷ (words ++ (hidden ++ numeric))) rest (printed_append words (hidden ++ numeric) one (printed_append hidden numeric two three))

comment_skipped : (v : Picture) (f : FieldAt) (rest : List ℕ) → skip_blank (comment_line v f ++ rest) ≡ skip_blank rest
comment_skipped v f rest =
    let label = label_of v.cells v.size.cols f.place in
    skip_words (label_words (label_before v f)) (cond (is_hidden f.attr) (codes ", hidden") []) (cond (takes_digits f.attr) (codes ", numeric") []) rest
    (words_printed (label_before v f) (all_printed v.cells (range_with_len label.start (label.stop - label.start))))
    (choice_printed (is_hidden f.attr) (codes ", hidden") refl) (choice_printed (takes_digits f.attr) (codes ", numeric") refl)

-- ---- the lines of a field
abbrev key : List ℕ → Key
key k = ([], k)

abbrev row_of : Picture → Named → ℕ
row_of v d = d.field.place / v.size.cols + 1

abbrev col_of : Picture → Named → ℕ
col_of v d = d.field.place % v.size.cols + 1

abbrev block : Picture → Named → List Expression
block v d =
    (key (codes "field"), array_table) ∷ (key (codes "name"), key_value (string d.name)) ∷ (key (codes "row"), key_value (integer (pos (row_of v d))))
    ∷ (key (codes "col"), key_value (integer (pos (col_of v d)))) ∷ (key (codes "length"), key_value (integer (pos d.field.length)))
    ∷ (key (codes "kind"), key_value (string (kind_word (kind_of d.field.attr)))) ∷ []

kind_bytes : (k : Kind) → list_all is_name_byte (kind_word k) ≡ true
kind_bytes Input = refl
kind_bytes Fixed = refl

name_bytes : (name : List ℕ) → is_name name ≡ true → list_all is_name_byte name ≡ true
name_bytes name is = (and_parts (nat_le 1 (length name) && nat_le (length name) 32) (list_all is_name_byte name) is).1

-- the lines from each key on
abbrev kind_pairs : Named → List Expression → List Expression
kind_pairs d es = (key (codes "kind"), key_value (string (kind_word (kind_of d.field.attr)))) ∷ es

abbrev length_pairs : Named → List Expression → List Expression
length_pairs d es = (key (codes "length"), key_value (integer (pos d.field.length))) ∷ kind_pairs d es

abbrev col_pairs : Picture → Named → List Expression → List Expression
col_pairs v d es = (key (codes "col"), key_value (integer (pos (col_of v d)))) ∷ length_pairs d es

abbrev row_pairs : Picture → Named → List Expression → List Expression
row_pairs v d es = (key (codes "row"), key_value (integer (pos (row_of v d)))) ∷ col_pairs v d es

abbrev name_pairs : Picture → Named → List Expression → List Expression
name_pairs v d es = (key (codes "name"), key_value (string d.name)) ∷ row_pairs v d es

abbrev kind_text : Picture → Named → List ℕ → List ℕ
kind_text v d rest = text_line (codes "kind") (kind_word (kind_of d.field.attr)) ++ (comment_line v d.field ++ rest)

abbrev length_text : Picture → Named → List ℕ → List ℕ
length_text v d rest = number_line (codes "length") d.field.length ++ kind_text v d rest

abbrev col_text : Picture → Named → List ℕ → List ℕ
col_text v d rest = number_line (codes "col") (col_of v d) ++ length_text v d rest

abbrev row_text : Picture → Named → List ℕ → List ℕ
row_text v d rest = number_line (codes "row") (row_of v d) ++ col_text v d rest

abbrev name_text : Picture → Named → List ℕ → List ℕ
name_text v d rest = text_line (codes "name") d.name ++ row_text v d rest

block_text : (v : Picture) (d : Named) (rest : List ℕ) → field_lines v d ++ rest ≡ codes "\n[[field]]\n" ++ name_text v d rest
unfolding field_lines name_lines other_lines
block_text v d rest = simp append_assoc refl

few_cells : (v : Picture) → IsGood v.geometry.mode v.size → (n : ℕ) → n < cells_of v.size → n < 2 ^ 63
few_cells v good n less = omega (arith, less, limit v.geometry.mode (cells_of v.size) good.few_cells)
  where
    limit : (mode : Mode) (cells : ℕ) → cells ≤ limit_of mode → cells ≤ 65025
    limit Bits14 cells le = omega arith
    limit Bits16 cells le = le

length_on : (v : Picture) → IsGood v.geometry.mode v.size → (d : Named) (es : List Expression) (rest : List ℕ) → IsDeclared v d → AreLines true es rest → AreLines true (length_pairs d es) (length_text v d rest)
length_on v good d es rest is others =
    one_line true (key (codes "length"), key_value (integer (pos d.field.length))) (kind_pairs d es) (number_line (codes "length") d.field.length) (kind_text v d rest)
    (number_is true (codes "length") d.field.length refl (few_cells v good d.field.length is.short))
    (one_commented true (key (codes "kind"), key_value (string (kind_word (kind_of d.field.attr)))) es (text_line (codes "kind") (kind_word (kind_of d.field.attr))) (comment_line v d.field) rest
    (text_is true (codes "kind") (kind_word (kind_of d.field.attr)) refl (kind_bytes (kind_of d.field.attr))) (comment_skipped v d.field rest) others)

row_on : (v : Picture) → IsGood v.geometry.mode v.size → (d : Named) (es : List Expression) (rest : List ℕ) → IsDeclared v d → AreLines true es rest → AreLines true (row_pairs v d es) (row_text v d rest)
row_on v good d es rest is others =
    one_line true (key (codes "row"), key_value (integer (pos (row_of v d)))) (col_pairs v d es) (number_line (codes "row") (row_of v d)) (col_text v d rest)
    (number_is true (codes "row") (row_of v d) refl (omega (arith, is.row, good.few_rows)))
    (one_line true (key (codes "col"), key_value (integer (pos (col_of v d)))) (length_pairs d es) (number_line (codes "col") (col_of v d)) (length_text v d rest)
    (number_is true (codes "col") (col_of v d) refl (omega (arith, is.col, good.few_cols))) (length_on v good d es rest is others))

block_lines : (v : Picture) → IsGood v.geometry.mode v.size → (d : Named) (es : List Expression) (rest : List ℕ) → IsDeclared v d → AreLines true es rest
    → AreLines true (block v d ++ es) (field_lines v d ++ rest)
block_lines v good d es rest is others =
    let all : AreLines true (block v d ++ es) (codes "\n[[field]]\n" ++ name_text v d rest) =
    one_line true (key (codes "field"), array_table) (name_pairs v d es) (codes "\n[[field]]\n") (name_text v d rest) header_is
    (one_line true (key (codes "name"), key_value (string d.name)) (row_pairs v d es) (text_line (codes "name") d.name) (row_text v d rest)
    (text_is true (codes "name") d.name refl (name_bytes d.name is.name)) (row_on v good d es rest is others)) in
    subst (AreLines true (block v d ++ es)) (sym (block_text v d rest)) all

all_lines : (v : Picture) → IsGood v.geometry.mode v.size → (ds : List Named) → Each (IsDeclared v) ds → AreLines true (flat_map (block v) ds) (flat_map (field_lines v) ds)
all_lines v good [] each = skip_from-nil true false
all_lines v good (d ∷ ds) each = block_lines v good d (flat_map (block v) ds) (flat_map (field_lines v) ds) each.0 (all_lines v good ds each.1)

-- ---- the keys at the top
abbrev sized_pairs : List ℕ → List ℕ → List ℕ → List Expression
sized_pairs default alternate screen =
    (key (codes "default"), key_value (string default)) ∷ (key (codes "alternate"), key_value (string alternate)) ∷ (key (codes "screen"), key_value (string screen)) ∷ []

abbrev top_pairs : Mode → List ℕ → List ℕ → List ℕ → List Expression
top_pairs Bits14 default alternate screen = sized_pairs default alternate screen
top_pairs Bits16 default alternate screen = (key (codes "addresses"), key_value (integer (pos 16))) ∷ sized_pairs default alternate screen

abbrev sized_text : List ℕ → List ℕ → List ℕ → List ℕ → List ℕ
sized_text default alternate screen rest =
    text_line (codes "default") default ++ (text_line (codes "alternate") alternate ++ (text_line (codes "screen") screen ++ rest))

abbrev top_text : Mode → List ℕ → List ℕ → List ℕ → List ℕ → List ℕ
top_text Bits14 default alternate screen rest = sized_text default alternate screen rest
top_text Bits16 default alternate screen rest = number_line (codes "addresses") 16 ++ sized_text default alternate screen rest

abbrev screen_word : Bool → List ℕ
screen_word default = cond default (codes "default") (codes "alternate")

word_bytes : (b : Bool) → list_all is_name_byte (screen_word b) ≡ true
word_bytes true = refl
word_bytes false = refl

size_bytes : (mode : Mode) (s : Size) → IsGood mode s → list_all is_name_byte (size_text s) ≡ true
size_bytes mode s good =
    list_all-append is_name_byte (decimal s.rows) (120 ∷ decimal s.cols)
    ∙ ap (λ b. b && list_all is_name_byte (120 ∷ decimal s.cols)) (decimal_bytes s.rows (omega (arith, good.few_rows))) ∙ decimal_bytes s.cols (omega (arith, good.few_cols))

screen_text : (b : Bool) → cond b (codes "screen = \"default\"\n") (codes "screen = \"alternate\"\n") ≡ text_line (codes "screen") (screen_word b)
screen_text true = refl
screen_text false = refl

sizes_text : (default alternate : Size) (rest : List ℕ)
    → (default_line default ++ alternate_line alternate) ++ rest
    ≡ text_line (codes "default") (size_text default) ++ (text_line (codes "alternate") (size_text alternate) ++ rest)
unfolding default_line alternate_line
sizes_text default alternate rest = simp append_assoc refl

sized_keys : (default alternate : Size) (b : Bool) (rest : List ℕ)
    → ((default_line default ++ alternate_line alternate) ++ text_line (codes "screen") (screen_word b)) ++ rest
    ≡ sized_text (size_text default) (size_text alternate) (screen_word b) rest
sized_keys default alternate b rest =
    append_assoc (default_line default ++ alternate_line alternate) (text_line (codes "screen") (screen_word b)) rest
    ∙ sizes_text default alternate (text_line (codes "screen") (screen_word b) ++ rest)

sixteen : decimal 16 ≡ codes "16"
sixteen = decimal_step 16 (omega arith) (omega arith) ∙ ap (λ d. d ++ 54 ∷ []) (decimal_digit 1 (omega arith))

keys_text : (mode : Mode) (default alternate : Size) (b : Bool) (rest : List ℕ)
    → ((mode_line mode ++ (default_line default ++ alternate_line alternate)) ++ text_line (codes "screen") (screen_word b)) ++ rest
    ≡ top_text mode (size_text default) (size_text alternate) (screen_word b) rest
keys_text Bits14 default alternate b rest = sized_keys default alternate b rest
keys_text Bits16 default alternate b rest =
    ap (λ l. codes "addresses = 16\n" ++ l) (sized_keys default alternate b rest)
    ∙ ap (λ n. codes "addresses" ++ (codes " = " ++ ((n ++ codes "\n") ++ sized_text (size_text default) (size_text alternate) (screen_word b) rest))) (sym sixteen)

top_is : (v : Picture) (rest : List ℕ)
    → top_lines v ++ rest ≡ top_text v.geometry.mode (size_text v.geometry.default) (size_text v.geometry.alternate) (screen_word (same_size v.size v.geometry.default)) rest
unfolding geometry_lines
top_is v rest =
    ap (λ l. (geometry_lines v.geometry ++ l) ++ rest) (screen_text (same_size v.size v.geometry.default))
    ∙ keys_text v.geometry.mode v.geometry.default v.geometry.alternate (same_size v.size v.geometry.default) rest

sized_lines : (default alternate screen : List ℕ) (started : Bool) (es : List Expression) (rest : List ℕ) → list_all is_name_byte default ≡ true → list_all is_name_byte alternate ≡ true → list_all is_name_byte screen ≡ true
    → AreLines true es rest → AreLines started (sized_pairs default alternate screen ++ es) (sized_text default alternate screen rest)
sized_lines default alternate screen started es rest one two three others =
    let last : List Expression = (key (codes "screen"), key_value (string screen)) ∷ es in
    let last_text = text_line (codes "screen") screen ++ rest in
    one_line started (key (codes "default"), key_value (string default)) ((key (codes "alternate"), key_value (string alternate)) ∷ last) (text_line (codes "default") default) (text_line (codes "alternate") alternate ++ last_text)
    (text_is started (codes "default") default refl one)
    (one_line true (key (codes "alternate"), key_value (string alternate)) last (text_line (codes "alternate") alternate) last_text (text_is true (codes "alternate") alternate refl two)
    (one_line true (key (codes "screen"), key_value (string screen)) es (text_line (codes "screen") screen) rest (text_is true (codes "screen") screen refl three) others))

keys_lines : (mode : Mode) (default alternate screen : List ℕ) (es : List Expression) (rest : List ℕ) → list_all is_name_byte default ≡ true → list_all is_name_byte alternate ≡ true → list_all is_name_byte screen ≡ true
    → AreLines true es rest → AreLines false (top_pairs mode default alternate screen ++ es) (top_text mode default alternate screen rest)
keys_lines Bits14 default alternate screen es rest one two three others = sized_lines default alternate screen false es rest one two three others
keys_lines Bits16 default alternate screen es rest one two three others =
    one_line false (key (codes "addresses"), key_value (integer (pos 16))) (sized_pairs default alternate screen ++ es) (number_line (codes "addresses") 16) (sized_text default alternate screen rest) (number_is false (codes "addresses") 16 refl (omega arith))
    (sized_lines default alternate screen true es rest one two three others)

-- ---- what the lines define
abbrev field_nodes : Picture → Named → Nodes
field_nodes v d =
    node (codes "col") (value (integer (pos (col_of v d)))) (node (codes "kind") (value (string (kind_word (kind_of d.field.attr))))
    (node (codes "length") (value (integer (pos d.field.length))) (node (codes "name") (value (string d.name))
    (node (codes "row") (value (integer (pos (row_of v d)))) no_nodes))))

abbrev sizes_nodes : List ℕ → List ℕ → Nodes → Nodes
sizes_nodes default alternate others = node (codes "alternate") (value (string alternate)) (node (codes "default") (value (string default)) others)

abbrev roots : Mode → List ℕ → List ℕ → Nodes → Nodes
roots Bits14 default alternate others = sizes_nodes default alternate others
roots Bits16 default alternate others = node (codes "addresses") (value (integer (pos 16))) (sizes_nodes default alternate others)

abbrev screen_node : List ℕ → Nodes
screen_node screen = node (codes "screen") (value (string screen)) no_nodes

abbrev with_fields : List ℕ → Items → Nodes → Nodes
with_fields screen done last = node (codes "field") (open_array done last) (screen_node screen)

run_top : (mode : Mode) (default alternate screen : List ℕ) (es : List Expression)
    → run (no_nodes, []) (top_pairs mode default alternate screen ++ es) ≡ run (roots mode default alternate (screen_node screen), []) es
unfolding define along_header along_dots at_key
run_top Bits14 default alternate screen es = refl
run_top Bits16 default alternate screen es = refl

run_first : (mode : Mode) (default alternate screen : List ℕ) (v : Picture) (d : Named) (es : List Expression)
    → run (roots mode default alternate (screen_node screen), []) (block v d ++ es) ≡ run (roots mode default alternate (with_fields screen no_items (field_nodes v d)), codes "field" ∷ []) es
unfolding define along_header along_dots at_key
run_first Bits14 default alternate screen v d es = refl
run_first Bits16 default alternate screen v d es = refl

run_next : (mode : Mode) (default alternate screen : List ℕ) (done : Items) (last : Nodes) (v : Picture) (d : Named) (es : List Expression)
    → run (roots mode default alternate (with_fields screen done last), codes "field" ∷ []) (block v d ++ es)
    ≡ run (roots mode default alternate (with_fields screen (push_item done (table (close last))) (field_nodes v d)), codes "field" ∷ []) es
unfolding define along_header along_dots at_key
run_next Bits14 default alternate screen done last v d es = refl
run_next Bits16 default alternate screen done last v d es = refl

-- the tables of the fields
abbrev field_table : Picture → Named → Members
field_table v d =
    member (codes "col") (integer (pos (col_of v d))) (member (codes "kind") (string (kind_word (kind_of d.field.attr)))
    (member (codes "length") (integer (pos d.field.length)) (member (codes "name") (string d.name) (member (codes "row") (integer (pos (row_of v d))) no_members))))

abbrev tables : Picture → List Named → Items
tables v [] = no_items
tables v (d ∷ ds) = item (table (field_table v d)) (tables v ds)

abbrev sizes_members : List ℕ → List ℕ → Members → Members
sizes_members default alternate others = member (codes "alternate") (string alternate) (member (codes "default") (string default) others)

abbrev members_of : Mode → List ℕ → List ℕ → Members → Members
members_of Bits14 default alternate others = sizes_members default alternate others
members_of Bits16 default alternate others = member (codes "addresses") (integer (pos 16)) (sizes_members default alternate others)

abbrev screen_member : List ℕ → Members
screen_member screen = member (codes "screen") (string screen) no_members

abbrev field_member : List ℕ → Items → Members
field_member screen items = member (codes "field") (array items) (screen_member screen)

closed : (mode : Mode) (default alternate screen : List ℕ) (done : Items) (last : Nodes)
    → close (roots mode default alternate (with_fields screen done last)) ≡ members_of mode default alternate (field_member screen (push_item done (table (close last))))
closed Bits14 default alternate screen done last = refl
closed Bits16 default alternate screen done last = refl

closed_none : (mode : Mode) (default alternate screen : List ℕ) → close (roots mode default alternate (screen_node screen)) ≡ members_of mode default alternate (screen_member screen)
closed_none Bits14 default alternate screen = refl
closed_none Bits16 default alternate screen = refl

pushed : (done : Items) (d : Data) → push_item done d ≡ item_join done (item d no_items)
pushed done d = sym (item_join-none (push_item done d)) ∙ item_join-push done d no_items

record Defines (doc : Document) (es : List Expression) (members : Members) : Type 0 where
  after : Document
  ran : run doc es ≡ Some after
  closes : close after.0 ≡ members

run_all : (mode : Mode) (default alternate screen : List ℕ) (v : Picture) (done : Items) (last : Nodes) (ds : List Named)
    → Defines (roots mode default alternate (with_fields screen done last), codes "field" ∷ []) (flat_map (block v) ds)
    (members_of mode default alternate (field_member screen (item_join done (item (table (close last)) (tables v ds)))))
run_all mode default alternate screen v done last [] =
    record {
      after = (roots mode default alternate (with_fields screen done last), codes "field" ∷ []);
      ran = refl;
      closes = closed mode default alternate screen done last ∙ ap (λ items. members_of mode default alternate (field_member screen items)) (pushed done (table (close last)));
    }
run_all mode default alternate screen v done last (d ∷ ds) =
    let more = run_all mode default alternate screen v (push_item done (table (close last))) (field_nodes v d) ds in
    record {
      after = more.after;
      ran = run_next mode default alternate screen done last v d (flat_map (block v) ds) ∙ more.ran;
      closes =
          more.closes
          ∙ ap (λ items. members_of mode default alternate (field_member screen items)) (item_join-push done (table (close last)) (item (table (field_table v d)) (tables v ds)));
    }

abbrev fields_member : List ℕ → Picture → List Named → Members
fields_member screen v [] = screen_member screen
fields_member screen v (d ∷ ds) = field_member screen (tables v (d ∷ ds))

run_draft : (mode : Mode) (default alternate screen : List ℕ) (v : Picture) (ds : List Named)
    → Defines (no_nodes, []) (top_pairs mode default alternate screen ++ flat_map (block v) ds) (members_of mode default alternate (fields_member screen v ds))
run_draft mode default alternate screen v [] =
    record {
      after = (roots mode default alternate (screen_node screen), []);
      ran = run_top mode default alternate screen [];
      closes = closed_none mode default alternate screen;
    }
run_draft mode default alternate screen v (d ∷ ds) =
    let more = run_all mode default alternate screen v no_items (field_nodes v d) ds in
    record {
      after = more.after;
      ran = run_top mode default alternate screen (flat_map (block v) (d ∷ ds)) ∙ run_first mode default alternate screen v d (flat_map (block v) ds) ∙ more.ran;
      closes = more.closes;
    }

-- ---- the text as TOML
top_printed : (mode : Mode) (default alternate screen : List ℕ) (es : List Expression) → AllPrinted es → AllPrinted (top_pairs mode default alternate screen ++ es)
top_printed Bits14 default alternate screen es all = ((refl, omega arith, refl), ((refl, omega arith, refl), ((refl, omega arith, refl), all)))
top_printed Bits16 default alternate screen es all = ((refl, omega arith, refl), ((refl, omega arith, refl), ((refl, omega arith, refl), ((refl, omega arith, refl), all))))

blocks_printed : (v : Picture) (ds : List Named) → AllPrinted (flat_map (block v) ds)
blocks_printed v [] = tt
blocks_printed v (d ∷ ds) =
    (omega arith, ((refl, omega arith, refl), ((refl, omega arith, refl), ((refl, omega arith, refl), ((refl, omega arith, refl), ((refl, omega arith, refl), blocks_printed v ds))))))

no_mark : (mode : Mode) (default alternate screen rest : List ℕ) → skip_bom (top_text mode default alternate screen rest) ≡ top_text mode default alternate screen rest
unfolding skip_bom
no_mark Bits14 default alternate screen rest = refl
no_mark Bits16 default alternate screen rest = refl

text_parses : (v : Picture) → IsSound v → IsGood v.geometry.mode v.size → (ds : List Named) → Each (IsDeclared v) ds
    → parse_document (draft_text v ds)
    ≡ Some (members_of v.geometry.mode (size_text v.geometry.default) (size_text v.geometry.alternate) (fields_member (screen_word (same_size v.size v.geometry.default)) v ds))
text_parses v sound good ds each =
    let mode = v.geometry.mode in
    let default = size_text v.geometry.default in
    let alternate = size_text v.geometry.alternate in
    let screen = screen_word (same_size v.size v.geometry.default) in
    let rest = flat_map (field_lines v) ds in
    let es = top_pairs mode default alternate screen ++ flat_map (block v) ds in
    let text = top_text mode default alternate screen rest in
    let are = keys_lines mode default alternate screen (flat_map (block v) ds) rest (size_bytes mode v.geometry.default sound.default_good) (size_bytes mode v.geometry.alternate sound.alternate_good)
    (word_bytes (same_size v.size v.geometry.default)) (all_lines v good ds each) in
    let defined = run_draft mode default alternate screen v ds in
    let ran : lines (suc (length text)) (no_nodes, []) (skip_bom text) ≡ Some defined.after =
    ap (lines (suc (length text)) (no_nodes, [])) (no_mark mode default alternate screen rest)
    ∙ read_lines false es text text (no_nodes, []) (suc (length text)) are (top_printed mode default alternate screen (flat_map (block v) ds) (blocks_printed v ds)) refl (omega arith)
    ∙ defined.ran in
    ap parse_document (top_is v rest) ∙ document_some text defined.after ran ∙ ap (λ ms. Some ms) defined.closes

-- ---- what the table says
-- the value that is there
abbrev there : {A : Type 0} (o : Option A) → is_some o ≡ true → A
there (Some x) is = x
there None is = absurd (false≢true is)

kind_said : (v : Picture) (d : Named) (k : Kind) → SaysKind (member (codes "col") (integer (pos (col_of v d))) (member (codes "kind") (string (kind_word k))
    (member (codes "length") (integer (pos d.field.length)) (member (codes "name") (string d.name) (member (codes "row") (integer (pos (row_of v d))) no_members))))) k
kind_said v d Input = inr refl
kind_said v d Fixed = refl

block_said : (v : Picture) (d : Named) → IsDeclared v d → SaysBlock (there (numbered_version (Some 1)) refl) v.size (field_table v d) (entry_of d ∷ [])
block_said v d is =
    let whole : d.field.place / v.size.cols * v.size.cols + d.field.place % v.size.cols ≡ d.field.place = div-add-mod' d.field.place v.size.cols in
    record {
      name = d.name;
      row = d.field.place / v.size.cols;
      col = d.field.place % v.size.cols;
      length = d.field.length;
      kind = kind_of d.field.attr;
      rows = None;
      keys = refl;
      is_named = (refl, is.name);
      is_placed = (refl, refl, is.row, is.col);
      is_long = refl;
      is_kind = kind_said v d (kind_of d.field.attr);
      has_rows = (refl, refl);
      entries = ap (λ p. (let e : Declared = record { name = d.name; place = p; length = d.field.length; kind = kind_of d.field.attr } in e) ∷ []) (sym whole);
    }

fields_said : (v : Picture) (ds : List Named) → Each (IsDeclared v) ds → SayEntries (there (numbered_version (Some 1)) refl) v.size (tables v ds) (map entry_of ds)
fields_said v [] each = refl
fields_said v (d ∷ ds) each = (field_table v d, entry_of d ∷ [], map entry_of ds, refl, refl, block_said v d each.0, fields_said v ds each.1)

list_said : (mode : Mode) (default alternate screen : List ℕ) (v : Picture) (ds : List Named) → Each (IsDeclared v) ds
    → SaysFields (there (numbered_version (Some 1)) refl) (members_of mode default alternate (fields_member screen v ds)) v.size (map entry_of ds)
list_said Bits14 default alternate screen v [] each = inl (refl, refl)
list_said Bits16 default alternate screen v [] each = inl (refl, refl)
list_said Bits14 default alternate screen v (d ∷ ds) each = inr (tables v (d ∷ ds), refl, fields_said v (d ∷ ds) each)
list_said Bits16 default alternate screen v (d ∷ ds) each = inr (tables v (d ∷ ds), refl, fields_said v (d ∷ ds) each)

-- the keys at the top of the table
record IsTop (top : Members) (mode : Mode) (default alternate : List ℕ) : Type 0 where
  keys : IsTrue (has_only top_keys top)
  version : IsAbsent layout_key.Version top
  addresses : SaysMode top mode
  default_size : HasText layout_key.Default default top
  alternate_size : HasText layout_key.Alternate alternate top

top_said : (mode : Mode) (default alternate screen : List ℕ) (v : Picture) (ds : List Named) → IsTop (members_of mode default alternate (fields_member screen v ds)) mode default alternate
top_said Bits14 default alternate screen v [] = record { keys = refl; version = refl; addresses = inl refl; default_size = refl; alternate_size = refl }
top_said Bits16 default alternate screen v [] = record { keys = refl; version = refl; addresses = refl; default_size = refl; alternate_size = refl }
top_said Bits14 default alternate screen v (d ∷ ds) = record { keys = refl; version = refl; addresses = inl refl; default_size = refl; alternate_size = refl }
top_said Bits16 default alternate screen v (d ∷ ds) = record { keys = refl; version = refl; addresses = refl; default_size = refl; alternate_size = refl }

word_at : (mode : Mode) (default alternate screen : List ℕ) (v : Picture) (ds : List Named) → HasText layout_key.Screen screen (members_of mode default alternate (fields_member screen v ds))
word_at Bits14 default alternate screen v [] = refl
word_at Bits16 default alternate screen v [] = refl
word_at Bits14 default alternate screen v (d ∷ ds) = refl
word_at Bits16 default alternate screen v (d ∷ ds) = refl

screen_said : (top : Members) (geometry : Sizes) (size : Size) (b : Bool) → HasText layout_key.Screen (screen_word b) top → (b ≡ true → size ≡ geometry.default) → (b ≡ false → size ≡ geometry.alternate)
    → SaysScreen top geometry size
screen_said top geometry size true has one other = inl (inr has, one refl)
screen_said top geometry size false has one other = inr (has, other refl)

alternate_shown : (v : Picture) → IsSound v → same_size v.size v.geometry.default ≡ false → v.size ≡ v.geometry.alternate
alternate_shown v sound other =
    elim sound.one_of_two [
      | inl is ↦ absurd (let e : true ≡ false = sym (ap (same_size v.size) (sym is) ∙ size_self v.size) ∙ other in cc)
      | inr is ↦ is
    ]

pub text_says : (v : Picture) → IsSound v → length (drafted_fields v.cells) ≤ 1000 → TextSays (draft_text v (drafts_of v)) (declared_by v)
text_says v sound few =
    let good = good_size v sound in
    let each = are_declared v sound few in
    let ds = drafts_of v in
    let mode = v.geometry.mode in
    let default = size_text v.geometry.default in
    let alternate = size_text v.geometry.alternate in
    let b = same_size v.size v.geometry.default in
    let top = members_of mode default alternate (fields_member (screen_word b) v ds) in
    let keys = top_said mode default alternate (screen_word b) v ds in (
      top,
      text_parses v sound good ds each,
      record {
        keys = keys.keys;
        version = there (numbered_version (Some 1)) refl;
        is_version = inl keys.version;
        mode = keys.addresses;
        default = inr keys.default_size;
        alternate = inr keys.alternate_size;
        screen = screen_said top v.geometry v.size b (word_at mode default alternate (screen_word b) v ds) (size_is v.size v.geometry.default) (alternate_shown v sound);
        fields = list_said mode default alternate (screen_word b) v ds each;
        is_one = draft_is_layout v sound few;
      },
    )

pub text_reads : (v : Picture) → IsSound v → length (drafted_fields v.cells) ≤ 1000 → layout_of (draft_text v (drafts_of v)) ≡ Ok (declared_by v)
text_reads v sound few = layout_of-read (draft_text v (drafts_of v)) (declared_by v) (text_says v sound few)
