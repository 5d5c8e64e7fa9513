-- Lines of a draft, as TOML reads them: a header, keys with texts and numbers, and comments, which are left out.
use Rattle.std.proofs.Common.{◌≡◌, ℕ, ◌-◌, ◌^◌, ◌<◌, Bool, true, false, not, ◌&&◌, ◌||◌, ◌==◌, nat_lt, List, [], ◌∷◌, ◌++◌, codes, decimal, length, append_assoc, Option, Some, None, option_and_then, pos, refl, sym, ◌∙◌, ap, arith}
use Rattle.std.specs.List.{list_all, list_any}
use Rattle.std.proofs.lemmas.Bool.{and_parts, cond-true}
use Rattle.std.proofs.lemmas.Bool.Decides.{nat_tests}
use Rattle.toml_parser.specs.Lexical.{is_non_eol, is_bare, first, skip_from, skip_blank, skip_turn}
use Rattle.toml_writer.specs.Text.{is_control, has, needs_escape, quotes_after, escaped, basic, encoding_of, encoded, string_text, key_text, dotted_text}
use Rattle.toml.specs.Data.{string, integer}
use Rattle.toml.specs.Tables.{Document, Expression, define, key_value, array_table}
use Rattle.toml.specs.Parse.{line, lines}
use Rattle.toml.specs.Text.{IsLineText}
use Rattle.toml.proofs.Turns.{lines_end, lines_more, lines_refused}
use Rattle.toml.proofs.Blanks.{skip_newline, skip_within}
use Rattle.toml.proofs.ReadLines.{run, AllPrinted, line_turn}
use Rattle.ds_codec.proofs.Below.{each_below}
use Rattle.scr_layout.specs.Entry.{is_name_byte}
use Rattle.scr_draft.proofs.NameLaws.{either_way, not_false}

-- ---- comments
skip_inside : (text rest : List ℕ) → list_all is_non_eol text ≡ true → skip_from true true (text ++ 10 ∷ rest) ≡ skip_blank rest
unfolding skip_from
skip_inside [] rest all = refl
skip_inside (c ∷ cs) rest all =
    let parts = and_parts (is_non_eol c) (list_all is_non_eol cs) all in
    let plain : is_non_eol c ≡ true = parts.0 in
    let one : skip_turn true true c (first (cs ++ 10 ∷ rest)) ≡ Some true = inside c (first (cs ++ 10 ∷ rest)) plain in
    rw one (skip_inside cs rest parts.1)
  where
    inside : (c next : ℕ) → is_non_eol c ≡ true → skip_turn true true c next ≡ Some true
    inside c next plain = grind (arith, nat_tests)

pub skip_comment : (text rest : List ℕ) → list_all is_non_eol text ≡ true → skip_blank (35 ∷ (text ++ 10 ∷ rest)) ≡ skip_blank rest
unfolding skip_from
skip_comment text rest all = skip_inside text rest all

-- ---- texts and keys without an escape
-- a byte that stands for itself in a basic string
abbrev is_itself : ℕ → Bool
is_itself c = not (needs_escape false 0 c) && (not (is_control c) && (not (c == 92) && (not (c == 34) && not (c == 10))))

small_byte : (c : ℕ) → is_name_byte c ≡ true → c < 128
small_byte c named = grind (arith, nat_tests)

itself : (c : ℕ) → is_name_byte c ≡ true → is_itself c ≡ true
unfolding needs_escape
itself c named = either_way (is_name_byte c) (is_itself c) (each_below (λ b. not (is_name_byte b) || is_itself b) 128 c refl (small_byte c named)) named

record Stands (c : ℕ) : Type 0 where
  whole : needs_escape false 0 c ≡ false
  control : is_control c ≡ false
  backslash : (c == 92) ≡ false
  quote : (c == 34) ≡ false
  feed : (c == 10) ≡ false

stands : (c : ℕ) → is_name_byte c ≡ true → Stands c
stands c named =
    let one = and_parts (not (needs_escape false 0 c)) _ (itself c named) in
    let two = and_parts (not (is_control c)) _ one.1 in
    let three = and_parts (not (c == 92)) _ two.1 in
    let four = and_parts (not (c == 34)) (not (c == 10)) three.1 in
    record { whole = not_false _ one.0; control = not_false _ two.0; backslash = not_false _ three.0; quote = not_false _ four.0; feed = not_false _ four.1 }

none_of : (test : ℕ → Bool) (text : List ℕ) → ((c : ℕ) → is_name_byte c ≡ true → test c ≡ false) → list_all is_name_byte text ≡ true → list_any test text ≡ false
none_of test [] none all = refl
none_of test (c ∷ cs) none all =
    let parts = and_parts (is_name_byte c) (list_all is_name_byte cs) all in
    ap (λ b. b || list_any test cs) (none c parts.0) ∙ none_of test cs none parts.1

escaped_same : (text : List ℕ) → list_all is_name_byte text ≡ true → escaped false 0 text ≡ text
unfolding escaped quotes_after
escaped_same [] all = refl
escaped_same (c ∷ cs) all =
    let parts = and_parts (is_name_byte c) (list_all is_name_byte cs) all in
    let is = stands c parts.0 in
    let whole : needs_escape false 0 c ≡ false = is.whole in
    let quote : (c == 34) ≡ false = is.quote in
    rw (whole, quote) (ap (λ l. c ∷ l) (escaped_same cs parts.1))

plain_encoding : (text : List ℕ) → list_all is_name_byte text ≡ true → encoding_of text ≡ basic
unfolding encoding_of
plain_encoding text all =
    let control : list_any is_control text ≡ false = none_of is_control text (λ c named. (stands c named).control) all in
    let backslash : has 92 text ≡ false = none_of (λ c. c == 92) text (λ c named. (stands c named).backslash) all in
    let quote : has 34 text ≡ false = none_of (λ c. c == 34) text (λ c named. (stands c named).quote) all in
    let feed : has 10 text ≡ false = none_of (λ c. c == 10) text (λ c named. (stands c named).feed) all in
    rw (control, backslash, quote, feed)

pub plain_text : (text : List ℕ) → list_all is_name_byte text ≡ true → string_text text ≡ 34 ∷ (text ++ 34 ∷ [])
unfolding string_text
plain_text text all = ap (λ e. encoded e text) (plain_encoding text all) ∙ ap (λ t. 34 ∷ (t ++ 34 ∷ [])) (escaped_same text all)

abbrev pub is_bare_key : List ℕ → Bool
is_bare_key k = nat_lt 0 (length k) && list_all is_bare k

key_is : (k : List ℕ) → is_bare_key k ≡ true → key_text k ≡ k
unfolding key_text
key_is k bare = cond-true (is_bare_key k) _ _ bare

-- ---- lines
abbrev pub text_line : List ℕ → List ℕ → List ℕ
text_line k text = k ++ (codes " = \"" ++ (text ++ codes "\"\n"))

abbrev pub number_line : List ℕ → ℕ → List ℕ
number_line k n = k ++ (codes " = " ++ (decimal n ++ codes "\n"))

pub text_is : (started : Bool) (k text : List ℕ) → is_bare_key k ≡ true → list_all is_name_byte text ≡ true
    → IsLineText true started ([], k) (key_value (string text)) (text_line k text)
text_is started k text bare all = (string_text text, same, refl)
  where
    same : text_line k text ≡ dotted_text ([], k) ++ (codes " = " ++ (string_text text ++ 10 ∷ []))
    same =
        ap (λ l. k ++ (codes " = \"" ++ l)) (sym (append_assoc text (34 ∷ []) (10 ∷ [])))
        ∙ ap (λ t. k ++ (codes " = " ++ (t ++ 10 ∷ []))) (sym (plain_text text all)) ∙ ap (λ name. name ++ (codes " = " ++ (string_text text ++ 10 ∷ []))) (sym (key_is k bare))

pub number_is : (started : Bool) (k : List ℕ) (n : ℕ) → is_bare_key k ≡ true → n < 2 ^ 63 → IsLineText true started ([], k) (key_value (integer (pos n))) (number_line k n)
number_is started k n bare small = (decimal n, ap (λ name. name ++ (codes " = " ++ (decimal n ++ 10 ∷ []))) (sym (key_is k bare)), (refl, omega arith))

pub header_is : IsLineText true true ([], codes "field") array_table (codes "\n[[field]]\n")
unfolding key_text
header_is = refl

-- the text of lines, after each of which something may stand that is left out
abbrev pub AreLines : Bool → List Expression → List ℕ → Type 0
AreLines started [] text = skip_blank text ≡ []
AreLines started (e ∷ es) text =
    (this : List ℕ) × (rest : List ℕ) × (more : List ℕ) × (text ≡ this ++ rest) × (skip_blank rest ≡ skip_blank more)
    × IsLineText true started e.0 e.1 this × AreLines true es more

pub one_line : (started : Bool) (e : Expression) (es : List Expression) (this rest : List ℕ) → IsLineText true started e.0 e.1 this → AreLines true es rest → AreLines started (e ∷ es) (this ++ rest)
one_line started e es this rest is others = (this, rest, rest, refl, refl, is, others)

pub one_commented : (started : Bool) (e : Expression) (es : List Expression) (this comment rest : List ℕ) → IsLineText true started e.0 e.1 this
    → skip_blank (comment ++ rest) ≡ skip_blank rest → AreLines true es rest → AreLines started (e ∷ es) (this ++ (comment ++ rest))
one_commented started e es this comment rest is skipped others = (this, comment ++ rest, rest, refl, skipped, is, others)

read_step : (m : ℕ) (doc : Document) (x : List ℕ) (e : Expression) (after : List ℕ) (es : List Expression) (defined : Option Document) → defined ≡ define doc e → 0 < m → (length (skip_blank x) == 0) ≡ false
    → line (skip_blank x) ≡ Some (e, after) → ((next : Document) → lines (m - 1) next after ≡ option_and_then (λ n. run n es) (Some next)) → lines m doc x ≡ option_and_then (λ n. run n es) defined
read_step m doc x e after es None same some other read more = lines_refused m doc x e after some other read (sym same)
read_step m doc x e after es (Some next) same some other read more = lines_more m doc next x e after some other read (sym same) ∙ more next

pub read_lines : (started : Bool) (es : List Expression) (text x : List ℕ) (doc : Document) (m : ℕ) → AreLines started es text → AllPrinted es
    → skip_blank x ≡ skip_blank text → length x < m → lines m doc x ≡ run doc es
read_lines started [] text x doc m are ok skip room =
    lines_end m doc x (omega arith) (ap length (skip ∙ are))
read_lines started (e ∷ es) text x doc m are ok skip room =
    let (this, rest, more, whole, same_rest, line_text, others) = are in
    let (s, at_start, read, some, shorter, not_bom) = line_turn true started e.0 e.1 this rest line_text ok.0 in
    let same : skip_blank x ≡ s = skip ∙ rw whole at_start in
    let other : (length (skip_blank x) == 0) ≡ false = rw same (grind (arith, nat_tests)) in
    let within = skip_within x in
    read_step m doc x e (10 ∷ rest) es (define doc e) refl (omega arith) other (rw same read)
    (λ next. read_lines true es more (10 ∷ rest) next (m - 1) others ok.1 (skip_newline rest ∙ same_rest) (omega (arith, ap length same)))
