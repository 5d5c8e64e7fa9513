-- Each map of a source is judged: nothing stops `check --map`.
use Rattle.std.proofs.Common.{◌≡◌, ℕ, zero, suc, ◌+◌, ◌*◌, ◌/◌, ◌%◌, ◌<◌, ◌≤◌, Bool, true, false, ◌&&◌, ◌||◌, not, ◌==◌, nat_lt, cond, List, [], ◌∷◌, ◌++◌, codes, decimal, length, map, length-append, All, Result, Ok, Err, refl, sym, ◌∙◌, ap, subst, arith}
use Rattle.std.specs.List.{list_all, flat_map}
use Rattle.std.specs.Fmt.{digits, digits_onto, digit_glyph}
use Rattle.std.specs.Str.{is_utf8}
use Rattle.std.proofs.lemmas.Bool.{and_parts, cond-true, cond-false, le-ltb, ltb-true, lt-ltb}
use Rattle.std.proofs.lemmas.List.Elements.{All-nil, All-cons}
use Rattle.std.proofs.lemmas.List.Folds.{list_all-append}
use Rattle.std.proofs.lemmas.Nat.{mod_below}
use Rattle.std.proofs.lemmas.Str.{encode_ascii, IsUtf8-from_ascii, is_utf8-from_IsUtf8}
use Rattle.std.proofs.lemmas.Str.Ascii.{IsAscii-from_all}
use Rattle.ds_codec.specs.Reading.{◌>>=◌}
use Rattle.ds_codec.proofs.Below.{each_below}
use Rattle.bms_source.specs.Printed.{printed_codes}
use Rattle.bms_source.specs.Words.{is_of_symbol, begins_symbol}
use Rattle.bms_map.specs.declared.record.Control.{Control}
use Rattle.bms_map.specs.Fit.{Each, IsFit}
use Rattle.bms_map.specs.LayoutText.{lower, numbered, place_of, kind_word, label_text, name_line, place_lines, kind_line, comment, entry_text, size_lines, screen_word, top_lines, layout_text}
use Rattle.bms_map.specs.Maps.{Shown, Sheet, default_rows}
use Rattle.bms_map.specs.Overlaps.{is_input}
use Rattle.bms_map.proofs.MapsetLaws.{maps_are_fit}
use Rattle.scr_layout.specs.Fault.{not_toml}
use Rattle.scr_layout.specs.Layout.{Declaration, layout_of}
use Rattle.scr_draft.proofs.NameLaws.{either_way}
use Rattle.cli_commands.specs.declared.fault.Fault.{Fault}
use Rattle.cli_commands.specs.declared.fault.Fault.TheVariants.{TooLong}
use Rattle.cli_commands.specs.LayoutText.{layout_said, layout_or_fault, layout_in}
use Rattle.cli_commands.specs.Lines.{within_limit}
use Rattle.cli_maps.specs.Judged.{written_or_fault, record_due, judged, judge_with}
use Rattle.cli_maps.specs.Kept.{IsJudged, MapsAreJudged}
use Rattle.cli_maps.specs.Layouts.{declared_fields, declaration_of}
use Rattle.cli_maps.proofs.DeclaredLaws.{IsDeclaredOn, all_declared, few_kept}
use Rattle.cli_maps.proofs.LayoutLaws.{only_declared, is_read}
use Rattle.cli_maps.proofs.ScreenLaws.{fit_shown}

-- ---- plain texts, of so many characters at most
abbrev AreSmall : List ℕ → Type 0
AreSmall text = list_all (λ b. nat_lt b 128) text ≡ true

record Plain (most : ℕ) (text : List ℕ) : Type 0 where
  small : AreSmall text
  few : length text ≤ most

join : (a b : ℕ) (x y : List ℕ) → Plain a x → Plain b y → Plain (a + b) (x ++ y)
join a b x y one other =
    let whole = length-append x y in
    let few = one.few in
    let more = other.few in
    record { small = list_all-append (λ c. nat_lt c 128) x y ∙ ap (λ c. c && list_all (λ d. nat_lt d 128) y) one.small ∙ other.small; few = omega (arith, whole, few, more) }

wide : (a b : ℕ) (x : List ℕ) → a ≤ b → Plain a x → Plain b x
wide a b x le plain = let few = plain.few in record { small = plain.small; few = omega (arith, le, few) }

digit_small : (d : ℕ) → d < 10 → nat_lt (digit_glyph false d) 128 ≡ true
digit_small d less = each_below (λ n. nat_lt (digit_glyph false n) 128) 10 d refl less

digits_plain : (k n m : ℕ) (acc : List ℕ) → Plain m acc → Plain (k + m) (digits_onto k 10 false n acc)
digits_plain zero n m acc plain = wide m (zero + m) acc (omega arith) plain
digits_plain (suc k) n m acc plain =
    let few = plain.few in
    let one : Plain (suc m) (digit_glyph false (n % 10) ∷ acc) =
    record { small = ap (λ c. c && list_all (λ d. nat_lt d 128) acc) (digit_small (n % 10) (mod_below n 10 (omega arith))) ∙ plain.small; few = omega (arith, few) } in
    elim (n / 10 == 0) as (λ b. Plain (suc k + m) (cond b (digit_glyph false (n % 10) ∷ acc) (digits_onto k 10 false (n / 10) (digit_glyph false (n % 10) ∷ acc)))) [
      | true ↦ wide (suc m) (suc k + m) (digit_glyph false (n % 10) ∷ acc) (omega arith) one
      | false ↦ wide (k + suc m) (suc k + m) (digits_onto k 10 false (n / 10) (digit_glyph false (n % 10) ∷ acc)) (omega arith) (digits_plain k (n / 10) (suc m) (digit_glyph false (n % 10) ∷ acc) one)
    ]

decimal_plain : (n : ℕ) → Plain 64 (decimal n)
unfolding digits
decimal_plain n = wide (64 + 0) 64 (digits 10 false n) (omega arith) (digits_plain 64 n 0 [] (record { small = refl; few = omega arith }))

numbered_plain : (before behind : List ℕ) (n : ℕ) → Plain 1 before → Plain 1 behind → Plain 66 (numbered before behind n)
numbered_plain before behind n one other = elim (n == 0) as (λ b. Plain 66 (cond b [] (before ++ (decimal n ++ behind)))) [
  | true ↦ record { small = refl; few = omega arith }
  | false ↦ wide (1 + (64 + 1)) 66 (before ++ (decimal n ++ behind)) (omega arith) (join 1 (64 + 1) before (decimal n ++ behind) one (join 64 1 (decimal n) behind (decimal_plain n) other))
]

small_symbol : (c : ℕ) → is_of_symbol c ≡ true → c < 128
unfolding begins_symbol
small_symbol c e = grind (arith, e)

lower_small : (c : ℕ) → is_of_symbol c ≡ true → lower c < 128
unfolding begins_symbol
lower_small c e = ltb-true (lower c) 128 (either_way (is_of_symbol c) (nat_lt (lower c) 128) (each_below (λ b. not (is_of_symbol b) || nat_lt (lower b) 128) 128 c refl (small_symbol c e)) e)

-- a label as it is printed, and in lower case
label_plain : (f : ℕ → ℕ) → ((c : ℕ) → is_of_symbol c ≡ true → f c < 128) → (label : List ℕ) → list_all is_of_symbol label ≡ true → Plain (length label) (printed_codes (map f label))
label_plain f small [] all = record { small = refl; few = omega arith }
label_plain f small (c ∷ cs) all =
    let parts = and_parts (is_of_symbol c) (list_all is_of_symbol cs) all in
    let less = small c parts.0 in
    let more = label_plain f small cs parts.1 in
    let few = more.few in
    subst (λ (l : List ℕ). Plain (length (c ∷ cs)) (l ++ printed_codes (map f cs))) (sym (encode_ascii (f c) less))
    (record { small = ap (λ b. b && list_all (λ d. nat_lt d 128) (printed_codes (map f cs))) (lt-ltb (f c) 128 less) ∙ more.small; few = omega (arith, few) })

map_same : (label : List ℕ) → map (λ c. c) label ≡ label
map_same [] = refl
map_same (c ∷ cs) = ap (λ l. c ∷ l) (map_same cs)

own_plain : (label : List ℕ) → list_all is_of_symbol label ≡ true → Plain (length label) (printed_codes label)
own_plain label all = subst (λ (l : List ℕ). Plain (length label) (printed_codes l)) (map_same label) (label_plain (λ c. c) small_symbol label all)

not_zero : (m : ℕ) → 1 ≤ m → (m == 0) ≡ false
not_zero m some = grind (arith, some)

-- ---- the text of a layout
label_few : (it : Sheet) (d : Shown) → IsDeclaredOn it d → length d.label ≤ 32
label_few it d is = let short = is.named.short in omega (arith, short)

name_plain : (it : Sheet) (d : Shown) → IsDeclaredOn it d → Plain 150 (name_line d)
name_plain it d is =
    let few = label_few it d is in
    let label = wide (length d.label) 32 (printed_codes (map lower d.label)) few (label_plain lower lower_small d.label is.named.symbol) in
    wide (19 + (32 + (66 + 2))) 150 (name_line d) (omega arith)
    (join 19 (32 + (66 + 2)) (codes "\n[[field]]\nname = \"") _ (record { small = refl; few = omega arith })
    (join 32 (66 + 2) (printed_codes (map lower d.label)) _ label
    (join 66 2 (numbered (codes "-") [] d.occurrence) (codes "\"\n") (numbered_plain (codes "-") [] d.occurrence (record { small = refl; few = omega arith }) (record { small = refl; few = omega arith })) (record { small = refl; few = omega arith }))))

place_plain : (it : Sheet) (d : Shown) → Plain 220 (place_lines it d)
place_plain it d =
    let row = decimal (place_of it d / it.area.screen.cols + 1) in
    let col = decimal (place_of it d % it.area.screen.cols + 1) in
    wide (6 + (64 + (7 + (64 + (10 + (64 + 1)))))) 220 (place_lines it d) (omega arith)
    (join 6 (64 + (7 + (64 + (10 + (64 + 1))))) (codes "row = ") _ (record { small = refl; few = omega arith })
    (join 64 (7 + (64 + (10 + (64 + 1)))) row _ (decimal_plain (place_of it d / it.area.screen.cols + 1))
    (join 7 (64 + (10 + (64 + 1))) (codes "\ncol = ") _ (record { small = refl; few = omega arith })
    (join 64 (10 + (64 + 1)) col _ (decimal_plain (place_of it d % it.area.screen.cols + 1))
    (join 10 (64 + 1) (codes "\nlength = ") _ (record { small = refl; few = omega arith })
    (join 64 1 (decimal d.length) (codes "\n") (decimal_plain d.length) (record { small = refl; few = omega arith })))))))

word_plain : (b : Bool) → Plain 5 (kind_word b)
word_plain true = record { small = refl; few = omega arith }
word_plain false = record { small = refl; few = omega arith }

kind_plain : (d : Shown) → Plain 20 (kind_line d)
kind_plain d =
    wide (8 + (5 + 2)) 20 (kind_line d) (omega arith)
    (join 8 (5 + 2) (codes "kind = \"") _ (record { small = refl; few = omega arith }) (join 5 2 (kind_word (is_input d)) (codes "\"\n") (word_plain (is_input d)) (record { small = refl; few = omega arith })))

told_plain : (it : Sheet) (d : Shown) → IsDeclaredOn it d → Plain 98 (label_text d)
told_plain it d is =
    let few = label_few it d is in
    subst (Plain 98) (sym (cond-false (length d.label == 0) _ (printed_codes d.label ++ numbered (codes "(") (codes ")") d.occurrence) (not_zero (length d.label) is.label)))
    (join 32 66 (printed_codes d.label) (numbered (codes "(") (codes ")") d.occurrence) (wide (length d.label) 32 (printed_codes d.label) few (own_plain d.label is.named.symbol))
    (numbered_plain (codes "(") (codes ")") d.occurrence (record { small = refl; few = omega arith }) (record { small = refl; few = omega arith })))

comment_plain : (it : Sheet) (d : Shown) → IsDeclaredOn it d → Plain 172 (comment d)
comment_plain it d is =
    wide (2 + (98 + (7 + (64 + 1)))) 172 (comment d) (omega arith)
    (join 2 (98 + (7 + (64 + 1))) (codes "# ") _ (record { small = refl; few = omega arith })
    (join 98 (7 + (64 + 1)) (label_text d) _ (told_plain it d is)
    (join 7 (64 + 1) (codes ", line ") _ (record { small = refl; few = omega arith })
    (join 64 1 (decimal d.line) (codes "\n") (decimal_plain d.line) (record { small = refl; few = omega arith })))))

entry_plain : (it : Sheet) (d : Shown) → IsDeclaredOn it d → Plain 600 (entry_text it d)
entry_plain it d is =
    wide (150 + (220 + (20 + 172))) 600 (entry_text it d) (omega arith)
    (join 150 (220 + (20 + 172)) (name_line d) _ (name_plain it d is) (join 220 (20 + 172) (place_lines it d) _ (place_plain it d) (join 20 172 (kind_line d) (comment d) (kind_plain d) (comment_plain it d is))))

entries_plain : (it : Sheet) (ds : List Shown) → Each (IsDeclaredOn it) ds → Plain (600 * length ds) (flat_map (entry_text it) ds)
entries_plain it [] each = record { small = refl; few = omega arith }
entries_plain it (d ∷ ds) each =
    wide (600 + 600 * length ds) (600 * length (d ∷ ds)) (flat_map (entry_text it) (d ∷ ds)) (omega arith)
    (join 600 (600 * length ds) (entry_text it d) (flat_map (entry_text it) ds) (entry_plain it d each.0) (entries_plain it ds each.1))

screen_plain : (b : Bool) → Plain 9 (screen_word b)
screen_plain true = record { small = refl; few = omega arith }
screen_plain false = record { small = refl; few = omega arith }

top_plain : (it : Sheet) → Plain 400 (top_lines it)
top_plain it =
    wide ((32 + (64 + (1 + (64 + 2)))) + (10 + (9 + 2))) 400 (top_lines it) (omega arith)
    (join (32 + (64 + (1 + (64 + 2)))) (10 + (9 + 2)) (size_lines it) _
    (join 32 (64 + (1 + (64 + 2))) (codes "default = \"24x80\"\nalternate = \"") _ (record { small = refl; few = omega arith })
    (join 64 (1 + (64 + 2)) (decimal it.area.screen.rows) _ (decimal_plain it.area.screen.rows)
    (join 1 (64 + 2) (codes "x") _ (record { small = refl; few = omega arith })
    (join 64 2 (decimal it.area.screen.cols) (codes "\"\n") (decimal_plain it.area.screen.cols) (record { small = refl; few = omega arith })))))
    (join 10 (9 + 2) (codes "screen = \"") _ (record { small = refl; few = omega arith })
    (join 9 2 (screen_word (it.area.screen.rows == default_rows)) (codes "\"\n") (screen_plain (it.area.screen.rows == default_rows)) (record { small = refl; few = omega arith }))))

layout_plain : (it : Sheet) → IsFit it → Plain 600400 (layout_text it)
layout_plain it fit =
    let ds = declared_fields it in
    let few = few_kept it.fields in
    let most = fit.few in
    subst (λ (l : List ℕ). Plain 600400 (top_lines it ++ l)) (sym (only_declared it it.fields))
    (wide (400 + 600 * length ds) 600400 (top_lines it ++ flat_map (entry_text it) ds) (omega (arith, few, most))
    (join 400 (600 * length ds) (top_lines it) (flat_map (entry_text it) ds) (top_plain it) (entries_plain it ds (all_declared it it.fields fit.fields fit.named))))

all_small : (text : List ℕ) → AreSmall text → All (λ b. b < 128) text
all_small [] e = All-nil (λ b. b < 128)
all_small (c ∷ cs) e = let parts = and_parts (nat_lt c 128) (list_all (λ b. nat_lt b 128) cs) e in All-cons (λ b. b < 128) c cs (ltb-true c 128 parts.0) (all_small cs parts.1)

utf8_plain : (text : List ℕ) → AreSmall text → is_utf8 text ≡ true
utf8_plain text e = is_utf8-from_IsUtf8 text (IsUtf8-from_ascii text (IsAscii-from_all text (all_small text e)))

-- ---- a map is judged
limit_good : (text : List ℕ) → length text ≤ 16777216 → within_limit text ≡ Ok text
unfolding within_limit
limit_good text few = ap (λ (r : Result (Unit {0}) Fault). r >>= λ short. Ok text) (cond-false (nat_lt 16777216 (length text)) (Err TooLong) (Ok tt) (le-ltb 16777216 (length text) few))

layout_read : (it : Sheet) → IsFit it → layout_in (layout_text it) ≡ Ok (declaration_of it)
layout_read it fit =
    let plain = layout_plain it fit in
    let few = plain.few in
    let said : layout_said (layout_text it) ≡ Ok (declaration_of it) = cond-true (is_utf8 (layout_text it)) (layout_of (layout_text it)) (Err not_toml) (utf8_plain (layout_text it) plain.small) ∙ (is_read it fit).read in
    ap (λ (r : Result (List ℕ) Fault). r >>= λ text. layout_or_fault (layout_said text)) (limit_good (layout_text it) (omega (arith, few))) ∙ ap layout_or_fault said

is_judged : (control : Control) (it : Sheet) → IsFit it → IsJudged control it
is_judged control it fit =
    let shown = fit_shown control it fit in
    let due : record_due control it ≡ Ok shown.bytes = ap written_or_fault shown.written in (
      shown.bytes,
      ap (λ (r : Result Declaration Fault). r >>= judge_with control it) (layout_read it fit)
          ∙ ap (λ (r : Result (List ℕ) Fault). r >>= λ bytes. Ok (judged it (declaration_of it) (bytes ∷ []))) due,
    )

each_judged : (control : Control) (maps : List Sheet) → Each IsFit maps → Each (IsJudged control) maps
each_judged control [] each = tt
each_judged control (it ∷ maps) each = (is_judged control it each.0, each_judged control maps each.1)

pub maps_are_judged : MapsAreJudged
maps_are_judged source maps is control = each_judged control maps (maps_are_fit source maps is)
