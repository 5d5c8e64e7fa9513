-- What the lines of a text in the usual form make of a document.
use Rattle.std.proofs.Common.{◌≡◌, ℕ, suc, ◌-◌, ◌<◌, ◌≤◌, is_some, length, arith, Ordering, Less, Equal, Greater, true, false, ◌==◌, slice_index, take, drop, nat_cmp, is_eq, cond, List, [], ◌∷◌, Option, Some, None, option_map, String, Global, string_bytes, refl, sym, subst, ap, ◌∙◌, inl, inr, ◌⊎◌}
use Rattle.std.proofs.lemmas.Bool.Decides.{nat_tests}
use Rattle.std.proofs.lemmas.List.Sums.{prefix_len_passes}
use Rattle.std.specs.BTreeMap.{insert_entry, is_at}
use Rattle.std.specs.Cmp.Lexicographic.{slice_cmp}
use Rattle.std.specs.Map.{lookup}
use Rattle.std.specs.Ordering.{match_ordering}
use Rattle.std.specs.String.{string_cmp}
use Rattle.std.specs.List.{prefix_len}
use Rattle.toml_parser.specs.Lexical.{first, skip_ws, skip_blank, is_bare}
use Rattle.toml_parser.specs.Strings.{key, starts_string, key_after, simple_key, recursion_limit}
use Rattle.toml.specs.Data.{Data, array, table, Items, no_items, Members, no_members, member, push_item}
use Rattle.toml.specs.View.{view, members_view}
use Rattle.toml.specs.declared.value.Value.{Value}
use Rattle.toml.specs.Tables.{Node, Nodes, no_nodes, node, value, open_array, get_node, insert, replace, Document, along_header, along_dots, put, define, close, close_node, key_value, array_table}
use Rattle.toml.specs.Parse.{val, line, lines, skip_bom, parse_document, expression, key_equals, header_key}
use Rattle.toml.proofs.NodeLaws.{get_node-insert, replace-insert, along_found}
use Rattle.toml.proofs.Turns.{at_key_ok, at_key_new, document_some, lines_end, lines_more}
use Rattle.toml.proofs.Views.{Entry, at_text}
use Rattle.plain_tables.specs.Plain.{valued, IsPlace, IsPut, GoesOn, HasDone, AreTables, with_tables, header_of, is_end}

-- what is complete stands for itself
pub close-valued : (ms : Members) → close (valued ms) ≡ ms
unfolding valued
close-valued no_members = refl
close-valued (member k d ms) = ap (member k d) (close-valued ms)

match_valued : (o : Ordering) (a b c : List Entry)
    → valued (members_view (match_ordering o a b c)) ≡ match_ordering o (valued (members_view a)) (valued (members_view b)) (valued (members_view c))
match_valued Less a b c = refl
match_valued Equal a b c = refl
match_valued Greater a b c = refl

-- the map of a table takes a pair as the nodes do
pub valued-insert_entry : (es : List Entry) (k : String Global) (v : Value)
    → valued (members_view (insert_entry string_cmp es k v)) ≡ insert (string_bytes k) (value (view v)) (valued (members_view es))
unfolding valued
valued-insert_entry [] k v = refl
valued-insert_entry (e ∷ es) k v = match_valued (string_cmp k e.0) _ _ _ ∙ rw (valued-insert_entry es k v)

missing_or : (o : Ordering) (x : Value) (rest : Option Value) (d : Option Node) → (rest ≡ None → d ≡ None)
    → cond (is_eq o) (Some x) rest ≡ None → cond (is_eq o) (Some (value (view x))) d ≡ None
missing_or Less x rest d more h = more h
missing_or Equal x rest d more h = cc
missing_or Greater x rest d more h = more h

pub get_node-missing : (k : List ℕ) (es : List Entry) → lookup (is_at (at_text k)) es ≡ None → get_node k (valued (members_view es)) ≡ None
unfolding valued
get_node-missing k [] h = refl
get_node-missing k (e ∷ es) h = missing_or (at_text k e.0) e.1 _ _ (get_node-missing k es) h

pub cases_ordering : (o : Ordering) → (o ≡ Less) ⊎ ((o ≡ Equal) ⊎ (o ≡ Greater))
cases_ordering Less = inl refl
cases_ordering Equal = inr (inl refl)
cases_ordering Greater = inr (inr refl)

-- of a node only what it stands for is seen in the end
pub close-insert : (k : List ℕ) (x y : Node) (ns : Nodes) → close_node x ≡ close_node y → close (insert k x ns) ≡ close (insert k y ns)
close-insert k x y no_nodes same = rw same
close-insert k x y (node l z ns) same =
    elim (cases_ordering (slice_cmp nat_cmp k l)) [
      | inl less ↦ rw (less, same)
      | inr other ↦ elim other [
        | inl tie ↦ rw (tie, same)
        | inr more ↦ rw (more, close-insert k x y ns same)
      ]
    ]

kept : (o : Option Nodes) → o ≡ option_map (λ ns. ns) o
kept None = refl
kept (Some ns) = refl

pub at_top : IsPlace (λ ns. ns) []
unfolding along_header
at_top edit ns = kept (edit ns)

edited : (under : List ℕ) (top : Members) (done : Items) (ns : Nodes) (o : Option Nodes)
    → option_map (λ new. replace under new (with_tables under top done ns)) (option_map (open_array done) o) ≡ option_map (with_tables under top done) o
edited under top done ns None = refl
edited under top done ns (Some new) = ap Some (replace-insert under (open_array done ns) (open_array done new) (valued top))

pub in_last : (under : List ℕ) (top : Members) (done : Items) → IsPlace (with_tables under top done) (under ∷ [])
unfolding along_header
in_last under top done edit ns =
    along_found under [] edit (with_tables under top done ns) (open_array done ns) (get_node-insert under (open_array done ns) (valued top))
    ∙ edited under top done ns (edit ns)

pub defines_pair : (around : Nodes → Nodes) (section : List (List ℕ)) → IsPlace around section → (ms : Members) (k : List ℕ) (d : Data)
    → get_node k (valued ms) ≡ None
    → define (around (valued ms), section) (([], k), key_value d) ≡ Some (around (insert k (value d) (valued ms)), section)
unfolding define along_dots
defines_pair around section place ms k d none = rw (place (put ([], k) d) (valued ms), at_key_new k (key_value d) (valued ms) none)

pub defines_first : (under : List ℕ) (top : Members) → get_node under (valued top) ≡ None
    → define (valued top, []) (header_of under) ≡ Some (with_tables under top no_items no_nodes, under ∷ [])
unfolding define along_header
defines_first under top none = rw (at_key_new under array_table (valued top) none)

pub defines_next : (under : List ℕ) (top : Members) (done : Items) (last : Members)
    → define (with_tables under top done (valued last), under ∷ []) (header_of under)
    ≡ Some (with_tables under top (push_item done (table last)) no_nodes, under ∷ [])
unfolding define along_header
defines_next under top done last =
    let ns = with_tables under top done (valued last) in
    let before = open_array done (valued last) in
    let more = open_array (push_item done (table last)) no_nodes in
    let same : open_array (push_item done (table (close (valued last)))) no_nodes ≡ more = rw (close-valued last) in
    rw (at_key_ok under array_table ns (with_tables under top (push_item done (table last)) no_nodes) before more
    (get_node-insert under before (valued top)) (ap Some same) (sym (replace-insert under before more (valued top))))

pub pair_line : (text at_equals at_value rest k : List ℕ) (d : Data) → (first text == 91) ≡ false → key text ≡ Some (([], k), at_equals)
    → (first at_equals == 61) ≡ true → at_value ≡ skip_ws (drop 1 at_equals) → val recursion_limit at_value ≡ Some (d, rest) → is_end rest ≡ true
    → line text ≡ Some ((([], k), key_value d), rest)
unfolding line expression key_equals
pair_line text at_equals at_value rest k d no_header named equal same read over = rw (no_header, named, equal, ← same, read, over)

pub header_line : (under text inside rest : List ℕ) → (first text == 91) ≡ true → (slice_index text 1 == 91) ≡ true
    → key (skip_ws (drop 2 text)) ≡ Some (([], under), inside) → (first inside == 93) ≡ true → (first (drop 1 inside) == 93) ≡ true
    → rest ≡ drop 1 (drop 1 inside) → is_end rest ≡ true
    → line text ≡ Some (header_of under, rest)
unfolding line expression header_key
header_line under text inside rest open_one open_two named close_one close_two same over = rw (open_one, open_two, named, close_one, close_two, ← same, over)

pub none_of : {A : Type 0} (o : Option A) → is_some o ≡ false → o ≡ None
none_of None h = refl
none_of (Some x) h = cc

not_empty : (n m : ℕ) → n < m → (m == 0) ≡ false
not_empty n m h = grind (arith, nat_tests)

-- a pair of a map
pub map_put : (es : List Entry) (k : String Global) (name : List ℕ) (v : Value) → string_bytes k ≡ name → lookup (is_at (string_cmp k)) es ≡ None
    → IsPut (members_view es) name (view v) (members_view (insert_entry string_cmp es k v))
map_put es k name v named missing =
    subst (λ n. IsPut (members_view es) n (view v) (members_view (insert_entry string_cmp es k v))) named
    (get_node-missing (string_bytes k) es missing, sym (valued-insert_entry es k v))

-- one more pair, wherever it stands
pub pair_goes_on : (around : Nodes → Nodes) (section : List (List ℕ)) → IsPlace around section → (ms now : Members) (k : List ℕ) (d : Data) (m : ℕ) (text after : List ℕ)
    → 0 < m → line (skip_blank text) ≡ Some ((([], k), key_value d), after) → length after < length (skip_blank text) → IsPut ms k d now
    → lines m (around (valued ms), section) text ≡ lines (m - 1) (around (valued now), section) after
pair_goes_on around section place ms now k d m text after some read shorter put =
    lines_more m (around (valued ms), section) (around (insert k (value d) (valued ms)), section) text (([], k), key_value d) after some (not_empty _ _ shorter) read
    (defines_pair around section place ms k d put.0)
    ∙ ap (λ ns. lines (m - 1) (around ns, section) after) put.1

-- the next table under the key, and the one before complete
pub header_goes_on : (under : List ℕ) (top : Members) (done : Items) (last : Members) (m : ℕ) (text behind : List ℕ)
    → 0 < m → line (skip_blank text) ≡ Some (header_of under, behind) → length behind < length (skip_blank text)
    → lines m (with_tables under top done (valued last), under ∷ []) text
    ≡ lines (m - 1) (with_tables under top (push_item done (table last)) no_nodes, under ∷ []) behind
header_goes_on under top done last m text behind some read shorter =
    lines_more m (with_tables under top done (valued last), under ∷ []) (with_tables under top (push_item done (table last)) no_nodes, under ∷ [])
    text (header_of under) behind some (not_empty _ _ shorter) read (defines_next under top done last)

-- the last table complete at the end of the text
pub last_closed : (under : List ℕ) (top : Members) (done : Items) (last : Members)
    → close (with_tables under top done (valued last)) ≡ close (insert under (value (array (push_item done (table last)))) (valued top))
last_closed under top done last =
    close-insert under (open_array done (valued last)) (value (array (push_item done (table last)))) (valued top) (rw (close-valued last))

-- the first table under the key
pub first_header : (under : List ℕ) (top : Members) (m : ℕ) (text behind : List ℕ) → get_node under (valued top) ≡ None
    → 0 < m → line (skip_blank text) ≡ Some (header_of under, behind) → length behind < length (skip_blank text)
    → lines m (valued top, []) text ≡ lines (m - 1) (with_tables under top no_items no_nodes, under ∷ []) behind
first_header under top m text behind missing some read shorter =
    lines_more m (valued top, []) (with_tables under top no_items no_nodes, under ∷ []) text (header_of under) behind some (not_empty _ _ shorter) read
    (defines_first under top missing)

no_bom : (text : List ℕ) → (first text == 0xEF) ≡ false → skip_bom text ≡ text
unfolding skip_bom
no_bom text other = rw other

-- a text whose lines make this document
pub document_of : (text : List ℕ) (doc : Document) → (first text == 0xEF) ≡ false → lines (suc (length text)) (no_nodes, []) text ≡ Some doc
    → parse_document text ≡ Some (close doc.0)
document_of text doc other read = document_some text doc (rw (no_bom text other) read)

-- a key without quotes and dots
pub bare_read : (text word rest after : List ℕ) (count : ℕ) → count ≡ prefix_len is_bare text → 0 < count → starts_string text ≡ false → word ≡ take count text → rest ≡ drop count text
    → after ≡ skip_ws rest → (first after == 46) ≡ false → key text ≡ Some (([], word), after)
unfolding key_after simple_key
bare_read text word rest after count same some no_string is_word is_rest is_after no_dot =
    let more : 0 < prefix_len is_bare text = omega (arith, same, some) in
    let word_is : word ≡ take (prefix_len is_bare text) text = is_word ∙ ap (λ n. take n text) same in
    let after_is : after ≡ skip_ws (drop (prefix_len is_bare text) text) = is_after ∙ ap skip_ws (is_rest ∙ ap (λ n. drop n text) same) in
    let here = rw after_is at no_dot in
    let bare : is_bare (first text) ≡ true = prefix_len_passes is_bare text 0 0 more in
    rw (no_string, bare, here, word_is, after_is) refl

-- a pair on the next line
pub put_goes_on : (ms now : Members) (k : List ℕ) (d : Data) (text after : List ℕ) → line (skip_blank text) ≡ Some ((([], k), key_value d), after)
    → length after < length (skip_blank text) → length (skip_blank text) ≤ length text → IsPut ms k d now → GoesOn ms text now after
put_goes_on ms now k d text after read shorter within put = (
  omega (arith, shorter, within),
  λ around section place n few. (
    n - 1,
    omega (arith, few, shorter, within),
    pair_goes_on around section place ms now k d n text after (omega (arith, few)) read shorter put,
  ),
)

-- some pairs, and behind them some more
pub both_go_on : (ms more all : Members) (text rest after : List ℕ) → GoesOn ms text more rest → GoesOn more rest all after → GoesOn ms text all after
both_go_on ms more all text rest after one two = (
  omega (arith, one.0, two.0),
  λ around section place n few.
      let (m, room, here) = one.1 around section place n few in
      let (k, left, there) = two.1 around section place m room in
      (k, left, here ∙ there),
)

-- ---- the tables under a key, one after the other

pub none_done : (under text : List ℕ) → HasDone under text no_items text
none_done under text top n few = (n, few, refl)

-- one more is complete where the header of the next comes
pub one_done : (under text rest after behind : List ℕ) (done : Items) (last : Members) → HasDone under text done rest → GoesOn no_members rest last after
    → line (skip_blank after) ≡ Some (header_of under, behind) → length behind < length (skip_blank after) → length (skip_blank after) ≤ length after
    → HasDone under text (push_item done (table last)) behind
unfolding valued
one_done under text rest after behind done last so_far more read shorter within =
    λ top n few.
    let (m, room, here) = so_far top n few in
    let (k, left, with_last) = more.1 (with_tables under top done) (under ∷ []) (in_last under top done) m room in (
      k - 1,
      omega (arith, left, within, shorter),
      here ∙ with_last ∙ header_goes_on under top done last k after behind (omega (arith, left)) read shorter,
    )

-- the last is complete where the text is over
pub all_done : (under text rest after : List ℕ) (done : Items) (last : Members) → HasDone under text done rest → GoesOn no_members rest last after
    → length (skip_blank after) ≡ 0 → AreTables under text (push_item done (table last))
unfolding valued
all_done under text rest after done last so_far more over =
    λ top n few.
    let (m, room, here) = so_far top n few in
    let (k, left, with_last) = more.1 (with_tables under top done) (under ∷ []) (in_last under top done) m room in (
      (with_tables under top done (valued last), under ∷ []),
      here ∙ with_last ∙ lines_end k (with_tables under top done (valued last), under ∷ []) after (omega (arith, left)) over,
      last_closed under top done last,
    )
