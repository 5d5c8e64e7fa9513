-- The tables of the fields, read one after the other, and what the whole document says.
use Rattle.std.proofs.Common.{◌≡◌, ℕ, ◌+◌, ◌≤◌, Ordering, Less, Equal, Greater, true, false, nat_cmp, is_eq, List, [], ◌∷◌, ◌++◌, length, length-append, cond, Option, Some, None, option_map, Ok, refl, sym, ap, ◌∙◌, inl, inr}
use Rattle.std.specs.Cmp.Lexicographic.{slice_cmp}
use Rattle.std.specs.Ordering.{match_ordering}
use Rattle.std.proofs.lemmas.Bool.{and_parts}
use Rattle.toml.proofs.NodeLaws.{get_node-insert}
use Rattle.ds_codec.specs.declared.size.Size.{Size}
use Rattle.toml.specs.Data.{Data, string, integer, float, boolean, datetime, array, table, Items, no_items, item, Members, no_members, member, get_member, push_item, same_key}
use Rattle.toml.specs.Tables.{Node, Nodes, no_nodes, node, value, get_node, insert, close, close_node}
use Rattle.scr_layout.specs.declared.fault.LayoutKey.{LayoutKey}
use Rattle.scr_layout.specs.declared.fault.LayoutKey.TheVariants.{Version as VersionKey, Addresses, Default, Alternate, Screen, Field}
use Rattle.scr_layout.specs.declared.top.Version.{Version}
use Rattle.scr_layout.specs.declared.top.Head.{Head}
use Rattle.scr_layout.specs.Entry.{Declared}
use Rattle.scr_layout.specs.Results.{◌>>=◌, in_field}
use Rattle.scr_layout.specs.Fault.{key_text}
use Rattle.scr_layout.specs.Values.{value_at, is_key, has_only}
use Rattle.scr_layout.specs.Top.{top_keys, version_of, mode_of, default_of, alternate_of, screen_of, fields_of, tables_in, are_tables}
use Rattle.scr_layout.specs.Field.{with_table}
use Rattle.scr_layout.specs.Layout.{entries_of, declaration_of}
use Rattle.plain_tables.specs.Plain.{valued}
use Rattle.scr_layout.specs.Section.{IsHead, declared}
use Rattle.scr_layout.proofs.Steps.{bind_ok, same_ok}
use Rattle.plain_tables.proofs.Laws.{close-valued, cases_ordering}
use Rattle.scr_layout.proofs.ReadLaw.{tables_of-read}

-- ---- one table more

pub pushed_in : (done : Items) (ms : Members) → tables_in (push_item done (table ms)) ≡ tables_in done ++ ms ∷ []
pushed_in no_items ms = refl
pushed_in (item (table f) rest) ms = ap (λ l. f ∷ l) (pushed_in rest ms)
pushed_in (item (string s) rest) ms = pushed_in rest ms
pushed_in (item (integer z) rest) ms = pushed_in rest ms
pushed_in (item (float x) rest) ms = pushed_in rest ms
pushed_in (item (boolean b) rest) ms = pushed_in rest ms
pushed_in (item (datetime t) rest) ms = pushed_in rest ms
pushed_in (item (array ds) rest) ms = pushed_in rest ms

pub pushed_tables : (done : Items) (ms : Members) → are_tables (push_item done (table ms)) ≡ are_tables done
pushed_tables no_items ms = refl
pushed_tables (item (table f) rest) ms = pushed_tables rest ms
pushed_tables (item (string s) rest) ms = refl
pushed_tables (item (integer z) rest) ms = refl
pushed_tables (item (float x) rest) ms = refl
pushed_tables (item (boolean b) rest) ms = refl
pushed_tables (item (datetime t) rest) ms = refl
pushed_tables (item (array ds) rest) ms = refl

pub pushed_count : (done : Items) (ms : Members) → length (tables_in (push_item done (table ms))) ≡ length (tables_in done) + 1
pushed_count done ms = ap length (pushed_in done ms) ∙ length-append (tables_in done) (ms ∷ [])

pub no_entries : (version : Version) (size : Size) (es : List Declared) → es ≡ [] → entries_of version size 0 [] [] ≡ Ok es
unfolding entries_of
no_entries version size es none = ap Ok (sym none)

entries_more : (version : Version) (size : Size) (n : ℕ) (before es now : List Declared) (tables : List Members) (ms : Members) → entries_of version size n before tables ≡ Ok es
    → with_table version size es ms ≡ Ok now → entries_of version size n before (tables ++ ms ∷ []) ≡ Ok now
unfolding entries_of
entries_more version size n before es now [] ms read more =
    let same : before ≡ es = same_ok before es read in
    ap (λ b. in_field n (with_table version size b ms) >>= (λ all. Ok all)) same ∙ ap (λ r. in_field n r >>= (λ all. Ok all)) more
entries_more version size n before es now (first ∷ tables) ms read more =
    let (next, here, rest) = bind_ok (in_field n (with_table version size before first)) (λ all. entries_of version size (n + 1) all tables) es read in
    rw here (entries_more version size (n + 1) next es now tables ms rest more)

pub pushed_entries : (version : Version) (size : Size) (done : Items) (ms : Members) (es now : List Declared) → entries_of version size 0 [] (tables_in done) ≡ Ok es
    → with_table version size es ms ≡ Ok now → entries_of version size 0 [] (tables_in (push_item done (table ms))) ≡ Ok now
pushed_entries version size done ms es now read more =
    ap (entries_of version size 0 []) (pushed_in done ms) ∙ entries_more version size 0 [] es now (tables_in done) ms read more

-- ---- the fields beside the keys at the top

pub passed : (o : Ordering) (a : Option Data) (d : Data) → is_eq o ≡ false → match_ordering o a (Some d) a ≡ a
passed Less a d h = refl
passed Equal a d h = absurd cc
passed Greater a d h = refl

abbrev with_key : List ℕ → Data → Members → Members
with_key k d ms = close (insert k (value d) (valued ms))

found : (o : Ordering) (a : Option Data) (x : Node) → (r : Option Node) → a ≡ option_map close_node r → match_ordering o a (Some (close_node x)) a ≡ option_map close_node (cond (is_eq o) (Some x) r)
found Less a x r h = h
found Equal a x r h = refl
found Greater a x r h = h

get-close : (k : List ℕ) (ns : Nodes) → get_member k (close ns) ≡ option_map close_node (get_node k ns)
get-close k no_nodes = refl
get-close k (node l x ns) = found (slice_cmp nat_cmp k l) (get_member k (close ns)) x (get_node k ns) (get-close k ns)

none_under : {A B : Type 0} (f : A → B) (o : Option A) → option_map f o ≡ None → o ≡ None
none_under f None h = refl
none_under f (Some x) h = absurd cc

pub missing_node : (k : List ℕ) (ms : Members) → get_member k ms ≡ None → get_node k (valued ms) ≡ None
missing_node k ms none = none_under close_node (get_node k (valued ms)) (sym (get-close k (valued ms)) ∙ ap (get_member k) (close-valued ms) ∙ none)

same_there : (k : List ℕ) (d : Data) (ms : Members) → get_member k (with_key k d ms) ≡ Some d
same_there k d ms = get-close k (insert k (value d) (valued ms)) ∙ ap (option_map close_node) (get_node-insert k (value d) (valued ms))

other_there : (q k : List ℕ) (d : Data) (ms : Members) → get_node k (valued ms) ≡ None → same_key q k ≡ false → get_member q (with_key k d ms) ≡ get_member q ms
unfolding valued
other_there q k d no_members none apart = passed (slice_cmp nat_cmp q k) None d apart
other_there q k d (member l e rest) none apart =
    elim (cases_ordering (slice_cmp nat_cmp k l)) [
      | inl less ↦ rw (less, close-valued rest) (passed (slice_cmp nat_cmp q k) (get_member q (member l e rest)) d apart)
      | inr other ↦ elim other [
        | inl tie ↦ let there = rw tie at none in absurd cc
        | inr more ↦ let missing = rw more at none in rw (more, other_there q k d rest missing apart)
      ]
    ]

keys_there : (keys : List LayoutKey) (k : List ℕ) (d : Data) (ms : Members) → is_key keys k ≡ true → has_only keys ms ≡ true → has_only keys (with_key k d ms) ≡ true
unfolding valued
keys_there keys k d no_members one all = rw one
keys_there keys k d (member l e rest) one all =
    let both = and_parts (is_key keys l) (has_only keys rest) all in
    elim (cases_ordering (slice_cmp nat_cmp k l)) [
      | inl less ↦ rw (less, one, both.0, close-valued rest, both.1)
      | inr other ↦ elim other [
        | inl tie ↦ rw (tie, both.0, close-valued rest, both.1)
        | inr more ↦ rw (more, both.0, keys_there keys k d rest one both.1)
      ]
    ]

-- the document says what its top and its fields say
pub says_all : (top : Members) (items : Items) (head : Head) (entries : List Declared) → value_at Field top ≡ None → IsHead top head
    → are_tables items ≡ true → length (tables_in items) ≤ 1000 → entries_of head.version head.size 0 [] (tables_in items) ≡ Ok entries
    → declaration_of (with_key (key_text Field) (array items) top) ≡ Ok (declared head entries)
unfolding declaration_of version_of mode_of default_of alternate_of screen_of fields_of
says_all top items head entries none is all few read =
    let missing = missing_node (key_text Field) top none in
    let at : (q : List ℕ) → same_key q (key_text Field) ≡ false → get_member q (with_key (key_text Field) (array items) top) ≡ get_member q top =
    λ q apart. other_there q (key_text Field) (array items) top missing apart in
    rw (
      keys_there top_keys (key_text Field) (array items) top refl is.keys,
      at (key_text VersionKey) refl,
      at (key_text Addresses) refl,
      at (key_text Default) refl,
      at (key_text Alternate) refl,
      at (key_text Screen) refl,
      is.is_version,
      is.is_mode,
      is.is_default,
      is.is_alternate,
      is.is_screen,
      same_there (key_text Field) (array items) top,
      tables_of-read items all few,
      read,
    )
    refl
