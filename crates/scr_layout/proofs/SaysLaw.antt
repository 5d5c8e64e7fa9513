-- What a reading gives is what the table says.
use Rattle.std.proofs.Common.{◌≡◌, ◌∙◌, ℕ, zero, suc, ℤ, IsTrue, map, pos, negsuc, ◌+◌, ◌-◌, ◌*◌, ◌<◌, ◌≤◌, ◌⊎◌, inl, inr, Bool, true, false, ◌&&◌, ◌==◌, nat_le, bytes_eq, cond, codes, ap, sym, subst, refl, length, List, [], ◌∷◌, ◌++◌, append_assoc, Option, Some, None, ok_or, Result, Ok, Err, arith}
use Rattle.std.specs.List.{range_with_len}
use Rattle.std.proofs.lemmas.Bool.{and_parts, leb-true, eqb-true}
use Rattle.std.proofs.lemmas.List.{append-nil}
use Rattle.std.proofs.lemmas.Slice.Eq.{bytes_eq-Decides}
use Rattle.ds_codec.specs.declared.size.Size.{Size}
use Rattle.ds_codec.specs.declared.size.Mode.{Mode}
use Rattle.ds_codec.specs.declared.size.Mode.TheVariants.{Bits14, Bits16}
use Rattle.ds_codec.specs.Geometry.{Sizes, cells_of}
use Rattle.toml.specs.Parse.{parse_document}
use Rattle.toml.specs.Data.{Data, string, integer, float, boolean, datetime, array, table, Items, no_items, item, Members, as_str, as_integer, as_array}
use Rattle.scr_layout.specs.declared.entry.Kind.{Kind as EntryKind}
use Rattle.scr_layout.specs.declared.entry.Kind.TheVariants.{Input, Fixed}
use Rattle.scr_layout.specs.declared.fault.LayoutFault.{LayoutFault}
use Rattle.scr_layout.specs.declared.fault.LayoutKey.{LayoutKey}
use Rattle.scr_layout.specs.declared.fault.LayoutKey.TheVariants.{Unknown, Version, Addresses, Default, Alternate, Screen, Field, Name, Row, Col, Length, Kind, Count, Down}
use Rattle.scr_layout.specs.declared.fault.Why.TheVariants.{MissingKey, WrongKind, UnknownKey, BadName, PlaceOutside, TooManyFields}
use Rattle.scr_layout.specs.Entry.{Declared, is_name}
use Rattle.scr_layout.specs.Fault.{at_key, not_toml}
use Rattle.scr_layout.specs.Field.{name_of, integer_at, place_of, length_of, kind_or, kind_of, with_table}
use Rattle.scr_layout.specs.Rows.{number_of, down_or, rows_or, rows_of, count_of, numbered, names_in, step_of, entries_from}
use Rattle.scr_layout.specs.declared.rows.Rows.{Rows}
use Rattle.scr_layout.specs.declared.top.Version.{Version as Keys}
use Rattle.scr_layout.specs.declared.top.Version.TheVariants.{One, Two}
use Rattle.scr_layout.specs.Layout.{Declaration, IsLayout, entries_of, declaration_of, table_of, layout_of}
use Rattle.scr_layout.specs.Results.{tested, in_field}
use Rattle.scr_layout.specs.Says.{HasText, HasNumber, SaysVersion, SaysMode, SaysSize, SaysScreen, SaysKind, SaysDown, SaysRows, entry_in, SaysBlock, SayEntries, SaysFields, Says, TextSays}
use Rattle.scr_layout.specs.SizeText.{size_text}
use Rattle.scr_layout.specs.Top.{top_keys, numbered_version, named_version, version_or, version_of, mode_of_bits, named_mode, mode_or, mode_of, size_of, size_or, default_of, alternate_of, screen_or, screen_of, tables_in, are_tables, tables_of, tables_or, fields_of}
use Rattle.scr_layout.specs.Values.{value_at, needed_at, text_of, integer_of, from_one_to, has_only, with_only}
use Rattle.scr_layout.proofs.LayoutLaw.{AreSmall, rows_or-small, declaration_of-law}
use Rattle.scr_layout.proofs.Made.{with_table-made}
use Rattle.scr_layout.proofs.SizeLaw.{size_of_text-spelled}
use Rattle.scr_layout.proofs.Steps.{bind_ok, tested_ok, ok_or_ok, in_field_ok, cond_some, same_ok}

-- ---- values

as_str-is : (d : Data) (s : List ℕ) → as_str d ≡ Some s → d ≡ string s
as_str-is (string t) s h = cc
as_str-is (integer z) s h = cc
as_str-is (float x) s h = cc
as_str-is (boolean b) s h = cc
as_str-is (datetime t) s h = cc
as_str-is (array ds) s h = cc
as_str-is (table ms) s h = cc

as_integer-is : (d : Data) (z : ℤ) → as_integer d ≡ Some z → d ≡ integer z
as_integer-is (string t) z h = cc
as_integer-is (integer y) z h = cc
as_integer-is (float x) z h = cc
as_integer-is (boolean b) z h = cc
as_integer-is (datetime t) z h = cc
as_integer-is (array ds) z h = cc
as_integer-is (table ms) z h = cc

as_array-is : (d : Data) (items : Items) → as_array d ≡ Some items → d ≡ array items
as_array-is (string t) s h = cc
as_array-is (integer z) s h = cc
as_array-is (float x) s h = cc
as_array-is (boolean b) s h = cc
as_array-is (datetime t) s h = cc
as_array-is (array ds) s h = cc
as_array-is (table ms) s h = cc

-- a text that was found
found_text : (key : LayoutKey) (top : Members) (d : Data) (s : List ℕ) → value_at key top ≡ Some d → text_of key d ≡ Ok s → HasText key s top
found_text key top d s at h = at ∙ ap Some (as_str-is d s (ok_or_ok _ _ s h))

found_integer : (key : LayoutKey) (top : Members) (z : ℤ) → integer_at key top ≡ Ok z → value_at key top ≡ Some (integer z)
unfolding integer_at
found_integer key top z h =
    let value = bind_ok (needed_at key top) _ z h in
    ok_or_ok (value_at key top) (at_key key MissingKey) value.0 value.1 ∙ ap Some (as_integer-is value.0 z (ok_or_ok (as_integer value.0) (at_key key WrongKind) z value.2))

same_text : (s t : List ℕ) → bytes_eq s t ≡ true → s ≡ t
same_text s t h = (bytes_eq-Decides s t).0 h

-- ---- the top

size_of-spelled : (mode : Mode) (key : LayoutKey) (top : Members) (d : Data) (s : Size) → value_at key top ≡ Some d → size_of mode key d ≡ Ok s → HasText key (size_text s) top
unfolding size_of
size_of-spelled mode key top d s at h =
    let text = bind_ok (text_of key d) _ s h in
    let spelled = size_of_text-spelled mode text.0 s (ok_or_ok _ _ s text.2) in
    found_text key top d text.0 at text.1 ∙ ap (λ t. Some (string t)) spelled

size_or-says : (mode : Mode) (absent : Size) (key : LayoutKey) (top : Members) (o : Option Data) (s : Size) → value_at key top ≡ o → size_or mode absent key o ≡ Ok s → SaysSize key absent top s
size_or-says mode absent key top None s at h = inl (at, sym (same_ok absent s h))
size_or-says mode absent key top (Some d) s at h = inr (size_of-spelled mode key top d s at h)

default_of-says : (mode : Mode) (top : Members) (s : Size) → default_of mode top ≡ Ok s → SaysSize Default (record { rows = 24; cols = 80 }) top s
unfolding default_of
default_of-says mode top s h = size_or-says mode (record { rows = 24; cols = 80 }) Default top (value_at Default top) s refl h

alternate_of-says : (mode : Mode) (default : Size) (top : Members) (s : Size) → alternate_of mode default top ≡ Ok s → SaysSize Alternate default top s
unfolding alternate_of
alternate_of-says mode default top s h = size_or-says mode default Alternate top (value_at Alternate top) s refl h

chosen : {A : Type 0} (a b : Bool) (x y z : A) (e : LayoutFault) → cond {A = Result A LayoutFault} a (Ok x) (cond b (Ok y) (Err e)) ≡ Ok z
    → ((a ≡ true) × (z ≡ x)) ⊎ ((b ≡ true) × (z ≡ y))
chosen true b x y z e h = inl (refl, sym (same_ok x z h))
chosen false true x y z e h = inr (refl, sym (same_ok y z h))
chosen false false x y z e h = cc

screen_or-says : (geometry : Sizes) (top : Members) (o : Option Data) (s : Size) → value_at Screen top ≡ o → screen_or geometry.default geometry.alternate o ≡ Ok s → SaysScreen top geometry s
screen_or-says geometry top None s at h = inl (inl at, sym (same_ok geometry.default s h))
screen_or-says geometry top (Some d) s at h =
    let word = bind_ok (text_of Screen d) _ s h in
    let has = found_text Screen top d word.0 at word.1 in
    elim (chosen (bytes_eq word.0 (codes "default")) (bytes_eq word.0 (codes "alternate")) geometry.default geometry.alternate s (at_key Screen WrongKind) word.2) [
      | inl w ↦ inl (inr (has ∙ ap (λ t. Some (string t)) (same_text word.0 _ w.0)), w.1)
      | inr w ↦ inr (has ∙ ap (λ t. Some (string t)) (same_text word.0 _ w.0), w.1)
    ]

screen_of-says : (geometry : Sizes) (top : Members) (s : Size) → screen_of geometry.default geometry.alternate top ≡ Ok s → SaysScreen top geometry s
unfolding screen_of
screen_of-says geometry top s h = screen_or-says geometry top (value_at Screen top) s refl h

-- ---- a field

kind_or-says : (field : Members) (o : Option Data) (k : EntryKind) → value_at Kind field ≡ o → kind_or o ≡ Ok k → SaysKind field k
kind_or-says field None k at h = let P : EntryKind → Type 0 = λ x. SaysKind field x in subst P (same_ok Input k h) (inl at)
kind_or-says field (Some d) k at h =
    let word = bind_ok (text_of Kind d) _ k h in
    let has = found_text Kind field d word.0 at word.1 in
    let P : EntryKind → Type 0 = λ x. SaysKind field x in
    elim (chosen (bytes_eq word.0 (codes "input")) (bytes_eq word.0 (codes "fixed")) Input Fixed k (at_key Kind WrongKind) word.2) [
      | inl w ↦ subst P (sym w.1) (inr (has ∙ ap (λ t. Some (string t)) (same_text word.0 _ w.0)))
      | inr w ↦ subst P (sym w.1) (has ∙ ap (λ t. Some (string t)) (same_text word.0 _ w.0))
    ]

kind_of-says : (field : Members) (k : EntryKind) → kind_of field ≡ Ok k → SaysKind field k
unfolding kind_of
kind_of-says field k h = kind_or-says field (value_at Kind field) k refl h

name_of-says : (field : Members) (name : List ℕ) → name_of field ≡ Ok name → HasText Name name field × IsTrue (is_name name)
unfolding name_of
name_of-says field name h =
    let value = bind_ok (needed_at Name field) _ name h in
    let text = bind_ok (text_of Name value.0) _ name value.2 in
    let good = tested_ok (is_name text.0) text.0 (at_key Name BadName) name text.2 in
    (found_text Name field value.0 text.0 (ok_or_ok (value_at Name field) (at_key Name MissingKey) value.0 value.1) text.1 ∙ ap (λ t. Some (string t)) good.1, ap is_name (sym good.1) ∙ good.0)

from_one_to-is : (most : ℕ) (z : ℤ) (n : ℕ) → from_one_to most z ≡ Some n → (z ≡ pos n) × (1 ≤ n) × (n ≤ most)
from_one_to-is most (pos m) n h =
    let found = cond_some (nat_le 1 m && nat_le m most) m n h in
    let bounds = and_parts (nat_le 1 m) (nat_le m most) found.0 in
    (ap pos found.1, omega (arith, leb-true 1 m bounds.0, found.1), omega (arith, leb-true m most bounds.1, found.1))
from_one_to-is most (negsuc m) n h = cc

-- the row and the column, counted from 0, of a place
place_of-says : (size : Size) (row col : ℤ) (place : ℕ) → place_of size row col ≡ Ok place
    → (r : ℕ) × (c : ℕ) × (row ≡ pos (r + 1)) × (col ≡ pos (c + 1)) × (r < size.rows) × (c < size.cols) × (place ≡ r * size.cols + c)
unfolding place_of
place_of-says size row col place h =
    let r = bind_ok (ok_or (from_one_to size.rows row) (at_key Row PlaceOutside)) _ place h in
    let c = bind_ok (ok_or (from_one_to size.cols col) (at_key Col PlaceOutside)) _ place r.2 in
    let in_rows = from_one_to-is size.rows row r.0 (ok_or_ok _ _ _ r.1) in
    let in_cols = from_one_to-is size.cols col c.0 (ok_or_ok _ _ _ c.1) in
    let row_again : r.0 ≡ (r.0 - 1) + 1 = omega arith in
    let col_again : c.0 ≡ (c.0 - 1) + 1 = omega arith in
    (r.0 - 1, c.0 - 1, in_rows.0 ∙ ap pos row_again, in_cols.0 ∙ ap pos col_again, omega arith, omega arith, sym (same_ok _ place c.2))

length_of-says : (size : Size) (field : Members) (n : ℕ) → length_of size field ≡ Ok n → HasNumber Length n field
unfolding length_of
length_of-says size field n h =
    let number = bind_ok (integer_at Length field) _ n h in
    let is = from_one_to-is (cells_of size - 1) number.0 n (ok_or_ok _ _ _ number.2) in
    found_integer Length field number.0 number.1 ∙ ap (λ z. Some (integer z)) is.0

-- ---- rows

found_number : (key : LayoutKey) (field : Members) (d : Data) (n : ℕ) → value_at key field ≡ Some d → number_of key d ≡ Ok n → HasNumber key n field
unfolding number_of
found_number key field d n at h =
    let number = bind_ok (integer_of key d) _ n h in
    let is = from_one_to-is 255 number.0 n (ok_or_ok _ _ _ number.2) in
    at ∙ ap Some (as_integer-is d number.0 (ok_or_ok (as_integer d) (at_key key WrongKind) number.0 number.1)) ∙ ap (λ z. Some (integer z)) is.0

down_or-says : (field : Members) (o : Option Data) (n : ℕ) → value_at Down field ≡ o → down_or o ≡ Ok n → SaysDown field n
down_or-says field None n at h = inl (at, sym (same_ok 1 n h))
down_or-says field (Some d) n at h = inr (found_number Down field d n at h)

rows_or-says : (field : Members) (count down : Option Data) (rows : Option Rows) → value_at Count field ≡ count → value_at Down field ≡ down → rows_or count down ≡ Ok rows → SaysRows field rows
rows_or-says field None None rows at below h = let none : rows ≡ None = cc in let P : Option Rows → Type 0 = λ o. SaysRows field o in subst P (sym none) (at, below)
rows_or-says field None (Some d) rows at below h = absurd cc
rows_or-says field (Some d) down rows at below h =
    let n = bind_ok (number_of Count d) _ rows h in
    let steps = bind_ok (down_or down) _ rows n.2 in
    let made : Rows = record { count = n.0; down = steps.0 } in
    let same : Some made ≡ rows = same_ok (Some made) rows steps.2 in
    let S : Option Rows → Type 0 = λ o. AreSmall o in
    let small : AreSmall (Some made) = subst S (sym same) (rows_or-small (Some d) down rows h) in
    let P : Option Rows → Type 0 = λ o. SaysRows field o in
    subst P same (found_number Count field d n.0 at n.1, down_or-says field down steps.0 below steps.1, small.0, small.1, small.2, small.3)

rows_of-says : (field : Members) (rows : Option Rows) → rows_of field ≡ Ok rows → SaysRows field rows
unfolding rows_of
rows_of-says field rows h = rows_or-says field (value_at Count field) (value_at Down field) rows refl refl h

-- ---- the entries of a table

next_place : (r down cols c k : ℕ) → (r + k * down) * cols + c + down * cols ≡ (r + (k + 1) * down) * cols + c
next_place r down cols c k = omega arith

pub entries_from-rows : (size : Size) (name : List ℕ) (r c cells : ℕ) (kind : EntryKind) (rows : Rows) (k n p : ℕ) → p ≡ (r + k * rows.down) * size.cols + c
    → entries_from (rows.down * size.cols) p cells kind (map (numbered name) (range_with_len (k + 1) n)) ≡ map (entry_in size name r c cells kind (Some rows)) (range_with_len k n)
entries_from-rows size name r c cells kind rows k zero p h = refl
entries_from-rows size name r c cells kind rows k (suc n) p h =
    let more = entries_from-rows size name r c cells kind rows (k + 1) n (p + rows.down * size.cols) (ap (λ q. q + rows.down * size.cols) h ∙ next_place r rows.down size.cols c k) in
    ap (λ q. record { name = numbered name (k + 1); place = q; length = cells; kind = kind } ∷ entries_from (rows.down * size.cols) (p + rows.down * size.cols) cells kind (map (numbered name) (range_with_len (k + 1 + 1) n))) h
    ∙ ap (λ es. entry_in size name r c cells kind (Some rows) k ∷ es) more

pub entries_from-map : (size : Size) (name : List ℕ) (r c cells : ℕ) (kind : EntryKind) (rows : Option Rows) (p : ℕ) → p ≡ r * size.cols + c
    → entries_from (step_of size rows) p cells kind (names_in name rows) ≡ map (entry_in size name r c cells kind rows) (range_with_len 0 (count_of rows))
entries_from-map size name r c cells kind None p h = ap (λ q. record { name = name; place = q; length = cells; kind = kind } ∷ []) h
entries_from-map size name r c cells kind (Some rows) p h =
    let start : p ≡ (r + 0 * rows.down) * size.cols + c = omega (arith, h) in
    entries_from-rows size name r c cells kind rows 0 rows.count p start

with_table-says : (version : Keys) (size : Size) (before : List Declared) (field : Members) (all : List Declared) → with_table version size before field ≡ Ok all
    → (block : List Declared) × (all ≡ before ++ block) × SaysBlock version size field block
with_table-says version size before field all h =
    let made = with_table-made version size before field all h in
    let placed = place_of-says size made.row made.col made.place made.is_place in
    let step = step_of size made.rows in
    let block : List Declared = entries_from step made.place made.cells made.kind made.names in
    let said : SaysBlock version size field block = record {
      name = made.name;
      row = placed.0;
      col = placed.1;
      length = made.cells;
      kind = made.kind;
      rows = made.rows;
      keys = made.keys;
      is_named = name_of-says field made.name made.is_name_of;
      is_placed = (
        found_integer Row field made.row made.is_row ∙ ap (λ z. Some (integer z)) placed.2,
        found_integer Col field made.col made.is_col ∙ ap (λ z. Some (integer z)) placed.3,
        placed.4,
        placed.5,
      );
      is_long = length_of-says size field made.cells made.is_long;
      is_kind = kind_of-says field made.kind made.is_kind;
      has_rows = rows_of-says field made.rows made.are_rows;
      entries = ap (entries_from step made.place made.cells made.kind) made.are_names ∙ entries_from-map size made.name placed.0 placed.1 made.cells made.kind made.rows made.place placed.6;
    } in
    (block, made.entries, said)

entries_of-say : (version : Keys) (size : Size) (n : ℕ) (before : List Declared) (items : Items) (all : List Declared) → are_tables items ≡ true
    → entries_of version size n before (tables_in items) ≡ Ok all → (es : List Declared) × (all ≡ before ++ es) × SayEntries version size items es
unfolding entries_of
entries_of-say version size n before no_items all h e = ([], sym (append-nil before ∙ same_ok before all e), refl)
entries_of-say version size n before (item (table field) rest) all h e =
    let more = bind_ok (in_field n (with_table version size before field)) _ all e in
    let one = with_table-says version size before field more.0 (in_field_ok n (with_table version size before field) more.0 more.1) in
    let others = entries_of-say version size (n + 1) more.0 rest all h more.2 in (
      one.0 ++ others.0,
      others.1 ∙ ap (λ es. es ++ others.0) one.1 ∙ append_assoc before one.0 others.0,
      (field, one.0, others.0, refl, refl, one.2, others.2),
    )
entries_of-say version size n before (item (string s) rest) all h e = cc
entries_of-say version size n before (item (integer z) rest) all h e = cc
entries_of-say version size n before (item (float x) rest) all h e = cc
entries_of-say version size n before (item (boolean b) rest) all h e = cc
entries_of-say version size n before (item (datetime t) rest) all h e = cc
entries_of-say version size n before (item (array ds) rest) all h e = cc

tables_of-items : (d : Data) (tables : List Members) → tables_of d ≡ Ok tables → (items : Items) × (d ≡ array items) × (are_tables items ≡ true) × (tables ≡ tables_in items)
unfolding tables_of
tables_of-items d tables h =
    let items = bind_ok (ok_or (as_array d) (at_key Field WrongKind)) _ tables h in
    let found = bind_ok (tested (are_tables items.0) (tables_in items.0) (at_key Field WrongKind)) _ tables items.2 in
    let all = tested_ok (are_tables items.0) (tables_in items.0) (at_key Field WrongKind) found.0 found.1 in
    let last = tested_ok (nat_le (length found.0) 1000) found.0 (at_key Field TooManyFields) tables found.2 in
    (items.0, as_array-is d items.0 (ok_or_ok _ _ _ items.1), all.0, sym (all.1 ∙ last.1))

fields-say : (version : Keys) (size : Size) (top : Members) (o : Option Data) (tables : List Members) (entries : List Declared) → value_at Field top ≡ o → tables_or o ≡ Ok tables
    → entries_of version size 0 [] tables ≡ Ok entries → SaysFields version top size entries
unfolding entries_of
fields-say version size top None tables entries at h e =
    let none = same_ok [] tables h in
    inl (at, sym (same_ok [] entries (ap (entries_of version size 0 []) none ∙ e)))
fields-say version size top (Some d) tables entries at h e =
    let found = tables_of-items d tables h in
    let said = entries_of-say version size 0 [] found.0 entries found.2 (ap (entries_of version size 0 []) (sym found.3) ∙ e) in
    let P : List Declared → Type 0 = λ es. SayEntries version size found.0 es in
    inr (found.0, at ∙ ap Some found.1, subst P (sym said.1) said.2)

-- ---- the version

chosen_version : (a b : Bool) (v : Keys) → cond a (Some One) (cond b (Some Two) None) ≡ Some v → ((a ≡ true) × (v ≡ One)) ⊎ ((b ≡ true) × (v ≡ Two))
chosen_version true b v h = inl (refl, cc)
chosen_version false true v h = inr (refl, cc)
chosen_version false false v h = absurd cc

numbered_version-is : (number : Option ℕ) (v : Keys) → numbered_version number ≡ Some v → ((number ≡ Some 1) × (v ≡ One)) ⊎ ((number ≡ Some 2) × (v ≡ Two))
numbered_version-is None v h = absurd cc
numbered_version-is (Some n) v h =
    elim (chosen_version (n == 1) (n == 2) v h) [
      | inl w ↦ inl (ap Some (eqb-true n 1 w.0), w.1)
      | inr w ↦ inr (ap Some (eqb-true n 2 w.0), w.1)
    ]

named_version-says : (top : Members) (d : Data) (v : Keys) → value_at Version top ≡ Some d → named_version d ≡ Ok v → SaysVersion top v
unfolding named_version
named_version-says top d v at h =
    let number = bind_ok (integer_of Version d) _ v h in
    let whole : d ≡ integer number.0 = as_integer-is d number.0 (ok_or_ok (as_integer d) (at_key Version WrongKind) number.0 number.1) in
    let P : Keys → Type 0 = λ x. SaysVersion top x in
    elim (numbered_version-is (from_one_to 2 number.0) v (ok_or_ok _ _ v number.2)) [
      | inl w ↦ let is = from_one_to-is 2 number.0 1 w.0 in subst P (sym w.1) (inr (at ∙ ap Some whole ∙ ap (λ z. Some (integer z)) is.0))
      | inr w ↦ let is = from_one_to-is 2 number.0 2 w.0 in subst P (sym w.1) (at ∙ ap Some whole ∙ ap (λ z. Some (integer z)) is.0)
    ]

version_or-says : (top : Members) (o : Option Data) (v : Keys) → value_at Version top ≡ o → version_or o ≡ Ok v → SaysVersion top v
version_or-says top None v at h = let P : Keys → Type 0 = λ x. SaysVersion top x in subst P (same_ok One v h) (inl at)
version_or-says top (Some d) v at h = named_version-says top d v at h

version_of-says : (top : Members) (v : Keys) → version_of top ≡ Ok v → SaysVersion top v
unfolding version_of
version_of-says top v h = version_or-says top (value_at Version top) v refl h

-- ---- the mode of addresses

chosen_mode : (a b : Bool) (m : Mode) → cond a (Some Bits14) (cond b (Some Bits16) None) ≡ Some m → ((a ≡ true) × (m ≡ Bits14)) ⊎ ((b ≡ true) × (m ≡ Bits16))
chosen_mode true b m h = inl (refl, cc)
chosen_mode false true m h = inr (refl, cc)
chosen_mode false false m h = absurd cc

mode_of_bits-is : (bits : Option ℕ) (m : Mode) → mode_of_bits bits ≡ Some m → ((bits ≡ Some 14) × (m ≡ Bits14)) ⊎ ((bits ≡ Some 16) × (m ≡ Bits16))
mode_of_bits-is None m h = absurd cc
mode_of_bits-is (Some n) m h =
    elim (chosen_mode (n == 14) (n == 16) m h) [
      | inl w ↦ inl (ap Some (eqb-true n 14 w.0), w.1)
      | inr w ↦ inr (ap Some (eqb-true n 16 w.0), w.1)
    ]

named_mode-says : (top : Members) (d : Data) (m : Mode) → value_at Addresses top ≡ Some d → named_mode d ≡ Ok m → SaysMode top m
unfolding named_mode
named_mode-says top d m at h =
    let number = bind_ok (integer_of Addresses d) _ m h in
    let whole : d ≡ integer number.0 = as_integer-is d number.0 (ok_or_ok (as_integer d) (at_key Addresses WrongKind) number.0 number.1) in
    let P : Mode → Type 0 = λ x. SaysMode top x in
    elim (mode_of_bits-is (from_one_to 16 number.0) m (ok_or_ok _ _ m number.2)) [
      | inl w ↦ let is = from_one_to-is 16 number.0 14 w.0 in subst P (sym w.1) (inr (at ∙ ap Some whole ∙ ap (λ z. Some (integer z)) is.0))
      | inr w ↦ let is = from_one_to-is 16 number.0 16 w.0 in subst P (sym w.1) (at ∙ ap Some whole ∙ ap (λ z. Some (integer z)) is.0)
    ]

mode_or-says : (top : Members) (o : Option Data) (m : Mode) → value_at Addresses top ≡ o → mode_or o ≡ Ok m → SaysMode top m
mode_or-says top None m at h = let P : Mode → Type 0 = λ x. SaysMode top x in subst P (same_ok Bits14 m h) (inl at)
mode_or-says top (Some d) m at h = named_mode-says top d m at h

mode_of-says : (top : Members) (m : Mode) → mode_of top ≡ Ok m → SaysMode top m
unfolding mode_of
mode_of-says top m h = mode_or-says top (value_at Addresses top) m refl h

-- ---- the whole

pub declaration_of-says : (whole : Members) (layout : Declaration) → declaration_of whole ≡ Ok layout → Says whole layout
unfolding declaration_of fields_of
declaration_of-says whole layout h =
    let top = bind_ok (with_only top_keys whole) _ layout h in
    let version = bind_ok (version_of top.0) _ layout top.2 in
    let mode = bind_ok (mode_of top.0) _ layout version.2 in
    let default = bind_ok (default_of mode.0 top.0) _ layout mode.2 in
    let alternate = bind_ok (alternate_of mode.0 default.0 top.0) _ layout default.2 in
    let size = bind_ok (screen_of default.0 alternate.0 top.0) _ layout alternate.2 in
    let fields = bind_ok (fields_of top.0) _ layout size.2 in
    let entries = bind_ok (entries_of version.0 size.0 0 [] fields.0) _ layout fields.2 in
    let only = tested_ok (has_only top_keys whole) whole (at_key Unknown UnknownKey) top.0 top.1 in
    let geometry : Sizes = record { default = default.0; alternate = alternate.0; mode = mode.0 } in
    let made : Declaration = record { geometry = geometry; size = size.0; entries = entries.0 } in
    let same = same_ok made layout entries.2 in
    let L : Declaration → Type 0 = λ l. IsLayout l in
    let said : Says top.0 made = record {
      keys = ap (has_only top_keys) (sym only.1) ∙ only.0;
      version = version.0;
      is_version = version_of-says top.0 version.0 version.1;
      mode = mode_of-says top.0 mode.0 mode.1;
      default = default_of-says mode.0 top.0 default.0 default.1;
      alternate = alternate_of-says mode.0 default.0 top.0 alternate.0 alternate.1;
      screen = screen_of-says geometry top.0 size.0 size.1;
      fields = fields-say version.0 size.0 top.0 (value_at Field top.0) fields.0 entries.0 refl fields.1 entries.1;
      is_one = subst L (sym same) (declaration_of-law whole layout h);
    } in
    let P : Members → Type 0 = λ t. Says t made in
    let Q : Declaration → Type 0 = λ l. Says whole l in
    subst Q {x = made} same (subst P (sym only.1) said)

-- what is read of a text is what it says
pub layout_of-says : (text : List ℕ) (layout : Declaration) → layout_of text ≡ Ok layout → TextSays text layout
layout_of-says text layout h =
    let found = bind_ok (table_of text) declaration_of layout h in
    (found.0, ok_or_ok (parse_document text) not_toml found.0 found.1, declaration_of-says found.0 layout found.2)
