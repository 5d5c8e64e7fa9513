-- What holds of every layout that is read.
use Rattle.std.proofs.Common.{◌≡◌, ◌∙◌, ℕ, zero, suc, ◌+◌, ◌-◌, ◌*◌, ◌<◌, ◌≤◌, ◌⊎◌, inl, inr, IsTrue, Bool, true, false, ◌&&◌, ◌||◌, ◌==◌, nat_eq, nat_le, bytes_eq, cond, codes, decimal, ap, sym, subst, refl, length, length-append, List, [], ◌∷◌, ◌++◌, append_assoc, map, All, Option, Some, None, Result, Ok, Err, arith}
use Rattle.std.specs.List.{list_any, list_all, AllByRecursion, IsDistinct, before_first, after_first, range_with_len}
use Rattle.std.specs.Str.Parse.{digits_value}
use Rattle.std.proofs.lemmas.Bool.{and_parts, leb-true, false_from_ne_true, ne_eqb}
use Rattle.std.proofs.lemmas.Cmp.{nat_eq_equiv, nat_list_eq_equiv}
use Rattle.std.proofs.lemmas.Fmt.{digits_value-decimal}
use Rattle.std.proofs.lemmas.List.{map-append, append-nil}
use Rattle.std.proofs.lemmas.List.Elements.{All-push}
use Rattle.std.proofs.lemmas.List.Folds.{list_any-append}
use Rattle.std.proofs.lemmas.List.FromFn.{length-map-range_with_len}
use Rattle.std.proofs.lemmas.Map.Keys.{IsDistinct-push}
use Rattle.std.proofs.lemmas.Nat.{mul-add-lt}
use Rattle.std.proofs.lemmas.Slice.Eq.{bytes_eq-Decides}
use Rattle.ds_codec.specs.declared.size.Size.{Size}
use Rattle.ds_codec.specs.declared.size.Mode.{Mode}
use Rattle.ds_codec.specs.declared.size.Mode.TheVariants.{Bits14, Bits16}
use Rattle.ds_codec.specs.Geometry.{IsGood, cells_of, limit_of, is_good}
use Rattle.toml.specs.Data.{Data, Members}
use Rattle.scr_layout.specs.declared.entry.Kind.{Kind as EntryKind}
use Rattle.scr_layout.specs.declared.fault.LayoutFault.{LayoutFault}
use Rattle.scr_layout.specs.declared.fault.LayoutKey.{LayoutKey}
use Rattle.scr_layout.specs.declared.fault.LayoutKey.TheVariants.{Screen, Length, Count, Down}
use Rattle.scr_layout.specs.declared.rows.Rows.{Rows}
use Rattle.scr_layout.specs.declared.top.Version.{Version}
use Rattle.scr_layout.specs.Entry.{Declared, is_name}
use Rattle.scr_layout.specs.Field.{integer_at, length_of, with_table}
use Rattle.scr_layout.specs.Layout.{Declaration, IsLayout, entries_of, declaration_of, table_of, layout_of}
use Rattle.scr_layout.specs.Results.{in_field}
use Rattle.scr_layout.specs.Rows.{number_of, down_or, rows_or, rows_of, count_of, numbered, names_in, has_name, has_any, IsSmall, step_of, has_place, entries_from}
use Rattle.scr_layout.specs.SizeText.{is_x, number_of as number_of_text, size_of_text}
use Rattle.scr_layout.specs.Top.{top_keys, version_of, mode_of, size_of, size_or, default_of, alternate_of, screen_or, screen_of, fields_of}
use Rattle.scr_layout.specs.Values.{value_at, text_of, integer_of, with_only}
use Rattle.scr_layout.proofs.Made.{AllFree, with_table-made}
use Rattle.scr_layout.proofs.Sizes.{own}
use Rattle.scr_layout.proofs.Steps.{bind_ok, ok_or_ok, in_field_ok, cond_some, cond_then, and_then_some, same_ok, from_one_to-in}
use Rattle.scr_layout.proofs.Tables.{list_any-map}

-- ---- sizes

pub IsGood-from_test : (mode : Mode) (s : Size) → is_good mode s ≡ true → IsGood mode s
IsGood-from_test mode s h =
    let a = and_parts (nat_le 1 s.rows && nat_le s.rows 255) _ h in
    let b = and_parts (nat_le 1 s.rows) _ a.0 in
    let d = and_parts (nat_le 2 s.cols && nat_le s.cols 255) _ a.1 in
    let e = and_parts (nat_le 2 s.cols) _ d.0 in
    record {
      some_rows = leb-true _ _ b.0;
      few_rows = leb-true _ _ b.1;
      two_cols = leb-true _ _ e.0;
      few_cols = leb-true _ _ e.1;
      few_cells = leb-true _ _ d.1;
    }

good_size : (mode : Mode) (r : ℕ) (c : ℕ) (s : Size) → (if_good : cond (is_good mode (record { rows = r; cols = c })) (Some (record { rows = r; cols = c })) None ≡ Some s) → IsGood mode s
good_size mode r c s h =
    let parts = cond_some (is_good mode (record { rows = r; cols = c })) (record { rows = r; cols = c }) s h in
    IsGood-from_test mode s (ap (is_good mode) (sym parts.1) ∙ parts.0)

pub size_of_text-good : (mode : Mode) (text : List ℕ) (s : Size) → size_of_text mode text ≡ Some s → IsGood mode s
unfolding size_of_text
size_of_text-good mode text s h =
    let found = cond_then (list_any is_x text) _ s h in
    let rows = and_then_some (number_of_text (before_first is_x text)) _ s found.1 in
    let cols = and_then_some (number_of_text (after_first is_x text)) _ s rows.2 in
    good_size mode rows.0 cols.0 s cols.2

size_of-good : (mode : Mode) (key : LayoutKey) (value : Data) (s : Size) → size_of mode key value ≡ Ok s → IsGood mode s
unfolding size_of
size_of-good mode key value s h =
    let text = bind_ok (text_of key value) _ s h in
    size_of_text-good mode text.0 s (ok_or_ok _ _ s text.2)

size_or-good : (mode : Mode) (absent : Size) (key : LayoutKey) (o : Option Data) (s : Size) → IsGood mode absent → size_or mode absent key o ≡ Ok s → IsGood mode s
size_or-good mode absent key None s good h = let P : Size → Type 0 = λ x. IsGood mode x in subst P (same_ok absent s h) good
size_or-good mode absent key (Some value) s good h = size_of-good mode key value s h

-- 24x80 in either mode
usual-good : (mode : Mode) → IsGood mode (record { rows = 24; cols = 80 })
usual-good Bits14 = IsGood-from_test Bits14 (record { rows = 24; cols = 80 }) refl
usual-good Bits16 = IsGood-from_test Bits16 (record { rows = 24; cols = 80 }) refl

pub default_of-good : (mode : Mode) (top : Members) (s : Size) → default_of mode top ≡ Ok s → IsGood mode s
unfolding default_of
default_of-good mode top s h = size_or-good mode _ _ _ s (usual-good mode) h

pub alternate_of-good : (mode : Mode) (default : Size) (top : Members) (s : Size) → IsGood mode default → alternate_of mode default top ≡ Ok s → IsGood mode s
unfolding alternate_of
alternate_of-good mode default top s good h = size_or-good mode _ _ _ s good h

one_of_two : (a b : Bool) (default alternate s : Size) (e : LayoutFault)
    → cond {A = Result Size LayoutFault} a (Ok default) (cond b (Ok alternate) (Err e)) ≡ Ok s → (s ≡ default) ⊎ (s ≡ alternate)
one_of_two true b default alternate s e h = inl (cc)
one_of_two false true default alternate s e h = inr (cc)
one_of_two false false default alternate s e h = cc

screen_or-named : (default alternate : Size) (o : Option Data) (s : Size) → screen_or default alternate o ≡ Ok s → (s ≡ default) ⊎ (s ≡ alternate)
screen_or-named default alternate None s h = inl (cc)
screen_or-named default alternate (Some value) s h =
    let word = bind_ok (text_of Screen value) _ s h in
    one_of_two (bytes_eq word.0 (codes "default")) (bytes_eq word.0 (codes "alternate")) default alternate s _ word.2

pub screen_of-named : (default alternate : Size) (top : Members) (s : Size) → screen_of default alternate top ≡ Ok s → (s ≡ default) ⊎ (s ≡ alternate)
unfolding screen_of
screen_of-named default alternate top s h = screen_or-named default alternate (value_at Screen top) s h

-- ---- fields

-- an entry that is read after others
record Follows (size : Size) (before : List Declared) (entry : Declared) : Type 0 where
  named : is_name entry.name ≡ true
  new_name : has_name entry.name before ≡ false
  inside : entry.place < cells_of size
  new_place : has_place entry.place before ≡ false
  long : (1 ≤ entry.length) × (entry.length < cells_of size)

length_of-in : (size : Size) (field : Members) (n : ℕ) → length_of size field ≡ Ok n → (1 ≤ n) × (n < cells_of size)
unfolding length_of
length_of-in size field n h =
    let number = bind_ok (integer_at Length field) _ n h in
    let bounds = from_one_to-in (cells_of size - 1) number.0 n (ok_or_ok _ _ _ number.2) in
    (bounds.0, omega (arith, bounds.0, bounds.1))

-- ---- the rows of a table

pub number_of-small : (key : LayoutKey) (value : Data) (n : ℕ) → number_of key value ≡ Ok n → (1 ≤ n) × (n ≤ 255)
unfolding number_of
number_of-small key value n h =
    let number = bind_ok (integer_of key value) _ n h in
    from_one_to-in 255 number.0 n (ok_or_ok _ _ _ number.2)

down_or-small : (o : Option Data) (n : ℕ) → down_or o ≡ Ok n → (1 ≤ n) × (n ≤ 255)
down_or-small None n h = let one : 1 ≡ n = same_ok 1 n h in (omega (arith, one), omega (arith, one))
down_or-small (Some value) n h = number_of-small Down value n h

abbrev pub AreSmall : Option Rows → Type 0
AreSmall None = Unit {0}
AreSmall (Some rows) = (1 ≤ rows.count) × (rows.count ≤ 255) × (1 ≤ rows.down) × (rows.down ≤ 255)

same_some : (rows : Option Rows) (r : Rows) → ◌≡◌ {A = Result (Option Rows) LayoutFault} (Ok (Some r)) (Ok rows) → rows ≡ Some r
same_some rows r h = cc

pub rows_or-small : (count down : Option Data) (rows : Option Rows) → rows_or count down ≡ Ok rows → AreSmall rows
rows_or-small None None rows h = let none : rows ≡ None = cc in let P : Option Rows → Type 0 = λ o. AreSmall o in subst P (sym none) tt
rows_or-small None (Some value) rows h = absurd cc
rows_or-small (Some value) down rows h =
    let n = bind_ok (number_of Count value) _ rows h in
    let d = bind_ok (down_or down) _ rows n.2 in
    let count = number_of-small Count value n.0 n.1 in
    let steps = down_or-small down d.0 d.1 in
    let P : Option Rows → Type 0 = λ o. AreSmall o in
    subst P (sym (same_some rows (record { count = n.0; down = d.0 }) d.2)) (count.0, count.1, steps.0, steps.1)

pub rows_of-small : (field : Members) (rows : Option Rows) → rows_of field ≡ Ok rows → AreSmall rows
unfolding rows_of
rows_of-small field rows h = rows_or-small (value_at Count field) (value_at Down field) rows h

some_product : (a b : ℕ) → 0 < a → 0 < b → 0 < a * b
some_product a b p q = omega (arith, mul-add-lt (a - 1) b (b - 1) a (omega (arith, p)) (omega (arith, q)))

step_of-some : (size : Size) (rows : Option Rows) → AreSmall rows → 0 < size.cols → 0 < step_of size rows
step_of-some size None small wide = wide
step_of-some size (Some rows) small wide = some_product rows.down size.cols (omega (arith, small.2)) wide

-- ---- numbered names differ

after_name : (name a b : List ℕ) → name ++ a ≡ name ++ b → a ≡ b
after_name [] a b h = h
after_name (x ∷ xs) a b h = after_name xs a b (cc)

after_first_byte : (x : ℕ) (a b : List ℕ) → x ∷ a ≡ x ∷ b → a ≡ b
after_first_byte x a b h = cc

numbered-same : (name : List ℕ) (i j : ℕ) → i < 1000 → j < 1000 → numbered name i ≡ numbered name j → i ≡ j
numbered-same name i j low high h =
    let digits : decimal i ≡ decimal j = after_first_byte 45 _ _ (after_name name (45 ∷ decimal i) (45 ∷ decimal j) h) in
    sym (digits_value-decimal own i (omega (arith, low))) ∙ ap (digits_value 10) digits ∙ digits_value-decimal own j (omega (arith, high))

numbered-apart : (name : List ℕ) (a b n : ℕ) → a < b → b + n ≤ 1000 → AllByRecursion (λ other. bytes_eq (numbered name a) other ≡ false) (map (numbered name) (range_with_len b n))
numbered-apart name a b zero less few = tt
numbered-apart name a b (suc n) less few =
    let one : bytes_eq (numbered name a) (numbered name b) ≡ false =
    false_from_ne_true _ (λ h. absurd (omega (arith, less, numbered-same name a b (omega (arith, less, few)) (omega (arith, few)) ((bytes_eq-Decides (numbered name a) (numbered name b)).0 h)))) in
    (one, numbered-apart name a (b + 1) n (omega (arith, less)) (omega (arith, few)))

numbered-distinct : (name : List ℕ) (a n : ℕ) → a + n ≤ 1000 → IsDistinct bytes_eq (map (numbered name) (range_with_len a n))
unfolding IsDistinct
numbered-distinct name a zero few = tt
numbered-distinct name a (suc n) few = (numbered-apart name a (a + 1) n (omega arith) (omega (arith, few)), numbered-distinct name (a + 1) n (omega (arith, few)))

names_in-distinct : (name : List ℕ) (rows : Option Rows) → AreSmall rows → IsDistinct bytes_eq (names_in name rows)
unfolding IsDistinct
names_in-distinct name None small = (tt, tt)
names_in-distinct name (Some rows) small = numbered-distinct name 1 rows.count (omega (arith, small.1))

pub names_in-length : (name : List ℕ) (rows : Option Rows) → length (names_in name rows) ≡ count_of rows
names_in-length name None = refl
names_in-length name (Some rows) = length-map-range_with_len (numbered name) 1 rows.count

-- ---- all entries

pub record AreEntries (size : Size) (entries : List Declared) : Type 0 where
  pub named : All (λ entry. IsTrue (is_name entry.name)) entries
  pub inside : All (λ entry. entry.place < cells_of size) entries
  pub long : All (λ entry. (1 ≤ entry.length) × (entry.length < cells_of size)) entries
  pub names : IsDistinct bytes_eq (map (λ entry. entry.name) entries)
  pub places : IsDistinct nat_eq (map (λ entry. entry.place) entries)

none_yet : (size : Size) → AreEntries size []
unfolding IsDistinct
none_yet size = record {
  named = λ k x h. absurd (omega arith);
  inside = λ k x h. absurd (omega arith);
  long = λ k x h. absurd (omega arith);
  names = tt;
  places = tt;
}

one_more : (size : Size) (before : List Declared) (entry : Declared) → AreEntries size before → Follows size before entry → AreEntries size (before ++ entry ∷ [])
one_more size before entry h e = record {
  named = All-push (λ x. IsTrue (is_name x.name)) before entry h.named e.named;
  inside = All-push (λ x. x.place < cells_of size) before entry h.inside e.inside;
  long = All-push (λ x. (1 ≤ x.length) × (x.length < cells_of size)) before entry h.long e.long;
  names = rw (map-append (λ e. e.name) before (entry ∷ [])) (IsDistinct-push nat_list_eq_equiv _ entry.name h.names (list_any-map (bytes_eq entry.name) (λ e. e.name) before ∙ e.new_name));
  places = rw (map-append (λ e. e.place) before (entry ∷ [])) (IsDistinct-push nat_eq_equiv _ entry.place h.places (list_any-map (nat_eq entry.place) (λ e. e.place) before ∙ e.new_place));
}

pub or_false : (a b : Bool) → (a || b) ≡ false → (a ≡ false) × (b ≡ false)
or_false true b h = absurd cc
or_false false b h = (refl, h)

-- a name that none of those before has, after one more
has_name-more : (name : List ℕ) (before : List Declared) (e : Declared) → has_name name before ≡ false → bytes_eq e.name name ≡ false → has_name name (before ++ e ∷ []) ≡ false
has_name-more name before e none apart =
    list_any-append (λ x. bytes_eq name x.name) before (e ∷ []) ∙ rw (none, nat_list_eq_equiv.symm name e.name, apart) refl

has_any-more : (names : List (List ℕ)) (before : List Declared) (e : Declared) → has_any names before ≡ false → AllByRecursion (λ name. bytes_eq e.name name ≡ false) names → has_any names (before ++ e ∷ []) ≡ false
has_any-more [] before e none apart = refl
has_any-more (name ∷ names) before e none apart =
    let parts = or_false (has_name name before) (has_any names before) none in
    rw (has_name-more name before e parts.0 apart.0, has_any-more names before e parts.1 apart.1) refl

-- places that lie behind one more
all_free-more : (size : Size) (before : List Declared) (e : Declared) (step place count : ℕ) → e.place < place → AllFree size before step place count → AllFree size (before ++ e ∷ []) step place count
all_free-more size before e step place zero less h = tt
all_free-more size before e step place (suc more) less h =
    let other : (place == e.place) ≡ false = ne_eqb place e.place (λ same. absurd (omega (arith, less, same))) in
    (h.0, list_any-append (λ x. place == x.place) before (e ∷ []) ∙ rw (h.1, other) refl, all_free-more size before e step (place + step) more (omega (arith, less)) h.2)

-- the entries of one table behind those before
block_good : (size : Size) (before : List Declared) (step place cells : ℕ) (kind : EntryKind) (names : List (List ℕ))
    → AreEntries size before → 0 < step → (1 ≤ cells) × (cells < cells_of size) → list_all is_name names ≡ true → has_any names before ≡ false → IsDistinct bytes_eq names
    → AllFree size before step place (length names) → AreEntries size (before ++ entries_from step place cells kind names)
unfolding IsDistinct
block_good size before step place cells kind [] good some long all new apart free = let P : List Declared → Type 0 = λ es. AreEntries size es in subst P (sym (append-nil before)) good
block_good size before step place cells kind (name ∷ names) good some long all new apart free =
    let e : Declared = record { name = name; place = place; length = cells; kind = kind } in
    let named = and_parts (is_name name) (list_all is_name names) all in
    let none = or_false (has_name name before) (has_any names before) new in
    let first : Follows size before e = record { named = named.0; new_name = none.0; inside = free.0; new_place = free.1; long = long } in
    let rest = block_good size (before ++ e ∷ []) step (place + step) cells kind names (one_more size before e good first) some long named.1
    (has_any-more names before e none.1 apart.0) apart.1 (all_free-more size before e step (place + step) (length names) (omega (arith, some)) free.2) in
    let P : List Declared → Type 0 = λ es. AreEntries size es in
    subst P (append_assoc before (e ∷ []) (entries_from step (place + step) cells kind names)) rest

pub entries_from-length : (step place cells : ℕ) (kind : EntryKind) (names : List (List ℕ)) → length (entries_from step place cells kind names) ≡ length names
entries_from-length step place cells kind [] = refl
entries_from-length step place cells kind (name ∷ names) = ap suc (entries_from-length step (place + step) cells kind names)

table_good : (version : Version) (size : Size) (before : List Declared) (table : Members) (all : List Declared) → with_table version size before table ≡ Ok all → 0 < size.cols
    → AreEntries size before → AreEntries size all × (length all ≤ 1000)
table_good version size before table all h wide good =
    let made = with_table-made version size before table all h in
    let small = rows_of-small table made.rows made.are_rows in
    let count : length made.names ≡ count_of made.rows = ap length made.are_names ∙ names_in-length made.name made.rows in
    let D : List (List ℕ) → Type 0 = λ ns. IsDistinct bytes_eq ns in
    let F : ℕ → Type 0 = λ n. AllFree size before (step_of size made.rows) made.place n in
    let block : List Declared = entries_from (step_of size made.rows) made.place made.cells made.kind made.names in
    let rest = block_good size before (step_of size made.rows) made.place made.cells made.kind made.names good (step_of-some size made.rows small wide)
    (length_of-in size table made.cells made.is_long) made.all_names made.new_names (subst D (sym made.are_names) (names_in-distinct made.name made.rows small)) (subst F (sym count) made.free) in
    let P : List Declared → Type 0 = λ es. AreEntries size es in
    (subst P (sym made.entries) rest, omega (arith, ap length made.entries, length-append before block, entries_from-length (step_of size made.rows) made.place made.cells made.kind made.names, count, made.few))

entries_of-good : (version : Version) (size : Size) (n : ℕ) (before : List Declared) (tables : List Members) (entries : List Declared)
    → entries_of version size n before tables ≡ Ok entries → 0 < size.cols → AreEntries size before → length before ≤ 1000 → AreEntries size entries × (length entries ≤ 1000)
unfolding entries_of
entries_of-good version size n before [] entries h wide good few =
    let same = same_ok before entries h in
    let P : List Declared → Type 0 = λ es. AreEntries size es in
    (subst P same good, omega (arith, ap length same, few))
entries_of-good version size n before (table ∷ tables) entries h wide good few =
    let more = bind_ok (in_field n (with_table version size before table)) _ entries h in
    let one = table_good version size before table more.0 (in_field_ok n _ more.0 more.1) wide good in
    entries_of-good version size (n + 1) more.0 tables entries more.2 wide one.0 one.1

-- ---- the layout

screen-good : (mode : Mode) (default alternate size : Size) → IsGood mode default → IsGood mode alternate → (size ≡ default) ⊎ (size ≡ alternate) → IsGood mode size
screen-good mode default alternate size d a (inl same) = let P : Size → Type 0 = λ s. IsGood mode s in subst P (sym same) d
screen-good mode default alternate size d a (inr same) = let P : Size → Type 0 = λ s. IsGood mode s in subst P (sym same) a

limits : (mode : Mode) → limit_of mode ≤ 65025
limits Bits14 = omega arith
limits Bits16 = omega arith

IsGood-small : (mode : Mode) (size : Size) → IsGood mode size → IsSmall size
IsGood-small mode size good = (omega (arith, good.few_cells, limits mode), omega (arith, good.few_cols))

-- the screen that a layout's top names
pub screen-small : (top : Members) (mode : Mode) (default alternate size : Size) → default_of mode top ≡ Ok default → alternate_of mode default top ≡ Ok alternate → screen_of default alternate top ≡ Ok size → IsSmall size
screen-small top mode default alternate size d a s =
    let good = default_of-good mode top default d in
    IsGood-small mode size (screen-good mode default alternate size good (alternate_of-good mode default top alternate good a) (screen_of-named default alternate top size s))

pub parts-law : (top : Members) (version : Version) (mode : Mode) (default alternate size : Size) (fields : List Members) (entries : List Declared)
    → default_of mode top ≡ Ok default → alternate_of mode default top ≡ Ok alternate → screen_of default alternate top ≡ Ok size
    → entries_of version size 0 [] fields ≡ Ok entries
    → IsLayout (record { geometry = record { default = default; alternate = alternate; mode = mode }; size = size; entries = entries })
parts-law top version mode default alternate size fields entries d a s e =
    let good = default_of-good mode top default d in
    let other = alternate_of-good mode default top alternate good a in
    let named = screen_of-named default alternate top size s in
    let screen = screen-good mode default alternate size good other named in
    let all = entries_of-good version size 0 [] fields entries e (omega (arith, screen.two_cols)) (none_yet size) (omega arith) in
    record {
      default = good;
      alternate = other;
      screen = named;
      named = all.0.named;
      inside = all.0.inside;
      long = all.0.long;
      names = all.0.names;
      places = all.0.places;
      few = all.1;
    }

pub declaration_of-law : (table : Members) (layout : Declaration) → declaration_of table ≡ Ok layout → IsLayout layout
unfolding declaration_of
declaration_of-law table layout h =
    let top = bind_ok (with_only top_keys table) _ layout h in
    let version = bind_ok (version_of top.0) _ layout top.2 in
    let mode = bind_ok (mode_of top.0) _ layout version.2 in
    let default = bind_ok (default_of mode.0 top.0) _ layout mode.2 in
    let alternate = bind_ok (alternate_of mode.0 default.0 top.0) _ layout default.2 in
    let size = bind_ok (screen_of default.0 alternate.0 top.0) _ layout alternate.2 in
    let fields = bind_ok (fields_of top.0) _ layout size.2 in
    let entries = bind_ok (entries_of version.0 size.0 0 [] fields.0) _ layout fields.2 in
    let P : Declaration → Type 0 = λ l. IsLayout l in
    subst P (same_ok _ layout entries.2) (parts-law top.0 version.0 mode.0 default.0 alternate.0 size.0 fields.0 entries.0 default.1 alternate.1 size.1 entries.1)

pub layout_of-law : (text : List ℕ) (layout : Declaration) → layout_of text ≡ Ok layout → IsLayout layout
layout_of-law text layout h =
    let table = bind_ok (table_of text) declaration_of layout h in
    declaration_of-law table.0 layout table.2
