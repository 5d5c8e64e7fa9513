-- What a table says is what a reading gives.
use Rattle.std.proofs.Common.{◌≡◌, ◌∙◌, ℕ, zero, ◌||◌, ◌==◌, bytes_eq, length-append, Option, None, ℤ, pos, suc, ◌+◌, ◌-◌, ◌*◌, ◌<◌, ◌≤◌, inl, inr, IsTrue, Bool, true, false, le-leb, ap, sym, subst, refl, length, get_or, List, [], ◌∷◌, ◌++◌, map, append_assoc, All, Some, Ok, arith}
use Rattle.std.specs.Cmp.{IsEquivalence}
use Rattle.std.specs.List.{list_any, list_all, IsDistinct, AllByRecursion}
use Rattle.std.proofs.lemmas.Cmp.{nat_eq_equiv, nat_list_eq_equiv}
use Rattle.std.proofs.lemmas.List.{append-nil}
use Rattle.std.proofs.lemmas.List.Folds.{list_any-append}
use Rattle.ds_codec.specs.declared.size.Size.{Size}
use Rattle.ds_codec.specs.declared.size.Mode.{Mode}
use Rattle.ds_codec.specs.declared.size.Mode.TheVariants.{Bits14, Bits16}
use Rattle.ds_codec.specs.Geometry.{Sizes, IsGood, cells_of}
use Rattle.toml.specs.Data.{string, integer, float, boolean, datetime, array, table, Items, no_items, item, Members}
use Rattle.scr_layout.specs.declared.entry.Kind.{Kind as EntryKind}
use Rattle.scr_layout.specs.declared.entry.Kind.TheVariants.{Input, Fixed}
use Rattle.scr_layout.specs.declared.fault.LayoutKey.{LayoutKey}
use Rattle.scr_layout.specs.declared.fault.LayoutKey.TheVariants.{Default, Alternate, Name, Row, Col, Length, Count, Down}
use Rattle.scr_layout.specs.Entry.{Declared, is_name}
use Rattle.scr_layout.specs.Field.{name_of, integer_at, place_of, length_of, kind_of, with_table}
use Rattle.scr_layout.specs.Rows.{number_of, down_or, rows_of, count_of, names_in, has_name, has_any, new_names, names_of, step_of, has_place, entries_from}
use Rattle.scr_layout.specs.declared.rows.Rows.{Rows}
use Rattle.scr_layout.specs.declared.top.Version.{Version}
use Rattle.scr_layout.specs.declared.top.Version.TheVariants.{One, Two}
use Rattle.scr_layout.specs.Layout.{Declaration, entries_of, declaration_of, layout_of}
use Rattle.scr_layout.specs.Says.{HasText, HasNumber, SaysVersion, SaysMode, SaysSize, SaysScreen, SaysKind, SaysDown, SaysRows, SaysBlock, SayEntries, SaysFields, Says, TextSays}
use Rattle.scr_layout.specs.SizeText.{size_text}
use Rattle.scr_layout.specs.Top.{named_version, version_of, named_mode, mode_of, size_of, size_or, default_of, alternate_of, screen_of, tables_in, are_tables, tables_of, fields_of}
use Rattle.scr_layout.specs.Values.{value_at, from_one_to}
use Rattle.scr_layout.proofs.LayoutLaw.{AreEntries, or_false, names_in-length, entries_from-length}
use Rattle.scr_layout.proofs.Made.{AllFree, all_free-read}
use Rattle.scr_layout.proofs.SaysLaw.{entries_from-map}
use Rattle.scr_layout.proofs.SizeLaw.{size_text-read}

-- ---- the top

version_of-read : (top : Members) (version : Version) → SaysVersion top version → version_of top ≡ Ok version
unfolding version_of named_version
version_of-read top One (inl h) = rw h refl
version_of-read top One (inr h) = rw h refl
version_of-read top Two h = rw h refl

mode_of-read : (top : Members) (mode : Mode) → SaysMode top mode → mode_of top ≡ Ok mode
unfolding mode_of named_mode
mode_of-read top Bits14 (inl h) = rw h refl
mode_of-read top Bits14 (inr h) = rw h refl
mode_of-read top Bits16 h = rw h refl

size_of-read : (mode : Mode) (key : LayoutKey) (s : Size) → IsGood mode s → size_of mode key (string (size_text s)) ≡ Ok s
unfolding size_of
size_of-read mode key s good = rw (size_text-read mode s good)

size_or-read : (mode : Mode) (absent : Size) (key : LayoutKey) (top : Members) (s : Size) → IsGood mode s → SaysSize key absent top s → size_or mode absent key (value_at key top) ≡ Ok s
size_or-read mode absent key top s good (inl h) = rw h.0 (ap Ok (sym h.1))
size_or-read mode absent key top s good (inr h) = rw h (size_of-read mode key s good)

default_of-read : (mode : Mode) (top : Members) (s : Size) → IsGood mode s → SaysSize Default (record { rows = 24; cols = 80 }) top s → default_of mode top ≡ Ok s
unfolding default_of
default_of-read mode top s good h = size_or-read mode (record { rows = 24; cols = 80 }) Default top s good h

alternate_of-read : (mode : Mode) (default : Size) (top : Members) (s : Size) → IsGood mode s → SaysSize Alternate default top s → alternate_of mode default top ≡ Ok s
unfolding alternate_of
alternate_of-read mode default top s good h = size_or-read mode default Alternate top s good h

screen_of-read : (geometry : Sizes) (top : Members) (s : Size) → SaysScreen top geometry s → screen_of geometry.default geometry.alternate top ≡ Ok s
unfolding screen_of
screen_of-read geometry top s (inl (inl absent, same)) = rw absent (ap Ok (sym same))
screen_of-read geometry top s (inl (inr word, same)) = rw word (ap Ok (sym same))
screen_of-read geometry top s (inr (word, same)) = rw word (ap Ok (sym same))

-- ---- a field

pub name_of-read : (field : Members) (name : List ℕ) → HasText Name name field → is_name name ≡ true → name_of field ≡ Ok name
unfolding name_of
name_of-read field name h good = rw (h, good)

pub integer_at-read : (key : LayoutKey) (field : Members) (z : ℤ) → value_at key field ≡ Some (integer z) → integer_at key field ≡ Ok z
unfolding integer_at
integer_at-read key field z h = rw h

from_one_to-read : (most n : ℕ) → 1 ≤ n → n ≤ most → from_one_to most (pos n) ≡ Some n
from_one_to-read most n low high = rw (le-leb 1 n low, le-leb n most high)

pub place_of-read : (size : Size) (r c : ℕ) → r < size.rows → c < size.cols → place_of size (pos (r + 1)) (pos (c + 1)) ≡ Ok (r * size.cols + c)
unfolding place_of
place_of-read size r c in_rows in_cols =
    let row : (r + 1) - 1 ≡ r = omega arith in
    let col : (c + 1) - 1 ≡ c = omega arith in
    rw (from_one_to-read size.rows (r + 1) (omega arith) (omega arith), from_one_to-read size.cols (c + 1) (omega arith) (omega arith), row, col)

pub length_of-read : (size : Size) (field : Members) (n : ℕ) → HasNumber Length n field → 1 ≤ n → n < cells_of size → length_of size field ≡ Ok n
unfolding length_of
length_of-read size field n h low high = rw (integer_at-read Length field (pos n) h, from_one_to-read (cells_of size - 1) n low (omega arith))

pub kind_of-read : (field : Members) (k : EntryKind) → SaysKind field k → kind_of field ≡ Ok k
unfolding kind_of
kind_of-read field Input (inl absent) = rw absent
kind_of-read field Input (inr word) = rw word
kind_of-read field Fixed word = rw word

number_of-read : (key : LayoutKey) (n : ℕ) → 1 ≤ n → n ≤ 255 → number_of key (integer (pos n)) ≡ Ok n
unfolding number_of
number_of-read key n low high = rw (from_one_to-read 255 n low high) refl

down_or-read : (field : Members) (n : ℕ) → SaysDown field n → 1 ≤ n → n ≤ 255 → down_or (value_at Down field) ≡ Ok n
down_or-read field n (inl absent) low high = rw absent.0 (ap Ok (sym absent.1))
down_or-read field n (inr there) low high = rw there (number_of-read Down n low high)

pub rows_of-read : (field : Members) (rows : Option Rows) → SaysRows field rows → rows_of field ≡ Ok rows
unfolding rows_of
rows_of-read field None said = rw (said.0, said.1) refl
rows_of-read field (Some rows) said = rw (said.0, number_of-read Count rows.count said.2 said.3, down_or-read field rows.down said.1 said.4 said.5) refl

pub names_of-read : (before : List Declared) (name : List ℕ) (rows : Option Rows) → length before + count_of rows ≤ 1000 → list_all is_name (names_in name rows) ≡ true → has_any (names_in name rows) before ≡ false
    → names_of before name rows ≡ Ok (names_in name rows)
unfolding names_of new_names
names_of-read before name rows few all new = rw (le-leb (length before + count_of rows) 1000 few, all, new) refl

-- ---- all entries

at_middle : {A K : Type 0} (P : K → Type 0) (f : A → K) (xs : List A) (y : A) (ys : List A) → AllByRecursion P (map f (xs ++ y ∷ ys)) → P (f y)
at_middle P f [] y ys h = h.0
at_middle P f (x ∷ xs) y ys h = at_middle P f xs y ys h.1

none_before : {A K : Type 0} {E : K → K → Bool} → IsEquivalence E → (f : A → K) (xs : List A) (y : A) (ys : List A) → IsDistinct E (map f (xs ++ y ∷ ys)) → list_any (λ x. E (f y) (f x)) xs ≡ false
unfolding IsDistinct
none_before laws f [] y ys h = refl
none_before {E = E} laws f (x ∷ xs) y ys h =
    rw (laws.symm (f y) (f x) ∙ at_middle (λ z. E (f x) z ≡ false) f xs y ys h.0, none_before laws f xs y ys h.1)

at_seam : {A : Type 0} (P : A → Type 0) (xs : List A) (y : A) (ys : List A) → All P (xs ++ y ∷ ys) → P y
at_seam {A = A} P xs y ys h = subst P (seam xs) (h (length xs) y (within xs)) where
  seam : (xs : List A) → get_or (xs ++ y ∷ ys) (length xs) y ≡ y
  seam [] = refl
  seam (x ∷ xs) = seam xs

  within : (xs : List A) → length xs < length (xs ++ y ∷ ys)
  within [] = omega arith
  within (x ∷ xs) = let shorter = within xs in omega arith

either_false : (a b : Bool) → (a || b) ≡ false → a ≡ false
either_false true b h = absurd cc
either_false false b h = refl

has_name-less : (name : List ℕ) (before : List Declared) (e : Declared) → has_name name (before ++ e ∷ []) ≡ false → has_name name before ≡ false
has_name-less name before e h = either_false _ _ (sym (list_any-append (λ x. bytes_eq name x.name) before (e ∷ [])) ∙ h)

has_any-less : (names : List (List ℕ)) (before : List Declared) (e : Declared) → has_any names (before ++ e ∷ []) ≡ false → has_any names before ≡ false
has_any-less [] before e h = refl
has_any-less (name ∷ names) before e h =
    let parts = or_false (has_name name (before ++ e ∷ [])) (has_any names (before ++ e ∷ [])) h in
    rw (has_name-less name before e parts.0, has_any-less names before e parts.1) refl

all_free-less : (size : Size) (before : List Declared) (e : Declared) (step place count : ℕ) → AllFree size (before ++ e ∷ []) step place count → AllFree size before step place count
all_free-less size before e step place zero h = tt
all_free-less size before e step place (suc more) h =
    (h.0, either_false _ _ (sym (list_any-append (λ x. place == x.place) before (e ∷ [])) ∙ h.1), all_free-less size before e step (place + step) more h.2)

-- what the entries of one table are beside those before
record Fits (size : Size) (before : List Declared) (step place cells : ℕ) (names : List (List ℕ)) : Type 0 where
  all : list_all is_name names ≡ true
  new : has_any names before ≡ false
  free : AllFree size before step place (length names)
  long : 0 < length names → (1 ≤ cells) × (cells < cells_of size)

fits : (size : Size) (before : List Declared) (step place cells : ℕ) (kind : EntryKind) (names : List (List ℕ)) (others : List Declared)
    → AreEntries size (before ++ (entries_from step place cells kind names ++ others)) → Fits size before step place cells names
fits size before step place cells kind [] others law = record { all = refl; new = refl; free = tt; long = λ some. absurd (omega (arith, some)) }
fits size before step place cells kind (name ∷ names) others law =
    let e : Declared = record { name = name; place = place; length = cells; kind = kind } in
    let rest : List Declared = entries_from step (place + step) cells kind names ++ others in
    let Q : List Declared → Type 0 = λ all. AreEntries size all in
    let more = fits size (before ++ e ∷ []) step (place + step) cells kind names others (subst Q (sym (append_assoc before (e ∷ []) rest)) law) in
    let named : is_name name ≡ true = at_seam (λ x. IsTrue (is_name x.name)) before e rest law.named in
    let new_name : has_name name before ≡ false = none_before nat_list_eq_equiv (λ x. x.name) before e rest law.names in
    let new_place : has_place place before ≡ false = none_before nat_eq_equiv (λ x. x.place) before e rest law.places in
    let long = at_seam (λ x. (1 ≤ x.length) × (x.length < cells_of size)) before e rest law.long in
    record {
      all = rw (named, more.all) refl;
      new = rw (new_name, has_any-less names before e more.new) refl;
      free = (at_seam (λ x. x.place < cells_of size) before e rest law.inside, new_place, all_free-less size before e step (place + step) (length names) more.free);
      long = λ some. long;
    }

some_rows : (field : Members) (rows : Option Rows) → SaysRows field rows → 0 < count_of rows
some_rows field None said = omega arith
some_rows field (Some rows) said = omega (arith, said.2)

with_table-read : (version : Version) (size : Size) (before : List Declared) (field : Members) (block others : List Declared) → SaysBlock version size field block
    → AreEntries size (before ++ (block ++ others)) → length (before ++ (block ++ others)) ≤ 1000
    → (with_table version size before field ≡ Ok (before ++ block)) × (0 < length block)
unfolding with_table
with_table-read version size before field block others said law few =
    let step = step_of size said.rows in
    let place : ℕ = said.row * size.cols + said.col in
    let names : List (List ℕ) = names_in said.name said.rows in
    let same : entries_from step place said.length said.kind names ≡ block = entries_from-map size said.name said.row said.col said.length said.kind said.rows place refl ∙ sym said.entries in
    let Q : List Declared → Type 0 = λ es. AreEntries size (before ++ (es ++ others)) in
    let fit = fits size before step place said.length said.kind names others (subst Q (sym same) law) in
    let count : length names ≡ count_of said.rows = names_in-length said.name said.rows in
    let whole : length block ≡ count_of said.rows = ap length (sym same) ∙ entries_from-length step place said.length said.kind names ∙ count in
    let some : 0 < length names = omega (arith, some_rows field said.rows said.has_rows, count) in
    let room : length before + count_of said.rows ≤ 1000 = omega (arith, few, length-append before (block ++ others), length-append block others, whole) in
    let F : ℕ → Type 0 = λ n. AllFree size before step place n in
    let long = fit.long some in (
      rw (
        said.keys,
        name_of-read field said.name said.is_named.0 said.is_named.1,
        rows_of-read field said.rows said.has_rows,
        names_of-read before said.name said.rows room fit.all fit.new,
        integer_at-read Row field (pos (said.row + 1)) said.is_placed.0,
        integer_at-read Col field (pos (said.col + 1)) said.is_placed.1,
        place_of-read size said.row said.col said.is_placed.2 said.is_placed.3,
        all_free-read size before step place (count_of said.rows) (subst F count fit.free),
        length_of-read size field said.length said.is_long long.0 long.1,
        kind_of-read field said.kind said.is_kind,
      )
          (ap (λ es. Ok (before ++ es)) same),
      omega (arith, whole, some_rows field said.rows said.has_rows),
    )

entries_of-read : (version : Version) (size : Size) (n : ℕ) (before : List Declared) (items : Items) (es : List Declared) → SayEntries version size items es → AreEntries size (before ++ es) → length (before ++ es) ≤ 1000
    → (are_tables items ≡ true) × (entries_of version size n before (tables_in items) ≡ Ok (before ++ es)) × (length (tables_in items) ≤ length es)
unfolding entries_of
entries_of-read version size n before no_items es said law few = (refl, ap Ok (sym (ap (λ xs. before ++ xs) said ∙ append-nil before)), omega arith)
entries_of-read version size n before (item (table f) rest) es said law few =
    let field = said.0 in
    let block = said.1 in
    let others = said.2 in
    let same : f ≡ field = let is = said.3 in cc in
    let M : Members → Type 0 = λ m. SaysBlock version size m block in
    let Q : List Declared → Type 0 = λ all. AreEntries size (before ++ all) in
    let R : List Declared → Type 0 = λ all. length (before ++ all) ≤ 1000 in
    let good = subst Q said.4 law in
    let room = subst R said.4 few in
    let first = with_table-read version size before f block others (subst M (sym same) said.5) good room in
    let S : List Declared → Type 0 = λ all. AreEntries size all in
    let T : List Declared → Type 0 = λ all. length all ≤ 1000 in
    let next = entries_of-read version size (n + 1) (before ++ block) rest others said.6 (subst S (sym (append_assoc before block others)) good) (subst T (sym (append_assoc before block others)) room) in
    (next.0, rw first.0 (next.1 ∙ ap Ok (append_assoc before block others ∙ ap (λ xs. before ++ xs) (sym said.4))), omega (arith, next.2, first.1, ap length said.4, length-append block others))
entries_of-read version size n before (item (string s) rest) es said law few = let is = said.3 in cc
entries_of-read version size n before (item (integer z) rest) es said law few = let is = said.3 in cc
entries_of-read version size n before (item (float x) rest) es said law few = let is = said.3 in cc
entries_of-read version size n before (item (boolean b) rest) es said law few = let is = said.3 in cc
entries_of-read version size n before (item (datetime t) rest) es said law few = let is = said.3 in cc
entries_of-read version size n before (item (array ds) rest) es said law few = let is = said.3 in cc

pub tables_of-read : (items : Items) → are_tables items ≡ true → length (tables_in items) ≤ 1000 → tables_of (array items) ≡ Ok (tables_in items)
unfolding tables_of
tables_of-read items all few = rw (all, le-leb _ 1000 few)

fields_of-read : (version : Version) (size : Size) (top : Members) (entries : List Declared) → SaysFields version top size entries → AreEntries size entries → length entries ≤ 1000
    → (tables : List Members) × (fields_of top ≡ Ok tables) × (entries_of version size 0 [] tables ≡ Ok entries)
unfolding fields_of entries_of
fields_of-read version size top entries (inl (absent, none)) law few = ([], rw absent, ap Ok (sym none))
fields_of-read version size top entries (inr (items, at, said)) law few =
    let read = entries_of-read version size 0 [] items entries said law few in
    (tables_in items, rw at (tables_of-read items read.0 (omega (arith, read.2, few))), read.1)

pub declaration_of-read : (whole : Members) (layout : Declaration) → Says whole layout → declaration_of whole ≡ Ok layout
unfolding declaration_of
declaration_of-read whole layout said =
    let law = said.is_one in
    let all : AreEntries layout.size layout.entries = record { named = law.named; inside = law.inside; long = law.long; names = law.names; places = law.places } in
    let fields = fields_of-read said.version layout.size whole layout.entries said.fields all law.few in
    rw (
      said.keys,
      version_of-read whole said.version said.is_version,
      mode_of-read whole layout.geometry.mode said.mode,
      default_of-read layout.geometry.mode whole layout.geometry.default law.default said.default,
      alternate_of-read layout.geometry.mode layout.geometry.default whole layout.geometry.alternate law.alternate said.alternate,
      screen_of-read layout.geometry whole layout.size said.screen,
      fields.1,
      fields.2,
    )
    refl

-- the layout that a text says is read of it
pub layout_of-read : (text : List ℕ) (layout : Declaration) → TextSays text layout → layout_of text ≡ Ok layout
layout_of-read text layout said = rw said.1 (declaration_of-read said.0 layout said.2)
