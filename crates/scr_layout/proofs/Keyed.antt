-- Each fault of a table has a key, and so is not that of a text that is no TOML.
use Rattle.std.proofs.Common.{◌≡◌, ℕ, zero, suc, ◌+◌, ◌-◌, ℤ, Bool, true, false, cond, not, nat_le, nat_lt, bytes_eq, codes, refl, ap, is_some, length, List, [], ◌∷◌, Option, Some, None, ok_or, Result, Ok, Err}
use Rattle.std.specs.List.{list_all}
use Rattle.ds_codec.specs.declared.size.Size.{Size}
use Rattle.toml.specs.Data.{Data, Members, as_array, as_str, as_integer}
use Rattle.scr_layout.specs.declared.fault.LayoutFault.{LayoutFault}
use Rattle.scr_layout.specs.declared.fault.LayoutKey.{LayoutKey}
use Rattle.scr_layout.specs.declared.fault.LayoutKey.TheVariants.{Unknown, Version, Addresses, Default, Alternate, Screen, Field, Name, Row, Col, Length, Kind, Count, Down}
use Rattle.scr_layout.specs.declared.fault.Why.TheVariants.{MissingKey, WrongKind, UnknownKey, BadSize, BadName, NameTwice, PlaceOutside, PlaceTwice, BadLength, TooManyFields, BadCount}
use Rattle.scr_layout.specs.declared.entry.Kind.TheVariants.{Input, Fixed}
use Rattle.ds_codec.specs.declared.size.Mode.{Mode}
use Rattle.ds_codec.specs.Geometry.{cells_of}
use Rattle.scr_layout.specs.SizeText.{size_of_text}
use Rattle.scr_layout.specs.declared.fault.Why.{Why}
use Rattle.scr_layout.specs.Entry.{Declared, is_name}
use Rattle.scr_layout.specs.Fault.{at_key, not_toml}
use Rattle.scr_layout.specs.Field.{field_keys, name_of, integer_at, place_of, length_of, kind_or, kind_of, with_table}
use Rattle.scr_layout.specs.Rows.{number_of, down_or, rows_or, rows_of, count_of, names_in, has_any, asked_by, new_names, names_of, step_of, has_place, free_at, are_free}
use Rattle.scr_layout.specs.declared.rows.Rows.{Rows}
use Rattle.scr_layout.specs.declared.top.Version.{Version as Keys}
use Rattle.scr_layout.specs.Layout.{entries_of, declaration_of}
use Rattle.scr_layout.specs.Results.{◌>>=◌, tested, in_field}
use Rattle.scr_layout.specs.Top.{top_keys, numbered_version, named_version, version_or, version_of, mode_of_bits, named_mode, mode_or, mode_of, are_tables, tables_in, size_of, size_or, default_of, alternate_of, screen_or, screen_of, tables_of, tables_or, fields_of}
use Rattle.scr_layout.specs.Values.{value_at, needed_at, text_of, integer_of, from_one_to, has_only, with_only}

-- a fault that has a key
abbrev HasKey : {A : Type 0} → Result A LayoutFault → Type 0
HasKey (Ok x) = Unit {0}
HasKey (Err e) = is_some e.which ≡ true

record IsKeyed {A : Type 0} (r : Result A LayoutFault) : Type 0 where
  key : HasKey r

bound : {A B : Type 0} (r : Result A LayoutFault) (f : A → Result B LayoutFault) → IsKeyed r → ((x : A) → IsKeyed (f x)) → IsKeyed (r >>= f)
bound (Ok x) f h k = k x
bound (Err e) f h k = record { key = h.key }

test : {A : Type 0} (b : Bool) (x : A) (key : LayoutKey) (why : Why) → IsKeyed (tested b x (at_key key why))
test true x key why = record { key = tt }
test false x key why = record { key = refl }

found : {A : Type 0} (o : Option A) (key : LayoutKey) (why : Why) → IsKeyed (ok_or o (at_key key why))
found (Some x) key why = record { key = tt }
found None key why = record { key = refl }

-- no other keys; a key that has to be there; a text
needed : (key : LayoutKey) (table : Members) → IsKeyed (needed_at key table)
needed key table = found (value_at key table) key MissingKey

only : (keys : List LayoutKey) (table : Members) → IsKeyed (with_only keys table)
only keys table = test (has_only keys table) table Unknown UnknownKey

text : (key : LayoutKey) (value : Data) → IsKeyed (text_of key value)
text key value = found (as_str value) key WrongKind

good : {A : Type 0} {x : A} → IsKeyed (Ok x)
good = record { key = tt }

either : {A : Type 0} (a b : Bool) (x y : A) (key : LayoutKey) (why : Why)
    → IsKeyed (cond {A = Result A LayoutFault} a (Ok x) (cond b (Ok y) (Err (at_key key why))))
either true b x y key why = good
either false true x y key why = good
either false false x y key why = record { key = refl }

numbered : {A : Type 0} (n : ℕ) (r : Result A LayoutFault) → IsKeyed r → IsKeyed (in_field n r)
numbered n (Ok x) h = good
numbered n (Err e) h = record { key = h.key }

known : (value : Data) → IsKeyed (named_version value)
unfolding named_version
known value = bound (integer_of Version value) _ (found (as_integer value) Version WrongKind) (λ n. found (numbered_version (from_one_to 2 n)) Version WrongKind)

version_where : (o : Option Data) → IsKeyed (version_or o)
version_where None = good
version_where (Some value) = known value

named : (value : Data) → IsKeyed (named_mode value)
unfolding named_mode
named value = bound (integer_of Addresses value) _ (found (as_integer value) Addresses WrongKind) (λ bits. found (mode_of_bits (from_one_to 16 bits)) Addresses WrongKind)

mode_where : (o : Option Data) → IsKeyed (mode_or o)
mode_where None = good
mode_where (Some value) = named value

size : (mode : Mode) (key : LayoutKey) (value : Data) → IsKeyed (size_of mode key value)
unfolding size_of
size mode key value = bound (text_of key value) _ (text key value) (λ t. found (size_of_text mode t) key BadSize)

size_where : (mode : Mode) (absent : Size) (key : LayoutKey) (o : Option Data) → IsKeyed (size_or mode absent key o)
size_where mode absent key None = good
size_where mode absent key (Some value) = size mode key value

screen_where : (default alternate : Size) (o : Option Data) → IsKeyed (screen_or default alternate o)
screen_where default alternate None = good
screen_where default alternate (Some value) =
    bound (text_of Screen value) _ (text Screen value) (λ word. either (bytes_eq word (codes "default")) (bytes_eq word (codes "alternate")) default alternate Screen WrongKind)

tables : (value : Data) → IsKeyed (tables_of value)
unfolding tables_of
tables value =
    bound (ok_or (as_array value) (at_key Field WrongKind)) _ (found (as_array value) Field WrongKind) (λ items.
    bound (tested (are_tables items) (tables_in items) (at_key Field WrongKind)) _ (test (are_tables items) (tables_in items) Field WrongKind) (λ ts.
    test (nat_le (length ts) 1000) ts Field TooManyFields))

tables_where : (o : Option Data) → IsKeyed (tables_or o)
tables_where None = good
tables_where (Some value) = tables value

version : (top : Members) → IsKeyed (version_of top)
unfolding version_of
version top = version_where (value_at Version top)

mode : (top : Members) → IsKeyed (mode_of top)
unfolding mode_of
mode top = mode_where (value_at Addresses top)

default : (m : Mode) (top : Members) → IsKeyed (default_of m top)
unfolding default_of
default m top = size_where m (record { rows = 24; cols = 80 }) Default (value_at Default top)

alternate : (m : Mode) (size : Size) (top : Members) → IsKeyed (alternate_of m size top)
unfolding alternate_of
alternate m size top = size_where m size Alternate (value_at Alternate top)

screen : (a b : Size) (top : Members) → IsKeyed (screen_of a b top)
unfolding screen_of
screen a b top = screen_where a b (value_at Screen top)

fields : (top : Members) → IsKeyed (fields_of top)
unfolding fields_of
fields top = tables_where (value_at Field top)

name : (field : Members) → IsKeyed (name_of field)
unfolding name_of
name field =
    bound (needed_at Name field) _ (needed Name field) (λ value.
    bound (text_of Name value) _ (text Name value) (λ t.
    test (is_name t) t Name BadName))

number : (key : LayoutKey) (value : Data) → IsKeyed (number_of key value)
unfolding number_of
number key value = bound (integer_of key value) _ (found (as_integer value) key WrongKind) (λ n. found (from_one_to 255 n) key BadCount)

down_where : (o : Option Data) → IsKeyed (down_or o)
down_where None = good
down_where (Some value) = number Down value

rows_where : (count down : Option Data) → IsKeyed (rows_or count down)
rows_where None None = good
rows_where None (Some value) = record { key = refl }
rows_where (Some value) down =
    bound (number_of Count value) _ (number Count value) (λ n.
    bound (down_or down) _ (down_where down) (λ d. good))

rows : (field : Members) → IsKeyed (rows_of field)
unfolding rows_of
rows field = rows_where (value_at Count field) (value_at Down field)

names : (before : List Declared) (name : List ℕ) (rows : Option Rows) → IsKeyed (names_of before name rows)
unfolding names_of new_names
names before name rows =
    bound (tested (nat_le (length before + count_of rows) 1000) rows (at_key (asked_by rows) TooManyFields)) _ (test (nat_le (length before + count_of rows) 1000) rows (asked_by rows) TooManyFields) (λ few.
    bound (tested (list_all is_name (names_in name few)) (names_in name few) (at_key Name BadName)) _ (test (list_all is_name (names_in name few)) (names_in name few) Name BadName) (λ all.
    test (not (has_any all before)) all Name NameTwice))

free : (size : Size) (before : List Declared) (place : ℕ) → IsKeyed (free_at size before place)
unfolding free_at
free size before place =
    bound (tested (nat_lt place (cells_of size)) place (at_key Row PlaceOutside)) _ (test (nat_lt place (cells_of size)) place Row PlaceOutside) (λ p.
    test (not (has_place p before)) p Row PlaceTwice)

all_free : (size : Size) (before : List Declared) (step place count : ℕ) → IsKeyed (are_free size before step place count)
unfolding are_free
all_free size before step place zero = good
all_free size before step place (suc more) = bound (free_at size before place) _ (free size before place) (λ here. all_free size before step (here + step) more)

integer : (key : LayoutKey) (field : Members) → IsKeyed (integer_at key field)
unfolding integer_at
integer key field = bound (needed_at key field) _ (needed key field) (λ value. found (as_integer value) key WrongKind)

place : (size : Size) (row col : ℤ) → IsKeyed (place_of size row col)
unfolding place_of
place size row col =
    bound (ok_or (from_one_to size.rows row) (at_key Row PlaceOutside)) _ (found (from_one_to size.rows row) Row PlaceOutside) (λ r.
    bound (ok_or (from_one_to size.cols col) (at_key Col PlaceOutside)) _ (found (from_one_to size.cols col) Col PlaceOutside) (λ c. good))

long : (size : Size) (field : Members) → IsKeyed (length_of size field)
unfolding length_of
long size field = bound (integer_at Length field) _ (integer Length field) (λ n. found (from_one_to (cells_of size - 1) n) Length BadLength)

kind_where : (o : Option Data) → IsKeyed (kind_or o)
kind_where None = good
kind_where (Some value) =
    bound (text_of Kind value) _ (text Kind value) (λ word. either (bytes_eq word (codes "input")) (bytes_eq word (codes "fixed")) Input Fixed Kind WrongKind)

kind : (field : Members) → IsKeyed (kind_of field)
unfolding kind_of
kind field = kind_where (value_at Kind field)

with : (version : Keys) (size : Size) (before : List Declared) (table : Members) → IsKeyed (with_table version size before table)
unfolding with_table
with version size before table =
    bound (with_only (field_keys version) table) _ (only (field_keys version) table) (λ field.
    bound (name_of field) _ (name field) (λ n.
    bound (rows_of field) _ (rows field) (λ rs.
    bound (names_of before n rs) _ (names before n rs) (λ ns.
    bound (integer_at Row field) _ (integer Row field) (λ row.
    bound (integer_at Col field) _ (integer Col field) (λ col.
    bound (place_of size row col) _ (place size row col) (λ p.
    bound (are_free size before (step_of size rs) p (count_of rs)) _ (all_free size before (step_of size rs) p (count_of rs)) (λ u.
    bound (length_of size field) _ (long size field) (λ l.
    bound (kind_of field) _ (kind field) (λ k. good))))))))))

entries : (version : Keys) (size : Size) (n : ℕ) (before : List Declared) (tables : List Members) → IsKeyed (entries_of version size n before tables)
unfolding entries_of
entries version size n before [] = good
entries version size n before (table ∷ tables) =
    bound (in_field n (with_table version size before table)) _ (numbered n (with_table version size before table) (with version size before table)) (λ all. entries version size (n + 1) all tables)

declaration : (table : Members) → IsKeyed (declaration_of table)
unfolding declaration_of
declaration table =
    bound (with_only top_keys table) _ (only top_keys table) (λ top.
    bound (version_of top) _ (version top) (λ v.
    bound (mode_of top) _ (mode top) (λ m.
    bound (default_of m top) _ (default m top) (λ d.
    bound (alternate_of m d top) _ (alternate m d top) (λ a.
    bound (screen_of d a top) _ (screen d a top) (λ size.
    bound (fields_of top) _ (fields top) (λ tables.
    bound (entries_of v size 0 [] tables) _ (entries v size 0 [] tables) (λ es. good))))))))

same_err : {A : Type 0} (f g : LayoutFault) → ◌≡◌ {A = Result A LayoutFault} (Err f) (Err g) → f ≡ g
same_err f g e = cc

none_some : (f : LayoutFault) → is_some f.which ≡ true → f ≡ not_toml → ⊥
none_some f h e = let none : is_some f.which ≡ false = ap (λ g. is_some g.which) e in cc

keyed : {A : Type 0} (r : Result A LayoutFault) → IsKeyed r → r ≡ Err not_toml → ⊥
keyed (Ok x) h e = cc
keyed (Err f) h e = none_some f h.key (same_err f not_toml e)

-- the fault of a text that is no TOML is told of no table
pub declaration_of-toml : (table : Members) → declaration_of table ≡ Err not_toml → ⊥
declaration_of-toml table e = keyed (declaration_of table) (declaration table) e
