-- What a reading of one table that gives entries says of its steps.
use Rattle.std.proofs.Common.{◌≡◌, ◌∙◌, ℕ, zero, suc, ℤ, ◌+◌, ◌<◌, ◌≤◌, Bool, true, false, not, nat_le, nat_lt, ap, sym, subst, refl, length, List, ◌++◌, Option, Ok}
use Rattle.std.specs.List.{list_all}
use Rattle.std.proofs.lemmas.Bool.{leb-true, ltb-true, lt-ltb}
use Rattle.ds_codec.specs.declared.size.Size.{Size}
use Rattle.ds_codec.specs.Geometry.{cells_of}
use Rattle.toml.specs.Data.{Members}
use Rattle.scr_layout.specs.declared.entry.Kind.{Kind}
use Rattle.scr_layout.specs.declared.fault.LayoutKey.TheVariants.{Unknown, Name, Row, Col}
use Rattle.scr_layout.specs.declared.fault.Why.TheVariants.{UnknownKey, BadName, NameTwice, PlaceOutside, PlaceTwice, TooManyFields}
use Rattle.scr_layout.specs.declared.rows.Rows.{Rows}
use Rattle.scr_layout.specs.declared.top.Version.{Version}
use Rattle.scr_layout.specs.Entry.{Declared, is_name}
use Rattle.scr_layout.specs.Fault.{at_key}
use Rattle.scr_layout.specs.Field.{field_keys, name_of, integer_at, place_of, length_of, kind_of, with_table}
use Rattle.scr_layout.specs.Results.{tested}
use Rattle.scr_layout.specs.Rows.{rows_of, count_of, names_in, has_any, asked_by, new_names, names_of, step_of, has_place, free_at, are_free, entries_from}
use Rattle.scr_layout.specs.Values.{has_only, with_only}
use Rattle.scr_layout.proofs.Steps.{bind_ok, tested_ok, same_ok}

-- each of so many places is on the screen, and no entry before stands there
abbrev pub AllFree : Size → List Declared → ℕ → ℕ → ℕ → Type 0
AllFree size before step place zero = Unit {0}
AllFree size before step place (suc more) = (place < cells_of size) × (has_place place before ≡ false) × AllFree size before step (place + step) more

pub not_true : (b : Bool) → not b ≡ true → b ≡ false
not_true true h = absurd cc
not_true false h = refl

are_free-all : (size : Size) (before : List Declared) (step place count : ℕ) (u : Unit {0}) → are_free size before step place count ≡ Ok u → AllFree size before step place count
unfolding are_free free_at
are_free-all size before step place zero u h = tt
are_free-all size before step place (suc more) u h =
    let here = bind_ok (free_at size before place) _ u h in
    let inside = bind_ok (tested (nat_lt place (cells_of size)) place (at_key Row PlaceOutside)) _ here.0 here.1 in
    let first = tested_ok (nat_lt place (cells_of size)) place (at_key Row PlaceOutside) inside.0 inside.1 in
    let last = tested_ok (not (has_place inside.0 before)) inside.0 (at_key Row PlaceTwice) here.0 inside.2 in
    let same : place ≡ here.0 = first.1 ∙ last.1 in
    let P : ℕ → Type 0 = λ p. AllFree size before step (p + step) more in
    (ltb-true _ _ first.0, not_true _ (ap (λ p. not (has_place p before)) first.1 ∙ last.0), subst P (sym same) (are_free-all size before step (here.0 + step) more u here.2))

pub all_free-read : (size : Size) (before : List Declared) (step place count : ℕ) → AllFree size before step place count → are_free size before step place count ≡ Ok tt
unfolding are_free free_at
all_free-read size before step place zero h = refl
all_free-read size before step place (suc more) h = rw (lt-ltb place (cells_of size) h.0, h.1) (all_free-read size before step (place + step) more h.2)

record AreNames (before : List Declared) (name : List ℕ) (rows : Option Rows) (names : List (List ℕ)) : Type 0 where
  same : names ≡ names_in name rows
  all : list_all is_name names ≡ true
  new : has_any names before ≡ false
  few : length before + count_of rows ≤ 1000

names_of-are : (before : List Declared) (name : List ℕ) (rows : Option Rows) (names : List (List ℕ)) → names_of before name rows ≡ Ok names → AreNames before name rows names
unfolding names_of new_names
names_of-are before name rows names h =
    let few = bind_ok (tested (nat_le (length before + count_of rows) 1000) rows (at_key (asked_by rows) TooManyFields)) _ names h in
    let room = tested_ok (nat_le (length before + count_of rows) 1000) rows (at_key (asked_by rows) TooManyFields) few.0 few.1 in
    let good = bind_ok (tested (list_all is_name (names_in name few.0)) (names_in name few.0) (at_key Name BadName)) _ names few.2 in
    let first = tested_ok (list_all is_name (names_in name few.0)) (names_in name few.0) (at_key Name BadName) good.0 good.1 in
    let last = tested_ok (not (has_any good.0 before)) good.0 (at_key Name NameTwice) names good.2 in
    let same : names ≡ names_in name rows = sym (first.1 ∙ last.1) ∙ ap (names_in name) (sym room.1) in
    record {
      same = same;
      all = ap (list_all is_name) (sym (first.1 ∙ last.1)) ∙ first.0;
      new = not_true _ (ap (λ ns. not (has_any ns before)) (sym last.1) ∙ last.0);
      few = leb-true _ _ room.0;
    }

-- the steps of one table
pub record IsMade (version : Version) (size : Size) (before : List Declared) (table : Members) (all : List Declared) : Type 0 where
  pub keys : has_only (field_keys version) table ≡ true
  pub name : List ℕ
  pub is_name_of : name_of table ≡ Ok name
  pub rows : Option Rows
  pub are_rows : rows_of table ≡ Ok rows
  pub names : List (List ℕ)
  pub are_names : names ≡ names_in name rows
  pub all_names : list_all is_name names ≡ true
  pub new_names : has_any names before ≡ false
  pub few : length before + count_of rows ≤ 1000
  pub row : ℤ
  pub is_row : integer_at Row table ≡ Ok row
  pub col : ℤ
  pub is_col : integer_at Col table ≡ Ok col
  pub place : ℕ
  pub is_place : place_of size row col ≡ Ok place
  pub free : AllFree size before (step_of size rows) place (count_of rows)
  pub cells : ℕ
  pub is_long : length_of size table ≡ Ok cells
  pub kind : Kind
  pub is_kind : kind_of table ≡ Ok kind
  pub entries : all ≡ before ++ entries_from (step_of size rows) place cells kind names

pub with_table-made : (version : Version) (size : Size) (before : List Declared) (table : Members) (all : List Declared) → with_table version size before table ≡ Ok all → IsMade version size before table all
unfolding with_table
with_table-made version size before table all h =
    let field = bind_ok (with_only (field_keys version) table) _ all h in
    let name = bind_ok (name_of field.0) _ all field.2 in
    let rows = bind_ok (rows_of field.0) _ all name.2 in
    let names = bind_ok (names_of before name.0 rows.0) _ all rows.2 in
    let row = bind_ok (integer_at Row field.0) _ all names.2 in
    let col = bind_ok (integer_at Col field.0) _ all row.2 in
    let place = bind_ok (place_of size row.0 col.0) _ all col.2 in
    let free = bind_ok (are_free size before (step_of size rows.0) place.0 (count_of rows.0)) _ all place.2 in
    let cells = bind_ok (length_of size field.0) _ all free.2 in
    let kind = bind_ok (kind_of field.0) _ all cells.2 in
    let only = tested_ok (has_only (field_keys version) table) table (at_key Unknown UnknownKey) field.0 field.1 in
    let are = names_of-are before name.0 rows.0 names.0 names.1 in
    let made : IsMade version size before field.0 all = record {
      keys = ap (has_only (field_keys version)) (sym only.1) ∙ only.0;
      name = name.0;
      is_name_of = name.1;
      rows = rows.0;
      are_rows = rows.1;
      names = names.0;
      are_names = are.same;
      all_names = are.all;
      new_names = are.new;
      few = are.few;
      row = row.0;
      is_row = row.1;
      col = col.0;
      is_col = col.1;
      place = place.0;
      is_place = place.1;
      free = are_free-all size before (step_of size rows.0) place.0 (count_of rows.0) free.0 free.1;
      cells = cells.0;
      is_long = cells.1;
      kind = kind.0;
      is_kind = kind.1;
      entries = sym (same_ok _ all kind.2);
    } in
    let P : Members → Type 0 = λ t. IsMade version size before t all in
    subst P (sym only.1) made
