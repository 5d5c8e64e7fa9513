-- The members of a field: a pair is put at its place in their order, and looked up there.
use Rattle.std.proofs.Common.{IfOk, is_some, ◌<◌, length, ◌≡◌, ℕ, ◌+◌, ◌-◌, ◌*◌, ◌≤◌, IfSome, Result, Ok, Err, arith, true, false, Ordering, Less, Equal, Greater, nat_cmp, is_eq, List, [], ◌∷◌, ◌++◌, Option, Some, None, refl, sym, ap, ◌∙◌}
use Rattle.std.specs.Prelude.{pos}
use Rattle.std.specs.Result.{result_ok, is_err}
use Rattle.std.specs.Cmp.Lexicographic.{slice_cmp}
use Rattle.std.proofs.lemmas.Nat.{mul-add-lt}
use Rattle.toml.specs.Data.{Data, Members, no_members}
use Rattle.toml.specs.Tables.{Node, node, value, get_node, insert}
use Rattle.scr_layout.specs.declared.fault.LayoutKey.{LayoutKey}
use Rattle.scr_layout.specs.declared.fault.LayoutKey.TheVariants.{Name, Row, Col, Length, Kind, Count, Down}
use Rattle.scr_layout.specs.declared.entry.Kind.{Kind as EntryKind}
use Rattle.scr_layout.specs.declared.fault.LayoutFault.{LayoutFault}
use Rattle.scr_layout.specs.declared.top.Version.{Version}
use Rattle.scr_layout.specs.declared.top.Version.TheVariants.{One, Two}
use Rattle.ds_codec.specs.declared.size.Size.{Size}
use Rattle.scr_layout.specs.Fault.{key_text}
use Rattle.scr_layout.specs.Values.{value_at, has_only, is_key}
use Rattle.scr_layout.specs.Says.{HasText, HasNumber}
use Rattle.scr_layout.specs.Field.{field_keys, place_of, named_kind, kind_of, with_table}
use Rattle.plain_tables.specs.Plain.{valued, IsPut}
use Rattle.scr_layout.specs.Entry.{Declared}
use Rattle.scr_layout.specs.declared.rows.Rows.{Rows}
use Rattle.scr_layout.specs.Rows.{names_of, step_of, are_free, count_of, entries_from, has_name, has_place}
use Rattle.scr_layout.specs.Section.{slot, slots, IsPlaced, IsSaid}
use Rattle.scr_layout.proofs.ReadLaw.{integer_at-read, place_of-read, names_of-read}
use Rattle.scr_layout.proofs.Made.{all_free-read}
use Rattle.scr_layout.proofs.FieldsLaws.{passed}

-- ---- a pair is put

-- how the key stands to another
abbrev Stands : LayoutKey → LayoutKey → Ordering → Type 0
Stands key other o = slice_cmp nat_cmp (key_text key) (key_text other) ≡ o

-- the key comes before all members
record IsFirst (key : LayoutKey) (ms : Members) : Type 0 where
  missing : get_node (key_text key) (valued ms) ≡ None
  first : (x : Node) → insert (key_text key) x (valued ms) ≡ node (key_text key) x (valued ms)

first_of_none : (key : LayoutKey) → IsFirst key no_members
unfolding valued
first_of_none key = record { missing = refl; first = λ x. refl }

before : (key other : LayoutKey) (o : Option Data) (rest : Members) → Stands key other Less → IsFirst key rest → IsFirst key (slot other o rest)
unfolding valued
before key other None rest less is = is
before key other (Some d) rest less is = record { missing = rw less is.missing; first = λ x. rw less }

past : (key other : LayoutKey) (o : Option Data) (d : Data) (rest now : Members) → Stands key other Greater
    → IsPut rest (key_text key) d now → IsPut (slot other o rest) (key_text key) d (slot other o now)
unfolding valued
past key other None d rest now more is = is
past key other (Some e) d rest now more is = (rw more is.0, rw (more, is.1))

here : (key : LayoutKey) (d : Data) (rest : Members) → IsFirst key rest → IsPut (slot key None rest) (key_text key) d (slot key (Some d) rest)
unfolding valued
here key d rest is = (is.missing, is.first (value d))

pub put_col : (key : List ℕ) (d : Data) (was now count down kind length name row : Option Data) → key ≡ key_text Col → was ≡ None → now ≡ Some d
    → IsPut (slots was count down kind length name row) key d (slots now count down kind length name row)
unfolding slots
put_col key d was now count down kind length name row is none some =
    rw (is, none, some)
    (here Col d _ (before Col Count count _ refl (before Col Down down _ refl (before Col Kind kind _ refl (before Col Length length _ refl (before Col Name name _ refl (before Col Row row _ refl (first_of_none Col))))))))

pub put_count : (key : List ℕ) (d : Data) (was now col down kind length name row : Option Data) → key ≡ key_text Count → was ≡ None → now ≡ Some d
    → IsPut (slots col was down kind length name row) key d (slots col now down kind length name row)
unfolding slots
put_count key d was now col down kind length name row is none some =
    rw (is, none, some)
    (past Count Col col d _ _ refl (here Count d _ (before Count Down down _ refl (before Count Kind kind _ refl (before Count Length length _ refl (before Count Name name _ refl (before Count Row row _ refl (first_of_none Count))))))))

pub put_down : (key : List ℕ) (d : Data) (was now col count kind length name row : Option Data) → key ≡ key_text Down → was ≡ None → now ≡ Some d
    → IsPut (slots col count was kind length name row) key d (slots col count now kind length name row)
unfolding slots
put_down key d was now col count kind length name row is none some =
    rw (is, none, some)
    (past Down Col col d _ _ refl (past Down Count count d _ _ refl (here Down d _ (before Down Kind kind _ refl (before Down Length length _ refl (before Down Name name _ refl (before Down Row row _ refl (first_of_none Down))))))))

pub put_kind : (key : List ℕ) (d : Data) (was now col count down length name row : Option Data) → key ≡ key_text Kind → was ≡ None → now ≡ Some d
    → IsPut (slots col count down was length name row) key d (slots col count down now length name row)
unfolding slots
put_kind key d was now col count down length name row is none some =
    rw (is, none, some)
    (past Kind Col col d _ _ refl (past Kind Count count d _ _ refl (past Kind Down down d _ _ refl (here Kind d _ (before Kind Length length _ refl (before Kind Name name _ refl (before Kind Row row _ refl (first_of_none Kind))))))))

pub put_length : (key : List ℕ) (d : Data) (was now col count down kind name row : Option Data) → key ≡ key_text Length → was ≡ None → now ≡ Some d
    → IsPut (slots col count down kind was name row) key d (slots col count down kind now name row)
unfolding slots
put_length key d was now col count down kind name row is none some =
    rw (is, none, some)
    (past Length Col col d _ _ refl (past Length Count count d _ _ refl (past Length Down down d _ _ refl (past Length Kind kind d _ _ refl (here Length d _ (before Length Name name _ refl (before Length Row row _ refl (first_of_none Length))))))))

pub put_name : (key : List ℕ) (d : Data) (was now col count down kind length row : Option Data) → key ≡ key_text Name → was ≡ None → now ≡ Some d
    → IsPut (slots col count down kind length was row) key d (slots col count down kind length now row)
unfolding slots
put_name key d was now col count down kind length row is none some =
    rw (is, none, some)
    (past Name Col col d _ _ refl (past Name Count count d _ _ refl (past Name Down down d _ _ refl (past Name Kind kind d _ _ refl (past Name Length length d _ _ refl (here Name d _ (before Name Row row _ refl (first_of_none Name))))))))

pub put_row : (key : List ℕ) (d : Data) (was now col count down kind length name : Option Data) → key ≡ key_text Row → was ≡ None → now ≡ Some d
    → IsPut (slots col count down kind length name was) key d (slots col count down kind length name now)
unfolding slots
put_row key d was now col count down kind length name is none some =
    rw (is, none, some)
    (past Row Col col d _ _ refl (past Row Count count d _ _ refl (past Row Down down d _ _ refl (past Row Kind kind d _ _ refl (past Row Length length d _ _ refl (past Row Name name d _ _ refl (here Row d _ (first_of_none Row))))))))

-- ---- and looked up

beside : (key other : LayoutKey) (o : Option Data) (rest : Members) → is_eq (slice_cmp nat_cmp (key_text key) (key_text other)) ≡ false
    → value_at key (slot other o rest) ≡ value_at key rest
beside key other None rest apart = refl
beside key other (Some d) rest apart = passed (slice_cmp nat_cmp (key_text key) (key_text other)) (value_at key rest) d apart

found : (key : LayoutKey) (o : Option Data) (rest : Members) → slice_cmp nat_cmp (key_text key) (key_text key) ≡ Equal → value_at key rest ≡ None
    → value_at key (slot key o rest) ≡ o
found key None rest same none = none
found key (Some d) rest same none = rw same refl

pub at_col : (col count down kind length name row : Option Data) → value_at Col (slots col count down kind length name row) ≡ col
unfolding slots
at_col col count down kind length name row =
    found Col col _ refl (beside Col Count count _ refl ∙ beside Col Down down _ refl ∙ beside Col Kind kind _ refl ∙ beside Col Length length _ refl
    ∙ beside Col Name name _ refl ∙ beside Col Row row _ refl)

pub at_count : (col count down kind length name row : Option Data) → value_at Count (slots col count down kind length name row) ≡ count
unfolding slots
at_count col count down kind length name row =
    beside Count Col col _ refl ∙ found Count count _ refl (beside Count Down down _ refl ∙ beside Count Kind kind _ refl ∙ beside Count Length length _ refl
    ∙ beside Count Name name _ refl ∙ beside Count Row row _ refl)

pub at_down : (col count down kind length name row : Option Data) → value_at Down (slots col count down kind length name row) ≡ down
unfolding slots
at_down col count down kind length name row =
    beside Down Col col _ refl ∙ beside Down Count count _ refl ∙ found Down down _ refl (beside Down Kind kind _ refl ∙ beside Down Length length _ refl
    ∙ beside Down Name name _ refl ∙ beside Down Row row _ refl)

pub at_kind : (col count down kind length name row : Option Data) → value_at Kind (slots col count down kind length name row) ≡ kind
unfolding slots
at_kind col count down kind length name row =
    beside Kind Col col _ refl ∙ beside Kind Count count _ refl ∙ beside Kind Down down _ refl ∙ found Kind kind _ refl (beside Kind Length length _ refl
    ∙ beside Kind Name name _ refl ∙ beside Kind Row row _ refl)

pub at_length : (col count down kind length name row : Option Data) → value_at Length (slots col count down kind length name row) ≡ length
unfolding slots
at_length col count down kind length name row =
    beside Length Col col _ refl ∙ beside Length Count count _ refl ∙ beside Length Down down _ refl ∙ beside Length Kind kind _ refl
    ∙ found Length length _ refl (beside Length Name name _ refl ∙ beside Length Row row _ refl)

pub at_name : (col count down kind length name row : Option Data) → value_at Name (slots col count down kind length name row) ≡ name
unfolding slots
at_name col count down kind length name row =
    beside Name Col col _ refl ∙ beside Name Count count _ refl ∙ beside Name Down down _ refl ∙ beside Name Kind kind _ refl
    ∙ beside Name Length length _ refl ∙ found Name name _ refl (beside Name Row row _ refl)

pub at_row : (col count down kind length name row : Option Data) → value_at Row (slots col count down kind length name row) ≡ row
unfolding slots
at_row col count down kind length name row =
    beside Row Col col _ refl ∙ beside Row Count count _ refl ∙ beside Row Down down _ refl ∙ beside Row Kind kind _ refl
    ∙ beside Row Length length _ refl ∙ beside Row Name name _ refl ∙ found Row row _ refl refl

-- ---- no other keys

only : (keys : List LayoutKey) (other : LayoutKey) (o : Option Data) (rest : Members) → is_key keys (key_text other) ≡ true → has_only keys rest ≡ true
    → has_only keys (slot other o rest) ≡ true
only keys other None rest one is = is
only keys other (Some d) rest one is = rw (one, is)

pub only_all : (version : Version) (col count down kind length name row : Option Data) → version ≡ Two
    → has_only (field_keys version) (slots col count down kind length name row) ≡ true
unfolding slots
only_all version col count down kind length name row is =
    rw is
    (only (field_keys Two) Col col _ refl (only (field_keys Two) Count count _ refl (only (field_keys Two) Down down _ refl (only (field_keys Two) Kind kind _ refl
    (only (field_keys Two) Length length _ refl (only (field_keys Two) Name name _ refl (only (field_keys Two) Row row _ refl refl)))))))

pub only_one : (version : Version) (col count down kind length name row : Option Data) → version ≡ One → count ≡ None → down ≡ None
    → has_only (field_keys version) (slots col count down kind length name row) ≡ true
unfolding slots
only_one version col count down kind length name row is no_count no_down =
    rw (is, no_count, no_down)
    (only (field_keys One) Col col _ refl (only (field_keys One) Kind kind _ refl
    (only (field_keys One) Length length _ refl (only (field_keys One) Name name _ refl (only (field_keys One) Row row _ refl refl)))))

-- ---- what it says

pub placed : (size : Size) (field : Members) (row col : ℕ) → HasNumber Row row field → HasNumber Col col field → 1 ≤ row → row ≤ size.rows → 1 ≤ col → col ≤ size.cols
    → IsPlaced size field ((row - 1) * size.cols + (col - 1))
placed size field row col in_row in_col low_row high_row low_col high_col =
    let same_row : row - 1 + 1 ≡ row = omega arith in
    let same_col : col - 1 + 1 ≡ col = omega arith in (
      pos row,
      pos col,
      integer_at-read Row field (pos row) in_row,
      integer_at-read Col field (pos col) in_col,
      ap (λ r. place_of size (pos r) (pos col)) (sym same_row) ∙ ap (λ c. place_of size (pos (row - 1 + 1)) (pos c)) (sym same_col)
          ∙ place_of-read size (row - 1) (col - 1) (omega arith) (omega arith),
      omega (arith, mul-add-lt (row - 1) size.cols (col - 1) size.rows (omega arith) (omega arith)),
    )

pub kind_said : (field : Members) (word : List ℕ) (named : Result EntryKind LayoutFault) (found : Option EntryKind) → HasText Kind word field → named ≡ named_kind word → found ≡ result_ok named
    → IfSome found (λ kind. kind_of field ≡ Ok kind)
unfolding kind_of
kind_said field word (Ok kind) found there is so = rw (so, there) (sym is)
kind_said field word (Err fault) found there is so = rw so tt

pub all_well : (r : Result (Unit {0}) LayoutFault) → is_err r ≡ false → r ≡ Ok tt
all_well (Ok tt) h = refl
all_well (Err fault) h = absurd cc

pub said_table : (version : Version) (size : Size) (before : List Declared) (field : Members) (name : List ℕ) (rows : Option Rows) (place long : ℕ) (kind : EntryKind) (names : List (List ℕ))
    (step : ℕ) (now : List Declared) → IsSaid version size field name rows place long kind → names_of before name rows ≡ Ok names → step ≡ step_of size rows
    → are_free size before step place (count_of rows) ≡ Ok tt → now ≡ before ++ entries_from step place long kind names → with_table version size before field ≡ Ok now
unfolding with_table
said_table version size before field name rows place long kind names step now said named same free is =
    let (row, col, in_row, in_col, at_place, inside) = said.placed in
    let clear = rw same at free in
    let all = rw same at is in
    rw (said.keys, said.named, said.counted, named, in_row, in_col, at_place, clear, said.is_long, said.is_kind) (ap Ok (sym all))

-- a field of one entry
pub said_one : (version : Version) (size : Size) (before : List Declared) (field : Members) (rows : Option Rows) (entry : Declared)
    → IsSaid version size field entry.name rows entry.place entry.length entry.kind → is_some rows ≡ false → length before < 1000 → has_name entry.name before ≡ false
    → has_place entry.place before ≡ false → with_table version size before field ≡ Ok (before ++ entry ∷ [])
unfolding with_table
said_one version size before field (Some rows) entry said alone few name place = absurd cc
said_one version size before field None entry said alone few name place =
    let (row, col, in_row, in_col, at_place, inside) = said.placed in
    let named = names_of-read before entry.name None (omega arith) (rw said.good refl) (rw name refl) in
    let free = all_free-read size before size.cols entry.place 1 (inside, place, tt) in
    rw (said.keys, said.named, said.counted, named, in_row, in_col, at_place, free, said.is_long, said.is_kind) refl

pub told_as : {A E : Type 0} (P Q : A → Type 0) → ((x : A) → P x → Q x) → (r : Result (Option A) E) → IfOk r (λ found. IfSome found P) → IfOk r (λ found. IfSome found Q)
told_as P Q more (Ok (Some x)) h = more x h
told_as P Q more (Ok None) h = tt
told_as P Q more (Err e) h = tt
