-- The record of a state draws its picture on a new terminal.
use Rattle.std.proofs.Common.{◌≡◌, ℕ, ◌+◌, ◌<◌, ◌≤◌, ◌⊎◌, inl, inr, Bool, true, false, cond, ltb, ◌&&◌, List, [], ◌∷◌, ◌++◌, length, map, Ok, Err, refl, sym, ap, ◌∙◌, subst, arith}
use Rattle.std.specs.Prelude.{replicate, is_none, Result}
use Rattle.std.proofs.lemmas.Bool.{lt-ltb, and_parts, eqb-true, eq-eqb, false≢true}
use Rattle.ds_codec.specs.declared.cell.Cell.{Cell}
use Rattle.ds_codec.specs.declared.size.Mode.{Mode}
use Rattle.ds_codec.specs.declared.size.Size.{Size}
use Rattle.ds_codec.specs.Command.{wcc_of}
use Rattle.ds_codec.specs.Geometry.{Sizes, IsGood, cells_of}
use Rattle.ds_codec.specs.declared.command.Command.{Command}
use Rattle.ds_codec.specs.declared.command.Command.TheVariants.{EraseWrite, EraseWriteAlternate}
use Rattle.ds_codec.specs.Order.{Item, set_buffer_address, insert_cursor, Site}
use Rattle.ds_codec.specs.Reading.{read_of}
use Rattle.ds_codec.specs.Record.{Message}
use Rattle.ds_codec.specs.Writing.{written_record, IsReadAgain}
use Rattle.ds_codec.proofs.Written.{is_read_again}
use Rattle.ds_screen.specs.declared.refused.Refused as shown
use Rattle.ds_screen.specs.Picture.{Picture, IsSound, blank}
use Rattle.ds_screen.specs.Orders.{Writing, effect_of, fault_of}
use Rattle.ds_screen.specs.Records.{new_picture, erased, begun, finished, finishes, acts, shown_of}
use Rattle.ds_state.proofs.Filled.{ActsTo, acts_to, all_act}
use Rattle.ds_state.proofs.Items.{WellFrom, items_after, items_bytes, items_well, no_flaw, are_valid}
use Rattle.ds_codec.specs.Same.{same_size}
use Rattle.ds_codec.proofs.Same.{size_is, size_self}
use Rattle.ds_state.specs.State.{IsWhole, cells_bytes, cursor_bytes, record_of, drawn}

-- ---- it is read as its orders

abbrev last_items : ℕ → List Item
last_items cursor = set_buffer_address cursor ∷ insert_cursor ∷ []

abbrev all_items : List Cell → ℕ → List Item
all_items held cursor = items_after [] held (last_items cursor)

-- Erase/Write, or Erase/Write Alternate
abbrev command_for : Bool → Command
command_for true = EraseWrite 0xC2
command_for false = EraseWriteAlternate 0xC2

last_well : (n cursor : ℕ) → cursor < n → (after : Bool) → WellFrom n after (last_items cursor)
last_well n cursor inside after = ((λ k. rw (lt-ltb cursor n inside) refl), tt, ((λ k. refl), tt, tt))

written_is : (v : Picture) (usual : Bool) → same_size v.size v.geometry.default ≡ usual
    → record_of v ≡ written_record v.geometry.mode (cells_of v.size) (command_for usual) (all_items v.cells v.cursor)
unfolding record_of
written_is v true is =
    ap (λ z. cond z 0xF5 0x7E ∷ 0xC2 ∷ (cells_bytes v.cells ++ cursor_bytes v)) is
    ∙ ap (λ z. 0xF5 ∷ 0xC2 ∷ z) (sym (items_bytes v.geometry.mode (cells_of v.size) [] v.cells (last_items v.cursor)))
written_is v false is =
    ap (λ z. cond z 0xF5 0x7E ∷ 0xC2 ∷ (cells_bytes v.cells ++ cursor_bytes v)) is
    ∙ ap (λ z. 0x7E ∷ 0xC2 ∷ z) (sym (items_bytes v.geometry.mode (cells_of v.size) [] v.cells (last_items v.cursor)))

allowed : (usual : Bool) (items : List Item) → (is_none (wcc_of (command_for usual)) && ltb 0 (length items)) ≡ false
allowed true items = refl
allowed false items = refl

-- the size in use is one that a terminal can have
good_of : (v : Picture) → IsSound v → (v.size ≡ v.geometry.default) ⊎ (v.size ≡ v.geometry.alternate) → IsGood v.geometry.mode v.size
good_of v sound (inl is) = subst (λ z. IsGood v.geometry.mode z) (sym is) sound.default_good
good_of v sound (inr is) = subst (λ z. IsGood v.geometry.mode z) (sym is) sound.alternate_good

pub good_size : (v : Picture) → IsSound v → IsGood v.geometry.mode v.size
good_size v sound = good_of v sound sound.one_of_two

reads : (v : Picture) (usual : Bool) → IsWhole v → same_size v.size v.geometry.default ≡ usual
    → IsReadAgain v.geometry.mode (command_for usual) (all_items v.cells v.cursor) (record_of v)
reads v usual whole is =
    let n : ℕ = cells_of v.size in
    let items : List Item = all_items v.cells v.cursor in
    let well : WellFrom n false items = items_well n [] v.cells (last_items v.cursor) whole.held refl (last_well n v.cursor whole.sound.cursor_inside) in
    subst (λ z. IsReadAgain v.geometry.mode (command_for usual) items z) (sym (written_is v usual is))
    (is_read_again v.geometry.mode n (command_for usual) items (good_size v whole.sound).few_cells (allowed usual items, no_flaw n items well) (are_valid n false items well))

-- ---- its orders draw the cells

-- what the orders leave
abbrev ended : List Cell → ℕ → Writing
ended held cursor = record { cells = held; cursor = cursor; address = cursor; nulling = false }

last_acts : (held : List Cell) (cursor : ℕ) (next : Writing) → cursor < length held → next.cells ≡ held → ActsTo (last_items cursor) next (ended held cursor)
unfolding effect_of fault_of
last_acts held cursor next inside is =
    (rw (is, lt-ltb cursor (length held) inside) refl, (refl, ap (λ (z : List Cell). ended z cursor) (sym is)))

orders_act : (held : List Cell) (cursor n : ℕ) (orders : List Site) → length held ≡ n → cursor < n → map (λ site. site.order) orders ≡ all_items held cursor
    → acts orders (begun 0xC2 (replicate n blank) 0) ≡ Ok (ended held cursor)
orders_act held cursor n orders len inside are =
    let w : Writing = begun 0xC2 (replicate n blank) 0 in
    let none : List ℕ = [] in
    let blanks : replicate n blank ≡ replicate (length none + length held) blank = ap (λ z. replicate z blank) (omega (arith, len)) in
    let all : ActsTo (all_items held cursor) w (ended held cursor) =
    all_act held [] (last_items cursor) [] w (ended held cursor) (blanks, λ some. refl) (λ next is. last_acts held cursor next (omega (arith, len, inside)) is) in
    acts_to orders w (ended held cursor) (subst (λ z. ActsTo z w (ended held cursor)) (sym are) all)

-- ---- on the size in use

-- the size that the command sets
abbrev size_for : Bool → Sizes → Size
size_for true sizes = sizes.default
size_for false sizes = sizes.alternate

sets : (usual : Bool) (v : Picture) → same_size v.size v.geometry.default ≡ usual → (v.size ≡ v.geometry.default) ⊎ (v.size ≡ v.geometry.alternate)
    → size_for usual v.geometry ≡ v.size
sets true v is which = sym (size_is v.size v.geometry.default is)
sets false v is (inr alternate) = sym alternate
sets false v is (inl default) = absurd (false≢true (sym is ∙ ap (λ z. same_size v.size z) (sym default) ∙ size_self v.size))

command_shows : (usual : Bool) (before : Picture) (orders : List Site) (end : Writing)
    → acts orders (begun 0xC2 (replicate (cells_of (size_for usual before.geometry)) blank) 0) ≡ Ok end
    → shown_of before (command_for usual) orders ≡ Ok (finished 0xC2 (erased (size_for usual before.geometry) before) end)
unfolding shown_of
command_shows true before orders end is = ap (finishes 0xC2 (erased before.geometry.default before)) is
command_shows false before orders end is = ap (finishes 0xC2 (erased before.geometry.alternate before)) is

-- the bytes are a record that leads from a new terminal to the picture
abbrev pub Draws : Picture → List ℕ → Type 0
Draws v bytes =
    (message : Message) × (read_of v.geometry.mode bytes ≡ Ok message)
    × (shown_of (new_picture v.geometry) message.command message.orders ≡ Ok (drawn v))

draws_by : (usual : Bool) (v : Picture) → IsWhole v → same_size v.size v.geometry.default ≡ usual → Draws v (record_of v)
draws_by usual v whole is =
    let again : IsReadAgain v.geometry.mode (command_for usual) (all_items v.cells v.cursor) (record_of v) = reads v usual whole is in
    let before : Picture = new_picture v.geometry in
    let size : size_for usual v.geometry ≡ v.size = sets usual v is whole.sound.one_of_two in
    let done : acts again.0.orders (begun 0xC2 (replicate (cells_of (size_for usual v.geometry)) blank) 0) ≡ Ok (ended v.cells v.cursor) =
    subst (λ (z : Size). acts again.0.orders (begun 0xC2 (replicate (cells_of z) blank) 0) ≡ Ok (ended v.cells v.cursor)) (sym size)
    (orders_act v.cells v.cursor (cells_of v.size) again.0.orders whole.sound.whole whole.sound.cursor_inside again.4) in
    let shown : shown_of before (command_for usual) again.0.orders ≡ Ok (finished 0xC2 (erased (size_for usual v.geometry) before) (ended v.cells v.cursor)) =
    command_shows usual before again.0.orders (ended v.cells v.cursor) done in (
      again.0,
      again.1,
      ap (λ z. shown_of before z again.0.orders) again.3 ∙ shown
          ∙ ap (λ (z : Size). Ok (finished 0xC2 (erased z before) (ended v.cells v.cursor))) size,
    )

pub draws : (v : Picture) → IsWhole v → Draws v (record_of v)
draws v whole = draws_by (same_size v.size v.geometry.default) v whole refl

-- ---- for the code

ok_is : {A E : Type 0} (x y : A) (r : Result A E) → r ≡ Ok x → r ≡ Ok y → x ≡ y
ok_is x y r one other = cc

-- the record of a state is read
pub read_as : (v : Picture) (whole : IsWhole v) (geometry : Sizes) (mode : Mode) (bytes : List ℕ) → mode ≡ geometry.mode → geometry ≡ v.geometry → bytes ≡ record_of v
    → read_of mode bytes ≡ Ok (draws v whole).0
read_as v whole geometry mode bytes of same is =
    ap (λ m. read_of m bytes) (of ∙ ap (λ (z : Sizes). z.mode) same) ∙ ap (read_of v.geometry.mode) is ∙ (draws v whole).1

-- and applied
pub shown_as : (v : Picture) (whole : IsWhole v) (geometry : Sizes) (mode : Mode) (bytes : List ℕ) (screen : Picture) (m : Message) → mode ≡ geometry.mode → geometry ≡ v.geometry
    → bytes ≡ record_of v → screen ≡ new_picture geometry → read_of mode bytes ≡ Ok m → shown_of screen m.command m.orders ≡ Ok (drawn v)
shown_as v whole geometry mode bytes screen m of same is new read =
    let d = draws v whole in
    let message : m ≡ d.0 = ok_is m d.0 (read_of mode bytes) read (read_as v whole geometry mode bytes of same is) in
    ap (λ (z : Picture). shown_of z m.command m.orders) (new ∙ ap new_picture same)
    ∙ ap (λ (k : Message). shown_of (new_picture v.geometry) k.command k.orders) message ∙ d.2

pub drawn_is : (v : Picture) (whole : IsWhole v) (geometry : Sizes) (mode : Mode) (bytes : List ℕ) (screen next : Picture) (m : Message) → mode ≡ geometry.mode → geometry ≡ v.geometry
    → bytes ≡ record_of v → screen ≡ new_picture geometry → read_of mode bytes ≡ Ok m → shown_of screen m.command m.orders ≡ Ok next → next ≡ drawn v
drawn_is v whole geometry mode bytes screen next m of same is new read shows =
    ok_is next (drawn v) (shown_of screen m.command m.orders) shows (shown_as v whole geometry mode bytes screen m of same is new read)
