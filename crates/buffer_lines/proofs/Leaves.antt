-- The record of a screen leaves that screen, whatever a terminal of its sizes showed before.
use Rattle.std.proofs.Common.{◌≡◌, ℕ, ◌+◌, ◌<◌, Bool, true, false, List, [], length, map, Ok, refl, sym, ap, ◌∙◌, subst, arith}
use Rattle.std.specs.Prelude.{replicate, Result}
use Rattle.std.proofs.lemmas.Bool.{lt-ltb, and_parts, eqb-true}
use Rattle.ds_codec.specs.declared.cell.Cell.{Cell}
use Rattle.ds_codec.specs.declared.size.Size.{Size}
use Rattle.ds_codec.specs.Geometry.{Sizes, IsGood, cells_of}
use Rattle.ds_codec.specs.Order.{Site}
use Rattle.ds_codec.specs.Writing.{IsReadAgain}
use Rattle.ds_screen.specs.declared.refused.Refused as screens
use Rattle.ds_screen.specs.Picture.{Picture, blank}
use Rattle.ds_screen.specs.Orders.{Writing, effect_of, fault_of}
use Rattle.ds_screen.specs.Records.{erased, begun, finished, finishes, acts, shown_of}
use Rattle.buffer_lines.specs.Screen.{usual_size}
use Rattle.buffer_lines.specs.Left.{AreHeld, BytesShow, left_on, LeaveWhole}
use Rattle.buffer_lines.specs.Record.{is_usual, record_of}
use Rattle.buffer_lines.proofs.Filled.{ActsTo, acts_to, all_act}
use Rattle.buffer_lines.proofs.ItemsRead.{last_items, all_items, command_for, reads_items}

-- what the orders leave
abbrev ended : List Cell → ℕ → Writing
ended held cursor = record { cells = held; cursor = cursor; address = cursor; nulling = false }

last_acts : (held : List Cell) (cursor : ℕ) (next : Writing) → cursor < length held → next.cells ≡ held → ActsTo (last_items cursor) next (ended held cursor)
unfolding effect_of fault_of
last_acts held cursor next inside is =
    (rw (is, lt-ltb cursor (length held) inside) refl, (refl, ap (λ (z : List Cell). ended z cursor) (sym is)))

orders_act : (held : List Cell) (cursor n : ℕ) (orders : List Site) → length held ≡ n → cursor < n → map (λ site. site.order) orders ≡ all_items held cursor
    → acts orders (begun 0xC2 (replicate n blank) 0) ≡ Ok (ended held cursor)
orders_act held cursor n orders len inside are =
    let w : Writing = begun 0xC2 (replicate n blank) 0 in
    let none : List ℕ = [] in
    let blanks : replicate n blank ≡ replicate (length none + length held) blank = ap (λ z. replicate z blank) (omega (arith, len)) in
    let all : ActsTo (all_items held cursor) w (ended held cursor) =
    all_act held [] (last_items cursor) [] w (ended held cursor) (blanks, λ some. refl) (λ next is. last_acts held cursor next (omega (arith, len, inside)) is) in
    acts_to orders w (ended held cursor) (subst (λ z. ActsTo z w (ended held cursor)) (sym are) all)

usual_is : (size : Size) → is_usual size ≡ true → usual_size ≡ size
usual_is size is =
    let both = and_parts _ _ is in
    let rows : size.rows ≡ 24 = eqb-true _ _ both.0 in
    let cols : size.cols ≡ 80 = eqb-true _ _ both.1 in
    sym (ap (λ (z : ℕ). let s : Size = record { rows = z; cols = size.cols } in s) rows ∙ ap (λ (z : ℕ). let s : Size = record { rows = 24; cols = z } in s) cols)

-- the size that the command sets
abbrev size_for : Bool → Sizes → Size
size_for true sizes = sizes.default
size_for false sizes = sizes.alternate

sets : (usual : Bool) (sizes : Sizes) → is_usual sizes.alternate ≡ usual → sizes.default ≡ usual_size → size_for usual sizes ≡ sizes.alternate
sets true sizes is default = default ∙ usual_is sizes.alternate is
sets false sizes is default = refl

command_shows : (usual : Bool) (before : Picture) (orders : List Site) (end : Writing)
    → acts orders (begun 0xC2 (replicate (cells_of (size_for usual before.geometry)) blank) 0) ≡ Ok end
    → shown_of before (command_for usual) orders ≡ Ok (finished 0xC2 (erased (size_for usual before.geometry) before) end)
unfolding shown_of
command_shows true before orders end is = ap (finishes 0xC2 (erased before.geometry.default before)) is
command_shows false before orders end is = ap (finishes 0xC2 (erased before.geometry.alternate before)) is

leaves_at : (usual : Bool) (before : Picture) (held : List Cell) (cursor : ℕ) → is_usual before.geometry.alternate ≡ usual → IsGood before.geometry.mode before.geometry.alternate
    → before.geometry.default ≡ usual_size → length held ≡ cells_of before.geometry.alternate → AreHeld held → cursor < cells_of before.geometry.alternate
    → BytesShow before (record_of before.geometry held cursor) (left_on before held cursor)
leaves_at usual before held cursor is good default len real inside =
    let sizes : Sizes = before.geometry in
    let again : IsReadAgain sizes.mode (command_for usual) (all_items held cursor) (record_of sizes held cursor) =
    reads_items sizes held cursor usual good.few_cells real inside is in
    let size : size_for usual sizes ≡ sizes.alternate = sets usual sizes is default in
    let done : acts again.0.orders (begun 0xC2 (replicate (cells_of (size_for usual sizes)) blank) 0) ≡ Ok (ended held cursor) =
    subst (λ (z : Size). acts again.0.orders (begun 0xC2 (replicate (cells_of z) blank) 0) ≡ Ok (ended held cursor)) (sym size)
    (orders_act held cursor (cells_of sizes.alternate) again.0.orders len inside again.4) in
    let shown : shown_of before (command_for usual) again.0.orders ≡ Ok (finished 0xC2 (erased (size_for usual sizes) before) (ended held cursor)) =
    command_shows usual before again.0.orders (ended held cursor) done in (
      again.0,
      again.1,
      ap (λ z. shown_of before z again.0.orders) again.3 ∙ shown
          ∙ ap (λ (z : Size). let r : Result Picture screens.Refused = Ok (finished 0xC2 (erased z before) (ended held cursor)) in r) size,
    )

pub leaves : (sizes : Sizes) (held : List Cell) (cursor : ℕ) → IsGood sizes.mode sizes.alternate → AreHeld held → cursor < cells_of sizes.alternate
    → LeaveWhole sizes held cursor (record_of sizes held cursor)
leaves sizes held cursor good real inside default len before is =
    subst (λ (z : Sizes). BytesShow before (record_of z held cursor) (left_on before held cursor)) is
    (leaves_at (is_usual before.geometry.alternate) before held cursor refl
    (subst (λ (z : Sizes). IsGood z.mode z.alternate) (sym is) good) (subst (λ (z : Sizes). z.default ≡ usual_size) (sym is) default)
    (subst (λ (z : Sizes). length held ≡ cells_of z.alternate) (sym is) len) real (subst (λ (z : Sizes). cursor < cells_of z.alternate) (sym is) inside))
