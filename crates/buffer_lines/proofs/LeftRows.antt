-- What a line does to rows that are laid.
use Rattle.std.proofs.Common.{◌≡◌, ℕ, ◌+◌, ◌*◌, ◌<◌, Bool, true, false, cond, eqb, ltb, ◌&&◌, ◌||◌, List, ◌++◌, length, Option, Some, None, refl, sym, ap, ◌∙◌, subst, arith, inl, inr, length-append}
use Rattle.std.proofs.lemmas.Bool.{and_parts, eqb-true, ltb-true, leb-true}
use Rattle.std.proofs.lemmas.Option.{cond_some}
use Rattle.ds_codec.specs.declared.cell.Cell.{Cell}
use Rattle.ds_codec.specs.declared.size.Size.{Size}
use Rattle.ds_codec.specs.declared.size.Mode.{Mode}
use Rattle.ds_codec.specs.declared.size.Mode.TheVariants.{Bits14}
use Rattle.ds_codec.specs.Geometry.{Sizes, IsGood, is_good, cells_of}
use Rattle.ds_codec.proofs.Codes.{either_true}
use Rattle.buffer_lines.specs.declared.status.Status.{Status}
use Rattle.buffer_lines.specs.Left.{AreHeld, AreLaid, IsHeldLine, LeaveScreen, LeavesRows}
use Rattle.buffer_lines.specs.Line.{Line, silent, row, status, refused}
use Rattle.buffer_lines.specs.Record.{record_of}
use Rattle.buffer_lines.specs.Screen.{Opened, goes, stops, at_first, end_course, ended_by, ended_on, fits, geometry_told, has_rows, is_blank, position_of, step_by, taken_at, usual_size}
use Rattle.buffer_lines.proofs.Items.{held_both}
use Rattle.buffer_lines.proofs.Leaves.{leaves}

-- ---- a row

one_more : (rows count : ℕ) → (rows + 1) * count ≡ rows * count + count
one_more rows count = omega arith

laid_length : (rows cols count before : ℕ) → before ≡ rows * cols → (eqb rows 0 || eqb count cols) ≡ true → before + count ≡ (rows + 1) * count
laid_length rows cols count before is fit =
    elim (either_true _ _ fit) [
      | inl none ↦
          let no_rows : rows ≡ 0 = eqb-true _ _ none in
          let one_row : 0 * cols + count ≡ (0 + 1) * count = omega arith in
          ap (λ z. z + count) (is ∙ ap (λ z. z * cols) no_rows) ∙ one_row ∙ sym (ap (λ z. (z + 1) * count) no_rows)
      | inr same ↦ let alike : count ≡ cols = eqb-true _ _ same in ap (λ z. z + count) (is ∙ ap (λ z. rows * z) (sym alike)) ∙ sym (one_more rows count)
    ]

row_left : (opened : Opened) (cells : List Cell) (test : Bool) → fits opened.rows opened.cols (length cells) ≡ test → AreLaid opened → AreHeld cells
    → LeavesRows opened (row cells) (cond test (goes (record { cells = opened.cells ++ cells; rows = opened.rows + 1; cols = length cells })) stops)
row_left opened cells true is laid held = (
  length-append opened.cells cells ∙ laid_length opened.rows opened.cols (length cells) (length opened.cells) laid.0 (and_parts _ _ is).1,
  held_both opened.cells cells laid.1 held,
)
row_left opened cells false is laid held = tt

-- ---- the end

good_is : (mode : Mode) (size : Size) → is_good mode size ≡ true → IsGood mode size
good_is mode size is =
    let first = and_parts _ _ is in
    let rows = and_parts _ _ first.0 in
    let others = and_parts _ _ first.1 in
    let cols = and_parts _ _ others.0 in
    record {
      some_rows = leb-true _ _ rows.0;
      few_rows = leb-true _ _ rows.1;
      two_cols = leb-true _ _ cols.0;
      few_cols = leb-true _ _ cols.1;
      few_cells = leb-true _ _ others.1;
    }

abbrev sizes_told : Status → Sizes
sizes_told told = record { default = usual_size; alternate = record { rows = told.rows; cols = told.cols }; mode = Bits14 }

geometry_is : (told : Status) (sizes : Sizes) → geometry_told told ≡ Some sizes → (sizes ≡ sizes_told told) × IsGood Bits14 (record { rows = told.rows; cols = told.cols })
geometry_is told sizes is =
    let both = cond_some (is_good Bits14 usual_size && is_good Bits14 (record { rows = told.rows; cols = told.cols })) (sizes_told told) sizes is in
    (sym both.1, good_is Bits14 (record { rows = told.rows; cols = told.cols }) (and_parts (is_good Bits14 usual_size) (is_good Bits14 (record { rows = told.rows; cols = told.cols })) both.0).1)

position_inside : (size : Size) (line col cursor : ℕ) → position_of size line col ≡ Some cursor → cursor < cells_of size
position_inside size line col cursor is =
    let both = cond_some (ltb col size.cols && ltb (line * size.cols + col) (size.rows * size.cols)) (line * size.cols + col) cursor is in
    subst (λ z. z < cells_of size) both.1
    (ltb-true (line * size.cols + col) (cells_of size) (and_parts (ltb col size.cols) (ltb (line * size.cols + col) (size.rows * size.cols)) both.0).1)

module _ (opened : Opened) (told : Status) (laid : AreLaid opened) (rows : has_rows opened.rows opened.cols told ≡ true) where
  same_cells : (sizes : Sizes) → sizes ≡ sizes_told told → length opened.cells ≡ cells_of sizes.alternate
  same_cells sizes is =
      let both = and_parts _ _ rows in
      let alike : opened.rows ≡ told.rows = eqb-true _ _ both.0 in
      let alike_too : opened.cols ≡ told.cols = eqb-true _ _ both.1 in
      laid.0 ∙ ap (λ z. z * opened.cols) alike ∙ ap (λ z. told.rows * z) alike_too ∙ sym (ap (λ (z : Sizes). cells_of z.alternate) is)

  leaves_screen : (sizes : Sizes) (cursor : ℕ) → geometry_told told ≡ Some sizes → position_of sizes.alternate told.row told.col ≡ Some cursor
      → LeaveScreen sizes opened.cells cursor (record_of sizes opened.cells cursor)
  leaves_screen sizes cursor is at =
      let known = geometry_is told sizes is in
      leaves sizes opened.cells cursor (subst (λ (z : Sizes). IsGood z.mode z.alternate) (sym known.0) known.1) laid.1 (position_inside sizes.alternate told.row told.col cursor at)
      (ap (λ (z : Sizes). z.default) known.0) (same_cells sizes known.0)

  position_left : (sizes : Sizes) (position : Option ℕ) → geometry_told told ≡ Some sizes → position_of sizes.alternate told.row told.col ≡ position
      → LeavesRows opened (status told) (end_course (taken_at sizes opened.cells position))
  position_left sizes None is at = tt
  position_left sizes (Some cursor) is at = (told, sizes, cursor, refl, is, at, refl, leaves_screen sizes cursor is at, (refl, tt))

  sizes_left : (sizes : Option Sizes) → geometry_told told ≡ sizes → LeavesRows opened (status told) (end_course (ended_on sizes opened.cells told))
  sizes_left None is = tt
  sizes_left (Some sizes) is = position_left sizes (position_of sizes.alternate told.row told.col) is refl

rows_left : (opened : Opened) (told : Status) (test : Bool) → AreLaid opened → has_rows opened.rows opened.cols told ≡ test
    → LeavesRows opened (status told) (end_course (cond test (ended_on (geometry_told told) opened.cells told) None))
rows_left opened told true laid rows = sizes_left opened told laid rows (geometry_told told) refl
rows_left opened told false laid rows = tt

end_left : (opened : Opened) (told : Status) (blank : Bool) → AreLaid opened
    → LeavesRows opened (status told) (cond blank (goes opened) (end_course (ended_by opened.cells opened.rows opened.cols told)))
end_left opened told true laid = laid
end_left opened told false laid = rows_left opened told (has_rows opened.rows opened.cols told) laid refl

-- ---- any line

pub step_left : (opened : Opened) (line : Line) → AreLaid opened → IsHeldLine line → LeavesRows opened line (step_by opened line)
step_left opened silent laid held = laid
step_left opened (row cells) laid held = row_left opened cells (fits opened.rows opened.cols (length cells)) refl laid held
step_left opened (status told) laid held = end_left opened told (is_blank opened) laid
step_left opened refused laid held = tt

pub first_laid : AreLaid at_first
first_laid = (refl, tt)
