-- The record of a screen is read as its orders.
use Rattle.std.proofs.Common.{◌≡◌, ℕ, ◌<◌, ◌≤◌, Bool, true, false, cond, ltb, List, [], ◌∷◌, ◌++◌, refl, sym, ap, ◌∙◌, subst, length, ◌&&◌}
use Rattle.std.specs.Prelude.{is_none}
use Rattle.std.proofs.lemmas.Bool.{lt-ltb}
use Rattle.ds_codec.specs.Command.{wcc_of}
use Rattle.std.specs.List.{flat_map}
use Rattle.ds_codec.specs.declared.cell.Cell.{Cell}
use Rattle.ds_codec.specs.declared.command.Command.{Command}
use Rattle.ds_codec.specs.declared.command.Command.TheVariants.{EraseWrite, EraseWriteAlternate}
use Rattle.ds_codec.specs.Geometry.{Sizes, cells_of, limit_of}
use Rattle.ds_codec.specs.Order.{Item, set_buffer_address, insert_cursor}
use Rattle.ds_codec.specs.Writing.{written_record, IsReadAgain}
use Rattle.ds_codec.proofs.Written.{is_read_again}
use Rattle.buffer_lines.specs.Left.{AreHeld}
use Rattle.buffer_lines.specs.Record.{is_usual, cell_bytes, cursor_bytes, record_of}
use Rattle.buffer_lines.proofs.Items.{items_after, WellFrom, items_bytes, items_well, no_flaw, are_valid}

abbrev pub last_items : ℕ → List Item
last_items cursor = set_buffer_address cursor ∷ insert_cursor ∷ []

abbrev pub all_items : List Cell → ℕ → List Item
all_items held cursor = items_after [] held (last_items cursor)

-- Erase/Write, or Erase/Write Alternate
abbrev pub command_for : Bool → Command
command_for true = EraseWrite 0xC2
command_for false = EraseWriteAlternate 0xC2

last_well : (n cursor : ℕ) → cursor < n → (after : Bool) → WellFrom n after (last_items cursor)
last_well n cursor inside after = ((λ k. rw (lt-ltb cursor n inside) refl), tt, ((λ k. refl), tt, tt))

written_is : (sizes : Sizes) (held : List Cell) (cursor : ℕ) (usual : Bool) → is_usual sizes.alternate ≡ usual
    → record_of sizes held cursor ≡ written_record sizes.mode (cells_of sizes.alternate) (command_for usual) (all_items held cursor)
written_is sizes held cursor true is =
    ap (λ z. cond z 0xF5 0x7E ∷ 0xC2 ∷ (flat_map cell_bytes held ++ cursor_bytes sizes cursor)) is
    ∙ ap (λ z. 0xF5 ∷ 0xC2 ∷ z) (sym (items_bytes sizes.mode (cells_of sizes.alternate) [] held (last_items cursor)))
written_is sizes held cursor false is =
    ap (λ z. cond z 0xF5 0x7E ∷ 0xC2 ∷ (flat_map cell_bytes held ++ cursor_bytes sizes cursor)) is
    ∙ ap (λ z. 0x7E ∷ 0xC2 ∷ z) (sym (items_bytes sizes.mode (cells_of sizes.alternate) [] held (last_items cursor)))

allowed : (usual : Bool) (items : List Item) → (is_none (wcc_of (command_for usual)) && ltb 0 (length items)) ≡ false
allowed true items = refl
allowed false items = refl

pub reads_items : (sizes : Sizes) (held : List Cell) (cursor : ℕ) (usual : Bool) → cells_of sizes.alternate ≤ limit_of sizes.mode → AreHeld held
    → cursor < cells_of sizes.alternate → is_usual sizes.alternate ≡ usual
    → IsReadAgain sizes.mode (command_for usual) (all_items held cursor) (record_of sizes held cursor)
reads_items sizes held cursor usual few good inside is =
    let n : ℕ = cells_of sizes.alternate in
    let items : List Item = all_items held cursor in
    let well : WellFrom n false items = items_well n [] held (last_items cursor) good refl (last_well n cursor inside) in
    subst (λ z. IsReadAgain sizes.mode (command_for usual) items z) (sym (written_is sizes held cursor usual is))
    (is_read_again sizes.mode n (command_for usual) items few (allowed usual items, no_flaw n items well) (are_valid n false items well))
