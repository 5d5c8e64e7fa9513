-- The characters of a picture exist, whatever an order leaves of it.
use Rattle.std.proofs.Common.{◌≡◌, ℕ, zero, suc, ◌≤◌, ◌&&◌, Bool, true, false, cond, eqb, ltb, leb, List, [], ◌∷◌, length, replicate, get_or, set, Option, Some, None, refl, sym, ◌∙◌, ap, subst, inl, inr}
use Rattle.std.specs.Option.{unwrap_or}
use Rattle.std.specs.List.{list_all}
use Rattle.std.proofs.lemmas.Bool.{cond_both, cases_lt, and_parts}
use Rattle.std.proofs.lemmas.List.{get_or_past}
use Rattle.ds_codec.specs.declared.cell.Cell.{Cell}
use Rattle.ds_codec.specs.declared.cell.Cell.TheVariants.{Field, Char}
use Rattle.ds_codec.specs.Character.{Glyph, glyph, is_text, is_glyph}
use Rattle.ds_codec.specs.Order.{Item, text, start_field, start_field_extended, set_buffer_address, set_attribute, modify_field, insert_cursor, program_tab, repeat_to_address, erase_unprotected_to_address, graphic_escape, last_attribute}
use Rattle.ds_screen.specs.Picture.{blank, cell_at, is_real, ruled}
use Rattle.ds_screen.specs.Fields.{is_attribute, bits_of, is_open}
use Rattle.ds_screen.specs.Orders.{Writing, byte_cell, text_cell, single_cell, is_reached, repeated_cell, erased_cell, nulled_cell, first_from, tabbed, effect_of}
use Rattle.ds_codec.specs.WriteControl.{resets_modified_tags}
use Rattle.ds_screen.specs.Records.{unmodified, unprotected_unmodified, begun, cleared_cell}
use Rattle.ds_screen.specs.State.{HasCharacters}
use Rattle.ds_screen.proofs.RuledLaws.{length-ruled, cell_at-ruled}

-- ---- characters
-- every cell is one that can be
abbrev pub AreReal : List Cell → Type 0
AreReal cells = (p : ℕ) → is_real (cell_at cells p) ≡ true

pub blank_real : is_real blank ≡ true
unfolding is_text
blank_real = refl

zero_text : is_text 0 ≡ true
unfolding is_text
zero_text = refl

pub each_real : (cells : List Cell) → list_all is_real cells ≡ true → AreReal cells
each_real [] all p = blank_real
each_real (cell ∷ cells) all zero = (and_parts (is_real cell) (list_all is_real cells) all).0
each_real (cell ∷ cells) all (suc p) = each_real cells (and_parts (is_real cell) (list_all is_real cells) all).1 p

both : (a b : Bool) → a ≡ true → b ≡ true → (a && b) ≡ true
both true b first second = second
both false b first second = absurd cc

pub all_real : (cells : List Cell) → AreReal cells → list_all is_real cells ≡ true
all_real [] each = refl
all_real (cell ∷ cells) each = both (is_real cell) (list_all is_real cells) (each 0) (all_real cells (λ p. each (suc p)))

pub replicate_real : (n : ℕ) → AreReal (replicate n blank)
replicate_real zero p = blank_real
replicate_real (suc n) zero = blank_real
replicate_real (suc n) (suc p) = replicate_real n p

pub ruled_real : (n : ℕ) (rule : ℕ → Cell) → ((p : ℕ) → is_real (rule p) ≡ true) → AreReal (ruled n rule)
ruled_real n rule each p =
    elim (cases_lt p n) [
      | inl lt ↦ ap is_real (cell_at-ruled n rule p lt) ∙ each p
      | inr past ↦ ap is_real (get_or_past (ruled n rule) p blank (subst (λ m. m ≤ p) (sym (length-ruled n rule)) past)) ∙ blank_real
    ]

-- one of two cells
pub either_real : (t : Bool) (x y : Cell) → is_real x ≡ true → is_real y ≡ true → is_real (cond t x y) ≡ true
either_real true x y first second = first
either_real false x y first second = second

unmodified_real : (cell : Cell) → is_real cell ≡ true → is_real (unmodified cell) ≡ true
unmodified_real (Field bits) real = refl
unmodified_real (Char character) real = real

unprotected_real : (cell : Cell) → is_real cell ≡ true → is_real (unprotected_unmodified cell) ≡ true
unprotected_real (Field bits) real = refl
unprotected_real (Char character) real = real

-- ---- what each order leaves
run_real : (run : List ℕ) (i : ℕ) → list_all is_text run ≡ true → is_text (get_or run i 0) ≡ true
run_real [] i all = zero_text
run_real (byte ∷ run) zero all = (and_parts (is_text byte) (list_all is_text run) all).0
run_real (byte ∷ run) (suc i) all = run_real run i (and_parts (is_text byte) (list_all is_text run) all).1

byte_real : (cells : List Cell) (run : List ℕ) (p : ℕ) (o : Option ℕ) → list_all is_text run ≡ true → AreReal cells → is_real (byte_cell cells run p o) ≡ true
byte_real cells run p None all each = each p
byte_real cells run p (Some i) all each = run_real run i all

text_real : (cells : List Cell) (b : ℕ) (run : List ℕ) → list_all is_text run ≡ true → AreReal cells → (p : ℕ) → is_real (text_cell cells b run p) ≡ true
unfolding text_cell
text_real cells b run all each p = byte_real cells run p _ all each

single_real : (cells : List Cell) (b : ℕ) (cell : Cell) → is_real cell ≡ true → AreReal cells → (p : ℕ) → is_real (single_cell cells b cell p) ≡ true
unfolding single_cell
single_real cells b cell real each p = either_real (eqb p b) cell (cell_at cells p) real (each p)

repeated_real : (cells : List Cell) (b stop : ℕ) (character : Glyph) → is_glyph character ≡ true → AreReal cells → (p : ℕ) → is_real (repeated_cell cells b stop character p) ≡ true
unfolding repeated_cell
repeated_real cells b stop character real each p = either_real (is_reached (length cells) b stop p) (Char character) (cell_at cells p) real (each p)

erased_real : (cells : List Cell) (b stop : ℕ) → AreReal cells → (p : ℕ) → is_real (erased_cell cells b stop p) ≡ true
unfolding erased_cell
erased_real cells b stop each p = either_real (is_reached (length cells) b stop p && is_open cells p) blank (cell_at cells p) blank_real (each p)

nulled_real : (cells : List Cell) (b stop : ℕ) → AreReal cells → (p : ℕ) → is_real (nulled_cell cells b stop p) ≡ true
unfolding nulled_cell
nulled_real cells b stop each p = either_real (leb b p && ltb p stop) blank (cell_at cells p) blank_real (each p)

tabbed_real : (w : Writing) (nulling : Bool) (attribute : Option ℕ) → AreReal w.cells → AreReal (tabbed w nulling attribute).cells
tabbed_real w false attribute each = each
tabbed_real w true (Some e) each = ruled_real (length w.cells) (nulled_cell w.cells w.address e) (nulled_real w.cells w.address e each)
tabbed_real w true None each = ruled_real (length w.cells) (nulled_cell w.cells w.address (length w.cells)) (nulled_real w.cells w.address (length w.cells) each)

stored_real : (w : Writing) (cell : Cell) → is_real cell ≡ true → AreReal w.cells → AreReal (ruled (length w.cells) (single_cell w.cells w.address cell))
stored_real w cell real each = ruled_real (length w.cells) (single_cell w.cells w.address cell) (single_real w.cells w.address cell real each)

pub effect_real : (order : Item) (w : Writing) → HasCharacters order → AreReal w.cells → AreReal (effect_of order w).cells
unfolding effect_of
effect_real (text run) w real each = ruled_real (length w.cells) (text_cell w.cells w.address run) (text_real w.cells w.address run real each)
effect_real (start_field attribute) w real each = stored_real w (Field attribute) refl each
effect_real (start_field_extended pairs) w real each = stored_real w (Field (unwrap_or (last_attribute pairs) 0)) refl each
effect_real (set_buffer_address address) w real each = each
effect_real (set_attribute kind value) w real each = each
effect_real (modify_field pairs) w real each = stored_real w (Field (unwrap_or (last_attribute pairs) (bits_of (cell_at w.cells w.address)))) refl each
effect_real insert_cursor w real each = each
effect_real program_tab w real each = tabbed_real w w.nulling (first_from is_attribute w.cells w.address) each
effect_real (repeat_to_address stop character) w real each =
    ruled_real (length w.cells) (repeated_cell w.cells w.address stop character) (repeated_real w.cells w.address stop character real each)
effect_real (erase_unprotected_to_address stop) w real each =
    ruled_real (length w.cells) (erased_cell w.cells w.address stop) (erased_real w.cells w.address stop each)
effect_real (graphic_escape code) w real each = stored_real w (Char (glyph code true)) real each

-- ---- what a record begins with, and what Erase All Unprotected leaves
pub begun_real : (wcc : ℕ) (cells : List Cell) (cursor : ℕ) → AreReal cells → AreReal (begun wcc cells cursor).cells
begun_real wcc cells cursor each =
    cond_both (resets_modified_tags wcc) (ruled (length cells) (λ p. unmodified (cell_at cells p))) cells AreReal
    (λ does. ruled_real (length cells) (λ p. unmodified (cell_at cells p)) (λ p. unmodified_real (cell_at cells p) (each p)))
    (λ none. each)

pub cleared_cell_real : (cells : List Cell) → AreReal cells → (p : ℕ) → is_real (cleared_cell cells p) ≡ true
unfolding cleared_cell
cleared_cell_real cells each p =
    either_real (is_open cells p) blank (unprotected_unmodified (cell_at cells p)) blank_real (unprotected_real (cell_at cells p) (each p))

-- ---- one cell
pub set_real : (cells : List Cell) (p : ℕ) (cell : Cell) → is_real cell ≡ true → list_all is_real cells ≡ true → list_all is_real (set cells p cell) ≡ true
set_real [] p cell real all = all
set_real (first ∷ cells) zero cell real all = both (is_real cell) (list_all is_real cells) real (and_parts (is_real first) (list_all is_real cells) all).1
set_real (first ∷ cells) (suc p) cell real all =
    let parts = and_parts (is_real first) (list_all is_real cells) all in
    both (is_real first) (list_all is_real (set cells p cell)) parts.0 (set_real cells p cell real parts.1)

pub nulls_real : (n : ℕ) → list_all is_real (replicate n blank) ≡ true
nulls_real n = all_real (replicate n blank) (replicate_real n)

pub cleared_real : (cells : List Cell) → list_all is_real cells ≡ true → list_all is_real (ruled (length cells) (cleared_cell cells)) ≡ true
cleared_real cells all =
    all_real (ruled (length cells) (cleared_cell cells)) (ruled_real (length cells) (cleared_cell cells) (cleared_cell_real cells (each_real cells all)))

-- ---- buffers
pub null_all_real : (cells : List Cell) (n : ℕ) → cells ≡ replicate n blank → list_all is_real cells ≡ true
null_all_real cells n is = ap (list_all is_real) is ∙ nulls_real n

pub stored_all_real : (before after : List Cell) (p : ℕ) (cell : Cell) → is_real cell ≡ true → list_all is_real before ≡ true → after ≡ set before p cell
    → list_all is_real after ≡ true
stored_all_real before after p cell real all is = ap (list_all is_real) is ∙ set_real before p cell real all

pub repeated_all_real : (before after : List Cell) (b stop : ℕ) (character : Glyph) → is_glyph character ≡ true → list_all is_real before ≡ true
    → after ≡ ruled (length before) (repeated_cell before b stop character) → list_all is_real after ≡ true
repeated_all_real before after b stop character real all is =
    ap (list_all is_real) is
    ∙ all_real (ruled (length before) (repeated_cell before b stop character))
    (ruled_real (length before) (repeated_cell before b stop character) (repeated_real before b stop character real (each_real before all)))

pub clear_all_real : (before after : List Cell) → list_all is_real before ≡ true → after ≡ ruled (length before) (cleared_cell before) → list_all is_real after ≡ true
clear_all_real before after all is = ap (list_all is_real) is ∙ cleared_real before all
