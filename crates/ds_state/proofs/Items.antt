-- The orders of a screen's record: a run of text as long as it can be, an attribute, a character of the alternate set.
use Rattle.std.proofs.Common.{◌≡◌, ℕ, zero, suc, ◌+◌, ◌<◌, ◌≤◌, Bool, true, false, cond, ltb, ◌&&◌, List, [], ◌∷◌, ◌++◌, length, get_or, take, subst, None, refl, sym, ap, ◌∙◌, arith, append_assoc}
use Rattle.std.specs.List.{list_all, flat_map}
use Rattle.std.proofs.lemmas.Bool.{lt-ltb}
use Rattle.std.proofs.lemmas.List.{take_more, take_all}
use Rattle.std.proofs.lemmas.List.Concat.{flat_map-cons}
use Rattle.std.proofs.lemmas.List.Folds.{list_all-append}
use Rattle.ds_codec.specs.declared.cell.Cell.{Cell}
use Rattle.ds_codec.specs.declared.cell.Cell.TheVariants as cells
use Rattle.ds_codec.specs.declared.size.Mode.{Mode}
use Rattle.ds_codec.specs.Character.{is_text, is_graphic}
use Rattle.ds_codec.specs.declared.order.OrderCode.TheVariants.{Sf, Ge}
use Rattle.ds_codec.specs.declared.write.Unwritable.TheVariants.{BadText, BadCode}
use Rattle.ds_codec.specs.Address.{six_bit_code}
use Rattle.ds_codec.specs.Order.{code_of, Item, text, start_field, graphic_escape}
use Rattle.ds_codec.specs.Record.{is_text_order}
use Rattle.ds_codec.specs.Writing.{flaw_unless, flaw_of, item_at, HaveNoFlaw, IsValidItem, AreValid, written_order}
use Rattle.buffer_lines.specs.Left.{IsHeld, AreHeld}
use Rattle.buffer_lines.specs.Record.{cell_bytes}

-- a run of text, if there is any
abbrev pub with_run : List ℕ → List Item → List Item
with_run [] items = items
with_run (b ∷ run) items = text (b ∷ run) ∷ items

-- the orders of cells after a run that goes on, and then the last ones
abbrev pub items_after : List ℕ → List Cell → List Item → List Item
items_after run [] last = with_run run last
items_after run (cells.Field attribute ∷ rest) last = with_run run (start_field attribute ∷ items_after [] rest last)
items_after run (cells.Char character ∷ rest) last =
    cond character.alt (with_run run (graphic_escape character.code ∷ items_after [] rest last))
    (items_after (run ++ character.code ∷ []) rest last)

-- ---- cells in turn

held_last : (held : List Cell) (cell : Cell) → AreHeld held → IsHeld cell → AreHeld (held ++ cell ∷ [])
held_last [] cell all this = (this, tt)
held_last (first ∷ rest) cell all this = (all.0, held_last rest cell all.1 this)

pub held_more : (held : List Cell) (i : ℕ) (cell : Cell) → i < length held → cell ≡ get_or held i cell → AreHeld (take i held) → IsHeld cell → AreHeld (take (i + 1) held)
held_more held i cell inside is all this =
    subst AreHeld (sym (take_more held i cell inside)) (held_last (take i held) (get_or held i cell) all (subst IsHeld is this))

pub held_all : (held : List Cell) (i : ℕ) → length held ≤ i → AreHeld (take i held) → AreHeld held
held_all held i past all = subst AreHeld (take_all i held past) all

pub held_both : (held others : List Cell) → AreHeld held → AreHeld others → AreHeld (held ++ others)
held_both [] others all more = more
held_both (cell ∷ rest) others all more = (all.0, held_both rest others all.1 more)

-- ---- their bytes

run_bytes : (mode : Mode) (n : ℕ) (run : List ℕ) (items : List Item)
    → flat_map (written_order mode n) (with_run run items) ≡ run ++ flat_map (written_order mode n) items
run_bytes mode n [] items = refl
run_bytes mode n (b ∷ run) items = flat_map-cons (written_order mode n) (text (b ∷ run)) items

char_bytes : (mode : Mode) (n : ℕ) (alt : Bool) (code : ℕ) (run more : List ℕ) (later goes : List Item) → flat_map (written_order mode n) later ≡ more
    → flat_map (written_order mode n) goes ≡ (run ++ code ∷ []) ++ more
    → flat_map (written_order mode n) (cond alt (with_run run (graphic_escape code ∷ later)) goes) ≡ run ++ (cond alt (code_of Ge ∷ code ∷ []) (code ∷ []) ++ more)
char_bytes mode n true code run more later goes after on =
    run_bytes mode n run (graphic_escape code ∷ later)
    ∙ ap (λ z. run ++ z) (flat_map-cons (written_order mode n) (graphic_escape code) later ∙ ap (λ z. code_of Ge ∷ code ∷ z) after)
char_bytes mode n false code run more later goes after on = on ∙ append_assoc run (code ∷ []) more

cell_more : (cell : Cell) (rest : List Cell) (more : List ℕ) → flat_map cell_bytes (cell ∷ rest) ++ more ≡ cell_bytes cell ++ (flat_map cell_bytes rest ++ more)
cell_more cell rest more = ap (λ z. z ++ more) (flat_map-cons cell_bytes cell rest) ∙ append_assoc (cell_bytes cell) (flat_map cell_bytes rest) more

pub items_bytes : (mode : Mode) (n : ℕ) (run : List ℕ) (held : List Cell) (last : List Item)
    → flat_map (written_order mode n) (items_after run held last) ≡ run ++ (flat_map cell_bytes held ++ flat_map (written_order mode n) last)
items_bytes mode n run [] last = run_bytes mode n run last
items_bytes mode n run (cells.Field attribute ∷ rest) last =
    run_bytes mode n run (start_field attribute ∷ items_after [] rest last)
    ∙ ap (λ z. run ++ z) (flat_map-cons (written_order mode n) (start_field attribute) (items_after [] rest last)
    ∙ ap (λ z. code_of Sf ∷ six_bit_code attribute ∷ z) (items_bytes mode n [] rest last)
    ∙ sym (cell_more (cells.Field attribute) rest (flat_map (written_order mode n) last)))
items_bytes mode n run (cells.Char character ∷ rest) last =
    char_bytes mode n character.alt character.code run (flat_map cell_bytes rest ++ flat_map (written_order mode n) last) (items_after [] rest last)
    (items_after (run ++ character.code ∷ []) rest last) (items_bytes mode n [] rest last) (items_bytes mode n (run ++ character.code ∷ []) rest last)
    ∙ ap (λ z. run ++ z) (sym (cell_more (cells.Char character) rest (flat_map (written_order mode n) last)))

-- ---- no flaw is in them

abbrev pub WellFrom : ℕ → Bool → List Item → Type 0
WellFrom n after [] = Unit {0}
WellFrom n after (item ∷ items) = ((k : ℕ) → flaw_of n after item k ≡ None) × IsValidItem item × WellFrom n (is_text_order item) items

flaw_later : (n : ℕ) (after : Bool) (items : List Item) (k j : ℕ) → WellFrom n after items → flaw_of n (is_text_order (item_at items k)) (item_at items (suc k)) j ≡ None
flaw_later n after [] zero j well = refl
flaw_later n after [] (suc k) j well = refl
flaw_later n after (item ∷ []) zero j well = refl
flaw_later n after (item ∷ next ∷ items) zero j well = well.2.0 j
flaw_later n after (item ∷ items) (suc k) j well = flaw_later n (is_text_order item) items k j well.2

flaw_first : (n : ℕ) (items : List Item) (j : ℕ) → WellFrom n false items → flaw_of n false (item_at items 0) j ≡ None
flaw_first n [] j well = refl
flaw_first n (item ∷ items) j well = well.0 j

pub no_flaw : (n : ℕ) (items : List Item) → WellFrom n false items → HaveNoFlaw n items
no_flaw n items well zero = flaw_first n items 0 well
no_flaw n items well (suc k) = flaw_later n false items k (suc k) well

pub are_valid : (n : ℕ) (after : Bool) (items : List Item) → WellFrom n after items → AreValid items
are_valid n after [] well zero = tt
are_valid n after [] well (suc k) = tt
are_valid n after (item ∷ items) well zero = well.1
are_valid n after (item ∷ items) well (suc k) = are_valid n (is_text_order item) items well.2 k

run_well : (n : ℕ) (run : List ℕ) (items : List Item) → list_all is_text run ≡ true → ((after : Bool) → WellFrom n after items) → WellFrom n false (with_run run items)
run_well n [] items all well = well false
run_well n (b ∷ run) items all well =
    let good : (ltb 0 (length (b ∷ run)) && list_all is_text (b ∷ run)) ≡ true = rw (lt-ltb 0 (length (b ∷ run)) (omega arith), all) refl in
    ((λ k. ap (λ z. flaw_unless z (BadText k)) good), tt, well true)

char_well : (n : ℕ) (alt : Bool) (code : ℕ) (run : List ℕ) (later goes : List Item) → cond alt (is_graphic code) (is_text code) ≡ true → list_all is_text run ≡ true
    → WellFrom n false later → (list_all is_text (run ++ code ∷ []) ≡ true → WellFrom n false goes)
    → WellFrom n false (cond alt (with_run run (graphic_escape code ∷ later)) goes)
char_well n true code run later goes real all after on =
    run_well n run (graphic_escape code ∷ later) all (λ b. ((λ k. ap (λ z. flaw_unless z (BadCode k)) real), tt, after))
char_well n false code run later goes real all after on =
    on (list_all-append is_text run (code ∷ []) ∙ ap (λ z. z && list_all is_text (code ∷ [])) all ∙ ap (λ z. z && true) real)

pub items_well : (n : ℕ) (run : List ℕ) (held : List Cell) (last : List Item) → AreHeld held → list_all is_text run ≡ true → ((after : Bool) → WellFrom n after last)
    → WellFrom n false (items_after run held last)
items_well n run [] last good all well = run_well n run last all well
items_well n run (cells.Field attribute ∷ rest) last good all well =
    run_well n run (start_field attribute ∷ items_after [] rest last) all (λ b. ((λ k. refl), good.0, items_well n [] rest last good.1 refl well))
items_well n run (cells.Char character ∷ rest) last good all well =
    char_well n character.alt character.code run (items_after [] rest last) (items_after (run ++ character.code ∷ []) rest last) good.0 all
    (items_well n [] rest last good.1 refl well) (λ more. items_well n (run ++ character.code ∷ []) rest last good.1 more well)
