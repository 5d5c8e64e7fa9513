-- The orders of a screen's record, done on an erased screen, leave its cells.
use Rattle.std.proofs.Common.{◌≡◌, ℕ, suc, ◌+◌, ◌%◌, ◌<◌, Bool, true, false, cond, List, [], ◌∷◌, ◌++◌, length, map, set, get_or, None, Ok, refl, sym, ap, ◌∙◌, subst, arith, append_assoc, length-append}
use Rattle.std.specs.Prelude.{replicate}
use Rattle.std.proofs.Math.Nat.{mod-eq_of_lt}
use Rattle.std.proofs.Math.Seq.{set-append_seam, get_or-append_seam}
use Rattle.std.proofs.lemmas.List.{append-nil, map-append, length-replicate}
use Rattle.ds_codec.specs.declared.cell.Cell.{Cell}
use Rattle.ds_codec.specs.declared.cell.Cell.TheVariants as cells
use Rattle.ds_codec.specs.Character.{glyph}
use Rattle.ds_codec.specs.Order.{Item, text, start_field, graphic_escape, Site}
use Rattle.ds_screen.specs.Picture.{blank, ruled}
use Rattle.ds_screen.specs.Orders.{Writing, text_cell, after_storing, effect_of, fault_of}
use Rattle.ds_screen.specs.Records.{acts}
use Rattle.ds_screen.proofs.ActLaws.{acts_on, acts_end}
use Rattle.ds_screen.proofs.RingLaws.{on_inside}
use Rattle.ds_screen.proofs.RunLaws.{run_cell, run_none, run_more, run_all, single_set}
use Rattle.ds_state.proofs.Items.{with_run, items_after}

-- orders that no fault stops lead from a state to another
abbrev pub ActsTo : List Item → Writing → Writing → Type 0
ActsTo [] w end = end ≡ w
ActsTo (item ∷ items) w end = (fault_of item w ≡ None) × ActsTo items (effect_of item w) end

pub acts_to : (sites : List Site) (w end : Writing) → ActsTo (map (λ site. site.order) sites) w end → acts sites w ≡ Ok end
acts_to [] w end is = acts_end w ∙ ap Ok (sym is)
acts_to (site ∷ sites) w end to =
    acts_on site sites w (effect_of site.order w) (to.0, refl) ∙ acts_to sites (effect_of site.order w) end to.1

abbrev pub plain : ℕ → Cell
plain code = cells.Char (glyph code false)

-- ---- one cell

filled_length : (done : List Cell) (m : ℕ) → length (done ++ replicate m blank) ≡ length done + m
filled_length done m = length-append done (replicate m blank) ∙ ap (λ z. length done + z) (length-replicate m blank)

set_next : (done : List Cell) (m k : ℕ) (cell : Cell) → k ≡ suc m → set (done ++ replicate k blank) (length done) cell ≡ (done ++ cell ∷ []) ++ replicate m blank
set_next done m k cell is =
    ap (λ z. set (done ++ replicate z blank) (length done) cell) is
    ∙ set-append_seam done blank (replicate m blank) cell ∙ sym (append_assoc done (cell ∷ []) (replicate m blank))

pub stored : (w : Writing) (done : List Cell) (m k : ℕ) (cell : Cell) (nulling : Bool) → k ≡ suc m → w.cells ≡ done ++ replicate k blank → w.address ≡ length done
    → (after_storing w cell nulling).cells ≡ (done ++ cell ∷ []) ++ replicate m blank
stored w done m k cell nulling is held here =
    let len : length w.cells ≡ length done + k = ap length held ∙ filled_length done k in
    sym (single_set w.cells w.address cell (omega (arith, len, here, is)))
    ∙ ap (λ z. set z w.address cell) held ∙ ap (λ z. set (done ++ replicate k blank) z cell) here ∙ set_next done m k cell is

pub stored_at : (w : Writing) (done : List Cell) (m k : ℕ) (cell : Cell) (nulling : Bool) → k ≡ suc m → w.cells ≡ done ++ replicate k blank → w.address ≡ length done
    → 0 < m → (after_storing w cell nulling).address ≡ length (done ++ cell ∷ [])
stored_at w done m k cell nulling is held here some =
    let len : length w.cells ≡ length done + k = ap length held ∙ filled_length done k in
    on_inside (length w.cells) w.address 1 (omega (arith, len, here, is)) ∙ omega (arith, here, length-append done (cell ∷ []))

-- ---- a run of text

length_plain : (run : List ℕ) → length (map plain run) ≡ length run
length_plain [] = refl
length_plain (code ∷ run) = ap suc (length_plain run)

code_at : (run front rest : List ℕ) (code : ℕ) → run ≡ front ++ code ∷ rest → get_or run (length front) 0 ≡ code
code_at run front rest code is = ap (λ z. get_or z (length front) 0) is ∙ get_or-append_seam front code rest 0

run_filled : (held before : List Cell) (run front rest : List ℕ) (m : ℕ) → run ≡ front ++ rest → length held ≡ length before + (length run + m)
    → ruled (length held) (run_cell held (length before) run (length front)) ≡ (before ++ map plain front) ++ replicate (length rest + m) blank
    → ruled (length held) (run_cell held (length before) run (length run)) ≡ (before ++ map plain run) ++ replicate m blank
run_filled held before run front [] m is len so =
    let same : front ≡ run = sym (append-nil front) ∙ sym is in
    subst (λ z. ruled (length held) (run_cell held (length before) run (length z)) ≡ (before ++ map plain z) ++ replicate m blank) same
    (so ∙ ap (λ z. (before ++ map plain front) ++ replicate z blank) (omega arith))
run_filled held before run front (code ∷ rest) m is len so =
    let done : List Cell = before ++ map plain front in
    let there : length done ≡ length before + length front = length-append before (map plain front) ∙ ap (λ z. length before + z) (length_plain front) in
    let whole : length run ≡ length front + length (code ∷ rest) = ap length is ∙ length-append front (code ∷ rest) in
    let more : length (code ∷ rest) + m ≡ suc (length rest + m) = omega arith in
    let inside : length before + length front < length held = omega (arith, len, whole) in
    let at : (length before + length front) % length held ≡ length done = mod-eq_of_lt inside ∙ sym there in
    let next : ruled (length held) (run_cell held (length before) run (length front + 1)) ≡ (done ++ plain code ∷ []) ++ replicate (length rest + m) blank =
    sym (run_more held (length before) run (length front) (omega (arith, inside)))
    ∙ ap (λ z. set z ((length before + length front) % length held) (cells.Char (glyph (get_or run (length front) 0) false))) so
    ∙ ap (λ z. set (done ++ replicate (length (code ∷ rest) + m) blank) z (cells.Char (glyph (get_or run (length front) 0) false))) at
    ∙ ap (λ z. set (done ++ replicate (length (code ∷ rest) + m) blank) (length done) (cells.Char (glyph z false))) (code_at run front rest code is)
    ∙ set_next done (length rest + m) (length (code ∷ rest) + m) (plain code) more in
    let longer : length front + 1 ≡ length (front ++ code ∷ []) = sym (length-append front (code ∷ [])) in
    let joined : done ++ plain code ∷ [] ≡ before ++ map plain (front ++ code ∷ []) =
    append_assoc before (map plain front) (plain code ∷ []) ∙ ap (λ z. before ++ z) (sym (map-append plain front (code ∷ []))) in
    run_filled held before run (front ++ code ∷ []) rest m (is ∙ sym (append_assoc front (code ∷ []) rest)) len
    (ap (λ z. ruled (length held) (run_cell held (length before) run z)) (sym longer) ∙ next ∙ ap (λ z. z ++ replicate (length rest + m) blank) joined)

text_filled : (held before : List Cell) (run : List ℕ) (m : ℕ) → held ≡ before ++ replicate (length run + m) blank
    → ruled (length held) (text_cell held (length before) run) ≡ (before ++ map plain run) ++ replicate m blank
text_filled held before run m is =
    let len : length held ≡ length before + (length run + m) = ap length is ∙ filled_length before (length run + m) in
    sym (run_all held (length before) run)
    ∙ run_filled held before run [] run m refl len
    (sym (run_none held (length before) run) ∙ is ∙ ap (λ z. z ++ replicate (length run + m) blank) (sym (append-nil before)))

-- ---- all cells

run_acts : (run : List ℕ) (items : List Item) (before : List Cell) (w end : Writing) (m : ℕ) → w.cells ≡ before ++ replicate (length run + m) blank
    → (0 < length run + m → w.address ≡ length before)
    → ((next : Writing) → next.cells ≡ (before ++ map plain run) ++ replicate m blank → (0 < m → next.address ≡ length (before ++ map plain run)) → ActsTo items next end)
    → ActsTo (with_run run items) w end
unfolding effect_of fault_of
run_acts [] items before w end m is here on =
    on w (is ∙ ap (λ z. before ++ replicate z blank) (omega arith) ∙ ap (λ z. z ++ replicate m blank) (sym (append-nil before)))
    (λ some. here (omega (arith, some)) ∙ ap length (sym (append-nil before)))
run_acts (code ∷ run) items before w end m is here on =
    let text' : List ℕ = code ∷ run in
    let at : w.address ≡ length before = here (omega arith) in
    let len : length w.cells ≡ length before + (length text' + m) = ap length is ∙ filled_length before (length text' + m) in
    let there : length (before ++ map plain text') ≡ length before + length text' =
    length-append before (map plain text') ∙ ap (λ z. length before + z) (length_plain text') in (
      refl,
      on (effect_of (text text') w) (ap (λ z. ruled (length w.cells) (text_cell w.cells z text')) at ∙ text_filled w.cells before text' m is)
          (λ some.
          let inside : w.address + length text' < length w.cells = omega (arith, at, len, some) in
          mod-eq_of_lt inside ∙ ap (λ z. z + length text') at ∙ sym there),
    )

-- a cell that an order of its own stores
one_acts : (cell : Cell) (run : List ℕ) (item : Item) (items : List Item) (before : List Cell) (w end : Writing) (nulling : Bool) (m : ℕ)
    → ((v : Writing) → fault_of item v ≡ None) → ((v : Writing) → effect_of item v ≡ after_storing v cell nulling)
    → w.cells ≡ before ++ replicate (length run + suc m) blank → (0 < length run + suc m → w.address ≡ length before)
    → ((next : Writing) → next.cells ≡ ((before ++ map plain run) ++ cell ∷ []) ++ replicate m blank
    → (0 < m → next.address ≡ length ((before ++ map plain run) ++ cell ∷ [])) → ActsTo items next end)
    → ActsTo (with_run run (item ∷ items)) w end
one_acts cell run item items before w end nulling m fine does is here on =
    run_acts run (item ∷ items) before w end (suc m) is here
    (λ next held there. (
      fine next,
      subst (λ z. ActsTo items z end) (sym (does next))
          (on (after_storing next cell nulling) (stored next (before ++ map plain run) m (suc m) cell nulling refl held (there (omega arith)))
          (λ some. stored_at next (before ++ map plain run) m (suc m) cell nulling refl held (there (omega arith)) some)),
    ))

field_fine : (attribute : ℕ) (v : Writing) → fault_of (start_field attribute) v ≡ None
unfolding fault_of
field_fine attribute v = refl

field_does : (attribute : ℕ) (v : Writing) → effect_of (start_field attribute) v ≡ after_storing v (cells.Field attribute) false
unfolding effect_of
field_does attribute v = refl

graphic_fine : (code : ℕ) (v : Writing) → fault_of (graphic_escape code) v ≡ None
unfolding fault_of
graphic_fine code v = refl

graphic_does : (code : ℕ) (v : Writing) → effect_of (graphic_escape code) v ≡ after_storing v (cells.Char (glyph code true)) true
unfolding effect_of
graphic_does code v = refl

no_more : (m : List Cell) (x : List Cell) → x ≡ m ++ [] → x ≡ m
no_more m x is = is ∙ append-nil m

-- what is known before a run, from which these cells follow
abbrev pub LeadsOn : List Cell → List ℕ → List Cell → Writing → Type 0
LeadsOn before run held w =
    (w.cells ≡ before ++ replicate (length run + length held) blank) × (0 < length run + length held → w.address ≡ length before)

char_acts : (alt : Bool) (code : ℕ) (run : List ℕ) (later goes : List Item) (before : List Cell) (w end : Writing) (m : ℕ)
    → w.cells ≡ before ++ replicate (length run + suc m) blank → (0 < length run + suc m → w.address ≡ length before)
    → ((next : Writing) → next.cells ≡ ((before ++ map plain run) ++ cells.Char (glyph code true) ∷ []) ++ replicate m blank
    → (0 < m → next.address ≡ length ((before ++ map plain run) ++ cells.Char (glyph code true) ∷ [])) → alt ≡ true → ActsTo later next end)
    → (w.cells ≡ before ++ replicate (length (run ++ code ∷ []) + m) blank → (0 < length (run ++ code ∷ []) + m → w.address ≡ length before) → alt ≡ false → ActsTo goes w end)
    → ActsTo (cond alt (with_run run (graphic_escape code ∷ later)) goes) w end
char_acts true code run later goes before w end m is here on more =
    one_acts (cells.Char (glyph code true)) run (graphic_escape code) later before w end true m (graphic_fine code) (graphic_does code) is here (λ next held there. on next held there refl)
char_acts false code run later goes before w end m is here on more =
    let longer : length run + suc m ≡ length (run ++ code ∷ []) + m = omega (arith, length-append run (code ∷ [])) in
    more (is ∙ ap (λ z. before ++ replicate z blank) longer) (λ some. here (omega (arith, longer, some))) refl

pub all_act : (held : List Cell) (run : List ℕ) (last : List Item) (before : List Cell) (w end : Writing) → LeadsOn before run held w
    → ((next : Writing) → next.cells ≡ (before ++ map plain run) ++ held → ActsTo last next end)
    → ActsTo (items_after run held last) w end
all_act [] run last before w end leads on = run_acts run last before w end 0 leads.0 leads.1 (λ next is here. on next is)
all_act (cells.Field attribute ∷ rest) run last before w end leads on =
    let done : List Cell = before ++ map plain run in
    one_acts (cells.Field attribute) run (start_field attribute) (items_after [] rest last) before w end false (length rest) (field_fine attribute) (field_does attribute) leads.0 leads.1
    (λ next is here. all_act rest [] last (done ++ cells.Field attribute ∷ []) next end (
      is ∙ ap (λ z. (done ++ cells.Field attribute ∷ []) ++ replicate z blank) (omega arith),
      λ some. here (omega (arith, some)),
    ) (λ later held. on later (held ∙ ap (λ z. z ++ rest) (append-nil (done ++ cells.Field attribute ∷ [])) ∙ append_assoc done (cells.Field attribute ∷ []) rest)))
all_act (cells.Char character ∷ rest) run last before w end leads on =
    let done : List Cell = before ++ map plain run in
    let code : ℕ = character.code in
    char_acts character.alt code run (items_after [] rest last) (items_after (run ++ code ∷ []) rest last) before w end (length rest) leads.0 leads.1
    (λ next is here graphic. all_act rest [] last (done ++ cells.Char (glyph code true) ∷ []) next end (
      is ∙ ap (λ z. (done ++ cells.Char (glyph code true) ∷ []) ++ replicate z blank) (omega arith),
      λ some. here (omega (arith, some)),
    ) (λ later held. on later (
    held ∙ ap (λ z. z ++ rest) (append-nil (done ++ cells.Char (glyph code true) ∷ [])) ∙ append_assoc done (cells.Char (glyph code true) ∷ []) rest
    ∙ ap (λ a. done ++ cells.Char (glyph code a) ∷ rest) (sym graphic))))
    (λ is here usual. all_act rest (run ++ code ∷ []) last before w end (is, here)
    (λ later held. on later (
    held ∙ ap (λ z. (before ++ z) ++ rest) (map-append plain run (code ∷ [])) ∙ ap (λ z. z ++ rest) (sym (append_assoc before (map plain run) (plain code ∷ [])))
    ∙ append_assoc done (plain code ∷ []) rest ∙ ap (λ a. done ++ cells.Char (glyph code a) ∷ rest) (sym usual))))
