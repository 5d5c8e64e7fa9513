-- Searches before the cursor, and the keys that fill.
use Rattle.std.proofs.Common.{◌≡◌, ℕ, ◌+◌, ◌-◌, ◌<◌, Bool, true, false, not, List, ◌∷◌, [], ◌++◌, length, sym, ◌∙◌, ap, append_assoc, zero-add}
use Rattle.std.specs.Option.{unwrap_or}
use Rattle.std.proofs.lemmas.List.FromFn.{map-range_with_len_more}
use Rattle.ds_codec.specs.declared.cell.Cell.{Cell}
use Rattle.ds_screen.specs.Ring.{ring_on, ring_back}
use Rattle.ds_screen.specs.Picture.{cell_at}
use Rattle.ds_screen.specs.Fields.{is_attribute}
use Rattle.ds_screen.proofs.RingLaws.{least_at, least_none}
use Rattle.ds_keys.specs.declared.key.Key.{Key}
use Rattle.script_keys.specs.declared.run.Run.{Run}
use Rattle.script_keys.specs.Runs.{once}
use Rattle.script_keys.specs.Fill.{is_null, is_used_at, is_attribute_at, is_empty_row, ends_fill, fill_reach, is_null_back, fill_key, fill_run, filled_from}

pub used_here : (cells : List Cell) (end d place : ℕ) (cell : Cell) (held null : Bool) → place ≡ end - d → cell ≡ cell_at cells place → held ≡ is_null cell → held ≡ null
    → is_used_at cells end d ≡ not null
used_here cells end d place cell held null at here test is =
    sym (ap not (sym is ∙ test ∙ ap is_null (here ∙ ap (cell_at cells) at)))

pub row_used : (cells : List Cell) (cols end d : ℕ) (field : Bool) → d < cols → ((e : ℕ) → e < d → is_used_at cells end e ≡ false) → is_used_at cells end d ≡ true
    → field ≡ is_attribute (cell_at cells (end - d)) → field ≡ is_empty_row cells cols end
unfolding is_empty_row
row_used cells cols end d field lt misses hit is = is ∙ sym (ap (is_attribute_at cells end) (least_at cols d (is_used_at cells end) lt misses hit))

pub row_empty : (cells : List Cell) (cols end : ℕ) → ((e : ℕ) → e < cols → is_used_at cells end e ≡ false) → true ≡ is_empty_row cells cols end
unfolding is_empty_row
row_empty cells cols end misses = sym (ap (is_attribute_at cells end) (least_none cols (is_used_at cells end) misses))

abbrev pub ends_back : List Cell → ℕ → ℕ → ℕ → Bool
ends_back cells cols c d = ends_fill cells cols (ring_back (length cells) c (d + 1))

pub reach_found : (cells : List Cell) (cols c d : ℕ) → d < length cells → ((e : ℕ) → e < d → ends_back cells cols c e ≡ false) → ends_back cells cols c d ≡ true
    → d ≡ fill_reach cells cols c
unfolding fill_reach
reach_found cells cols c d lt misses hit = sym (ap (λ o. unwrap_or o 0) (least_at (length cells) d (ends_back cells cols c) lt misses hit))

pub reach_none : (cells : List Cell) (cols c : ℕ) → ((e : ℕ) → e < length cells → ends_back cells cols c e ≡ false) → 0 ≡ fill_reach cells cols c
unfolding fill_reach
reach_none cells cols c misses = sym (ap (λ o. unwrap_or o 0) (least_none (length cells) (ends_back cells cols c) misses))

pub ends_here : (cells : List Cell) (n cols c d at : ℕ) (ends : Bool) → n ≡ length cells → at ≡ ring_back n c (d + 1) → ends ≡ ends_fill cells cols at
    → ends_back cells cols c d ≡ ends
ends_here cells n cols c d at ends count back test = sym (test ∙ ap (ends_fill cells cols) (back ∙ ap (λ m. ring_back m c (d + 1)) count))

pub null_here : (cells : List Cell) (n c d left at : ℕ) (cell : Cell) (null : Bool) → n ≡ length cells → d + 1 ≡ left → at ≡ ring_back n c left → cell ≡ cell_at cells at
    → null ≡ is_null cell → is_null_back cells c d ≡ null
null_here cells n c d left at cell null count more back here test =
    sym (test ∙ ap is_null (here ∙ ap (cell_at cells) (back ∙ ap (λ m. ring_back m c left) count ∙ ap (ring_back (length cells) c) (sym more))))

pub filled_more : (cells : List Cell) (n start d at : ℕ) (cell : Cell) (key : Key) (run : Run) (old now new : List Run) → n ≡ length cells → at ≡ ring_on n start d
    → cell ≡ cell_at cells at → key ≡ fill_key cell → run ≡ once key → now ≡ old ++ filled_from cells start d → new ≡ now ++ run ∷ []
    → new ≡ old ++ filled_from cells start (d + 1)
filled_more cells n start d at cell key run old now new count on here is one so pushed =
    let key_here : key ≡ fill_key (cell_at cells (ring_on (length cells) start d)) =
    is ∙ ap fill_key (here ∙ ap (cell_at cells) (on ∙ ap (λ m. ring_on m start d) count)) in
    let run_here : run ≡ fill_run cells start d = one ∙ ap once key_here in
    let regroup : (old ++ filled_from cells start d) ++ run ∷ [] ≡ old ++ (filled_from cells start d ++ run ∷ []) = simp append_assoc in
    let more : filled_from cells start d ++ fill_run cells start d ∷ [] ≡ filled_from cells start (d + 1) =
    sym (map-range_with_len_more (fill_run cells start) 0 d d (zero-add d)) in
    pushed ∙ ap (λ l. l ++ run ∷ []) so ∙ regroup ∙ ap (λ r. old ++ (filled_from cells start d ++ r ∷ [])) run_here ∙ ap (λ l. old ++ l) more
