-- What the keys of a demo do: Right to a place, one character typed over and over, and Enter.
use Rattle.std.proofs.Common.{◌≡◌, ◌≢◌, ℕ, zero, suc, ◌+◌, ◌-◌, ◌<◌, ◌&&◌, ◌||◌, Bool, true, false, not, eqb, List, [], ◌∷◌, ◌++◌, length, replicate, refl, sym, ◌∙◌, ap, subst, arith, inl, inr}
use Rattle.std.proofs.lemmas.Bool.{cond-true, cond-false, false≢true, not-true, and_parts, eq-eqb, ne_eqb}
use Rattle.ds_codec.specs.Aid.{is_long_aid, is_short_aid}
use Rattle.ds_codec.specs.declared.cell.Cell.{Cell}
use Rattle.ds_codec.specs.declared.cell.Cell.TheVariants.{Field, Char}
use Rattle.ds_codec.specs.Attribute.{is_protected, is_modified}
use Rattle.ds_codec.specs.Character.{glyph, is_graphic}
use Rattle.ds_screen.specs.declared.lock.Lock.TheVariants.{Free, Waiting}
use Rattle.ds_screen.specs.Ring.{ring_on, ring_distance}
use Rattle.ds_screen.specs.Picture.{Picture, cell_at, ruled}
use Rattle.ds_screen.specs.Fields.{is_attribute, is_character, bits_of, bits_at, attribute_before, is_at, governs, is_open, span_of}
use Rattle.ds_screen.proofs.RingLaws.{search_cases, on-zero, on_lt, on_cases}
use Rattle.ds_screen.proofs.RuledLaws.{cell_at-ruled, on_distance, distance_lt}
use Rattle.ds_screen.proofs.SpanLaws.{IsNext, ruled_by, on_on, length-span_of, next_from}
use Rattle.ds_keys.specs.declared.key.Key.{Key}
use Rattle.ds_keys.specs.declared.key.Key.TheVariants.{Typed, Right, Attention}
use Rattle.ds_keys.specs.declared.pressed.Pressed.TheVariants.{Done, Sent}
use Rattle.ds_keys.specs.Moves.{stops_cursor, settled}
use Rattle.ds_keys.specs.KeyStep.{Step, step, typed_cell, typed_step, attention_step, free_step, step_under, step_of}
use Rattle.ds_keys.specs.KeyRuns.{answer_of, after, is_accepted, is_sent, are_accepted, is_quiet}
use Rattle.ds_keys.specs.Laws.{Keeps}
use Rattle.ds_keys.proofs.CellLaws.{open_from_parts, found_at}
use Rattle.ds_keys.proofs.EditLaws.{marked_character}
use Rattle.ds_keys.proofs.KeepLaws.{quiet_key_keeps}
use Rattle.ds_keys.proofs.TouchLaws.{key_marks}
use Rattle.ds_keys.proofs.SearchLaws.{stop_found, stops_there}

-- ---- keys that are all done
-- the keys lead from v to w, and none of them sends
pub record Runs (v : Picture) (keys : List Key) (w : Picture) : Type 0 where
  pub comes : (rest : List Key) → after v (keys ++ rest) ≡ after w rest
  pub takes : (rest : List Key) → are_accepted v (keys ++ rest) ≡ are_accepted w rest
  pub quiet : (rest : List Key) → is_quiet v (keys ++ rest) ≡ is_quiet w rest

pub runs_none : (v : Picture) → Runs v [] v
runs_none v = record { comes = λ rest. refl; takes = λ rest. refl; quiet = λ rest. refl }

pub runs_more : (v w x : Picture) (key : Key) (keys : List Key) → step_of v key ≡ step w Done → Runs w keys x → Runs v (key ∷ keys) x
unfolding after are_accepted is_quiet
runs_more v w x key keys is later =
    record {
      comes = λ rest. ap (λ (s : Step). after s.after (keys ++ rest)) is ∙ later.comes rest;
      takes = λ rest. ap (λ (s : Step). is_accepted s.pressed && are_accepted s.after (keys ++ rest)) is ∙ later.takes rest;
      quiet = λ rest. ap (λ (s : Step). not (is_sent s.pressed) && is_quiet s.after (keys ++ rest)) is ∙ later.quiet rest;
    }

pub runs_on : (v w x : Picture) (first others : List Key) → Runs v first w → Runs w others x → (rest : List Key)
    → (after v (first ++ (others ++ rest)) ≡ after x rest) × ((are_accepted v (first ++ (others ++ rest)) ≡ are_accepted x rest) × (is_quiet v (first ++ (others ++ rest)) ≡ is_quiet x rest))
runs_on v w x first others a b rest =
    (a.comes (others ++ rest) ∙ b.comes rest, (a.takes (others ++ rest) ∙ b.takes rest, a.quiet (others ++ rest) ∙ b.quiet rest))

-- ---- Enter
pub enter_step : (v : Picture) → v.lock ≡ Free → step_of v (Attention 0x7D) ≡ step (record v { lock = Waiting; aid = 0x7D }) (Sent 0x7D)
unfolding step_of free_step attention_step is_long_aid is_short_aid
enter_step v free = ap (λ l. step_under l v (Attention 0x7D)) free

pub enter_accepted : (v : Picture) → v.lock ≡ Free → are_accepted v (Attention 0x7D ∷ []) ≡ true
unfolding are_accepted
enter_accepted v free = ap (λ (s : Step). is_accepted s.pressed && are_accepted s.after []) (enter_step v free)

pub enter_after : (v : Picture) → v.lock ≡ Free → after v (Attention 0x7D ∷ []) ≡ record v { lock = Waiting; aid = 0x7D }
unfolding after
enter_after v free = ap (λ (s : Step). s.after) (enter_step v free)

-- ---- Right
right_step : (v : Picture) → v.lock ≡ Free → step_of v Right ≡ step (record v { cursor = ring_on (length v.cells) v.cursor 1 }) Done
unfolding step_of free_step
right_step v free = ap (λ l. step_under l v Right) free

pub rights_run : (k : ℕ) (v : Picture) → v.lock ≡ Free → v.cursor < length v.cells → k < length v.cells
    → Runs v (replicate k Right) (record v { cursor = ring_on (length v.cells) v.cursor k })
rights_run zero v free inside few =
    let same : v.cursor ≡ ring_on (length v.cells) v.cursor 0 = sym (on-zero (length v.cells) v.cursor inside) in
    subst (λ p. Runs v [] (record v { cursor = p })) same (runs_none v)
rights_run (suc k) v free inside few =
    let n : ℕ = length v.cells in
    let next : Picture = record v { cursor = ring_on n v.cursor 1 } in
    let more : k + 1 ≡ suc k = omega arith in
    let same : ring_on n (ring_on n v.cursor 1) k ≡ ring_on n v.cursor (suc k) = on_on n v.cursor k inside (omega arith) ∙ ap (ring_on n v.cursor) more in
    let later : Runs next (replicate k Right) (record next { cursor = ring_on n (ring_on n v.cursor 1) k }) =
    rights_run k next free (on_lt n v.cursor 1 inside (omega arith)) (omega arith) in
    subst (λ p. Runs v (replicate (suc k) Right) (record v { cursor = p })) same
    (runs_more v next (record next { cursor = ring_on n (ring_on n v.cursor 1) k }) Right (replicate k Right) (right_step v free) later)

-- Right so many times as the place is away
pub place_run : (v : Picture) (place : ℕ) → v.lock ≡ Free → v.cursor < length v.cells → place < length v.cells
    → Runs v (replicate (ring_distance (length v.cells) v.cursor place) Right) (record v { cursor = place })
place_run v place free inside lt =
    let n : ℕ = length v.cells in
    subst (λ p. Runs v (replicate (ring_distance n v.cursor place) Right) (record v { cursor = p })) (on_distance n v.cursor place inside lt)
    (rights_run (ring_distance n v.cursor place) v free inside (distance_lt n v.cursor place inside lt))

-- ---- the cells of a field
round_home : (n q : ℕ) → q < n → ring_on n (ring_on n q 1) (n - 1) ≡ q
round_home n q inside = on_on n q (n - 1) inside (omega arith) ∙ elim (on_cases n q (n - 1 + 1)) [ inl c ↦ omega arith | inr c ↦ omega arith ]

pub next_of : (cells : List Cell) (q : ℕ) → q < length cells → is_attribute (cell_at cells q) ≡ true → IsNext cells q (length (span_of cells q))
next_of cells q inside there =
    let n : ℕ = length cells in
    elim (search_cases n (λ d. is_attribute (cell_at cells (ring_on n (ring_on n q 1) d)))) [
      | inl found ↦
          let next : IsNext cells q found.0 = next_from cells q found.0 inside found.1 in
          subst (IsNext cells q) (sym (length-span_of cells q found.0 inside there next)) next
      | inr none ↦ absurd (false≢true (sym (none (n - 1) (omega arith)) ∙ ap (λ z. is_attribute (cell_at cells z)) (round_home n q inside) ∙ there))
    ]

-- the cells of the span, from the place behind the attribute on
pub span_governed : (cells : List Cell) (q i : ℕ) → q < length cells → is_attribute (cell_at cells q) ≡ true → i < length (span_of cells q)
    → governs cells q (ring_on (length cells) (ring_on (length cells) q 1) i) ≡ true
span_governed cells q i inside there few =
    let n : ℕ = length cells in
    let next : IsNext cells q (length (span_of cells q)) = next_of cells q inside there in
    ap (governs cells q) (on_on n q i inside (omega (arith, next.inside)))
    ∙ ruled_by cells q (length (span_of cells q)) (i + 1) inside there next (omega arith) (omega arith)

pub governed_character : (cells : List Cell) (q p : ℕ) → governs cells q p ≡ true → is_attribute (cell_at cells p) ≡ false
governed_character cells q p is = not-true _ ((and_parts (is_character (cell_at cells p)) (is_at (attribute_before cells p) q) is).0)

pub governed_open : (cells : List Cell) (q p : ℕ) → governs cells q p ≡ true → is_protected (bits_of (cell_at cells q)) ≡ false → is_open cells p ≡ true
governed_open cells q p is opens =
    let parts = and_parts (is_character (cell_at cells p)) (is_at (attribute_before cells p) q) is in
    open_from_parts cells p parts.0 (ap (λ o. is_protected (bits_at cells o)) (found_at (attribute_before cells p) q parts.1) ∙ opens)

-- ---- a typed character
abbrev pub typed : Picture → ℕ → Picture
typed v code = record v { cells = ruled (length v.cells) (typed_cell v.cells v.cursor code); cursor = settled v.cells (ring_on (length v.cells) v.cursor 1) }

pub type_step : (v : Picture) (code : ℕ) → v.lock ≡ Free → is_open v.cells v.cursor ≡ true → is_graphic code ≡ true → step_of v (Typed code) ≡ step (typed v code) Done
unfolding step_of free_step typed_step
type_step v code free opens graphic =
    ap (λ l. step_under l v (Typed code)) free ∙ cond-true (is_graphic code) _ _ graphic ∙ cond-true (is_open v.cells v.cursor) _ _ opens

pub typed_keeps : (v : Picture) (code : ℕ) → v.lock ≡ Free → is_open v.cells v.cursor ≡ true → is_graphic code ≡ true → Keeps v.cells (typed v code).cells
typed_keeps v code free opens graphic =
    let is : step_of v (Typed code) ≡ step (typed v code) Done = type_step v code free opens graphic in
    subst (λ (s : Step). Keeps v.cells s.after.cells) is (quiet_key_keeps v (Typed code) (ap (λ (s : Step). is_sent s.pressed) is))

pub typed_here : (v : Picture) (code : ℕ) → v.cursor < length v.cells → cell_at (typed v code).cells v.cursor ≡ Char (glyph code false)
unfolding typed_cell
typed_here v code inside =
    cell_at-ruled (length v.cells) (typed_cell v.cells v.cursor code) v.cursor inside ∙ cond-true (eqb v.cursor v.cursor) _ _ (eq-eqb v.cursor v.cursor refl)

pub typed_elsewhere : (v : Picture) (code p : ℕ) → p < length v.cells → p ≢ v.cursor → is_attribute (cell_at v.cells p) ≡ false
    → cell_at (typed v code).cells p ≡ cell_at v.cells p
unfolding typed_cell
typed_elsewhere v code p inside apart character =
    cell_at-ruled (length v.cells) (typed_cell v.cells v.cursor code) p inside ∙ cond-false (eqb p v.cursor) _ _ (ne_eqb p v.cursor apart)
    ∙ marked_character v.cells v.cursor p character

or_first : (a b : Bool) → a ≡ true → (a || b) ≡ true
or_first true b is = refl
or_first false b is = absurd cc

pub typed_modified : (v : Picture) (code q : ℕ) → v.lock ≡ Free → is_open v.cells v.cursor ≡ true → is_graphic code ≡ true
    → is_attribute (cell_at v.cells q) ≡ true → governs v.cells q v.cursor ≡ true → is_modified (bits_of (cell_at (typed v code).cells q)) ≡ true
typed_modified v code q free opens graphic there rules =
    let is : step_of v (Typed code) ≡ step (typed v code) Done = type_step v code free opens graphic in
    let accepted : is_accepted (answer_of v (Typed code)) ≡ true = ap (λ (s : Step). is_accepted s.pressed) is in
    sym (ap (λ (s : Step). is_modified (bits_of (cell_at s.after.cells q))) is)
    ∙ key_marks v (Typed code) q there (ap (λ (s : Step). is_sent s.pressed) is)
    ∙ or_first _ _ (ap (λ t. t && governs v.cells q v.cursor) accepted ∙ rules)

pub settles_next : (cells : List Cell) (p : ℕ) → p < length cells → is_attribute (cell_at cells p) ≡ false → settled cells p ≡ p
settles_next cells p inside character =
    stop_found cells p 0 p (omega arith) (sym (on-zero (length cells) p inside)) (λ d below. absurd (omega arith)) (stops (cell_at cells p) character)
    ∙ stops_there cells p (ap not character)
  where
    stops : (x : Cell) → is_attribute x ≡ false → stops_cursor x ≡ true
    stops (Field bits) e = absurd cc
    stops (Char c) e = refl
