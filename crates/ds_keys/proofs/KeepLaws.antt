-- The keep law, key by key and along keys.
use Rattle.std.proofs.Common.{◌≡◌, ℕ, zero, suc, ◌+◌, ◌-◌, ◌<◌, ◌≤◌, ◌&&◌, true, false, not, ◌==◌, eqb, ltb, leb, List, [], ◌∷◌, length, Option, Some, None, refl, sym, ◌∙◌, ap, subst, arith, inl, inr}
use Rattle.std.specs.Option.{unwrap_or}
use Rattle.std.proofs.lemmas.Bool.{cond-true, cond-false, cond_both, cases_eq, cases_Bool, false≢true, not-true, and_parts, eqb-true, eq-eqb, ne_eqb, leb-true, ltb-true}
use Rattle.ds_codec.specs.declared.cell.Cell.{Cell}
use Rattle.ds_codec.specs.declared.cell.Cell.TheVariants.{Char}
use Rattle.ds_codec.specs.Attribute.{is_protected}
use Rattle.ds_codec.specs.Character.{glyph, is_graphic}
use Rattle.ds_screen.specs.declared.lock.Lock.{Lock}
use Rattle.ds_screen.specs.declared.lock.Lock.TheVariants.{Free, Waiting, Error}
use Rattle.ds_screen.specs.Ring.{ring_back, ring_distance}
use Rattle.ds_screen.specs.Picture.{Picture, blank, cell_at}
use Rattle.ds_screen.specs.Fields.{is_attribute, is_character, attribute_before, is_at, bits_at, governs, is_open}
use Rattle.ds_screen.specs.Records.{unprotected_unmodified, erased, cleared_cell}
use Rattle.ds_screen.proofs.RingLaws.{IsFound, search_cases, least_found, least_none, back_cases, distance_cases, back_inside}
use Rattle.ds_screen.proofs.RuledLaws.{distance_lt}
use Rattle.ds_screen.proofs.FieldLaws.{before_found, before_none, before_back}
use Rattle.ds_keys.specs.declared.key.Key.{Key}
use Rattle.ds_keys.specs.declared.key.Key.TheVariants.{Typed, Left, Right, Up, Down, Tab, BackTab, NewLine, Home, EraseEof, EraseInput, Delete, Reset, Attention}
use Rattle.ds_keys.specs.Moves.{row_end}
use Rattle.ds_keys.specs.KeyStep.{Step, is_sending, sent, marked_cell, typed_cell, is_in_rest, end_erased_cell, run_end, deleted_cell, typed_step, erase_eof_step, delete_step, erase_input_step, attention_step, free_step, error_step, step_under, step_of}
use Rattle.ds_keys.specs.KeyRuns.{after_key, answer_of, after, is_sent, is_quiet}
use Rattle.ds_keys.specs.Kept.{moved_back, AreCharacters}
use Rattle.ds_keys.specs.Laws.{Keeps, is_clear, KeyKeeps, QuietKeysKeep}
use Rattle.ds_keys.proofs.CellLaws.{CellKeeps, open_parts, open_from_parts, found_at, marked_keeps, character_keeps, rule_keeps, keeps_same, keeps_on, reset_twice}

-- ---- the run that Delete moves
run_found : (cells : List Cell) (cols c k : ℕ) → IsFound (row_end cols c - c) (λ d. is_attribute (cell_at cells (c + d))) k → run_end cells cols c ≡ c + k
unfolding run_end
run_found cells cols c k found =
    ap (λ o. c + unwrap_or o (row_end cols c - c)) (least_found (row_end cols c - c) (λ d. is_attribute (cell_at cells (c + d))) k found)

run_none : (cells : List Cell) (cols c : ℕ) → ((d : ℕ) → d < row_end cols c - c → is_attribute (cell_at cells (c + d)) ≡ false) → run_end cells cols c ≡ c + (row_end cols c - c)
unfolding run_end
run_none cells cols c none =
    ap (λ o. c + unwrap_or o (row_end cols c - c)) (least_none (row_end cols c - c) (λ d. is_attribute (cell_at cells (c + d))) none)

pub run_characters : (cells : List Cell) (cols c : ℕ) → AreCharacters cells c (run_end cells cols c)
run_characters cells cols c p from below =
    let there : c + (p - c) ≡ p = omega arith in
    elim (search_cases (row_end cols c - c) (λ d. is_attribute (cell_at cells (c + d)))) [
      | inl found ↦ ap (λ z. is_attribute (cell_at cells z)) (sym there) ∙ found.1.misses (p - c) (omega (arith, run_found cells cols c found.0 found.1))
      | inr none ↦ ap (λ z. is_attribute (cell_at cells z)) (sym there) ∙ none (p - c) (omega (arith, run_none cells cols c none))
    ]

run_before : (cells : List Cell) (c k : ℕ) → c + k < length cells → ((i : ℕ) → i ≤ k → is_attribute (cell_at cells (c + i)) ≡ false)
    → attribute_before cells (c + k) ≡ attribute_before cells c
run_before cells c zero inside characters = let here : c + zero ≡ c = omega arith in ap (attribute_before cells) here
run_before cells c (suc k) inside characters =
    let last : ring_back (length cells) (c + suc k) 1 ≡ c + k =
    back_inside (length cells) (c + suc k) 1 (omega arith) ∙ (let e : c + suc k - 1 ≡ c + k = omega arith in e) in
    before_back cells (c + suc k) inside (characters (suc k) (omega arith)) ∙ ap (attribute_before cells) last
    ∙ run_before cells c k (omega arith) (λ i few. characters i (omega arith))

-- each position of the run is open, as the cursor's is
run_open : (cells : List Cell) (cols c p : ℕ) → p < length cells → is_open cells c ≡ true → c ≤ p → p < run_end cells cols c → is_open cells p ≡ true
run_open cells cols c p lt opens from below =
    let there : c + (p - c) ≡ p = omega arith in
    let same : attribute_before cells p ≡ attribute_before cells c =
    ap (attribute_before cells) (sym there)
    ∙ run_before cells c (p - c) (omega arith) (λ i few. run_characters cells cols c (c + i) (omega arith) (omega arith)) in
    open_from_parts cells p (ap not (run_characters cells cols c p from below)) (ap (λ o. is_protected (bits_at cells o)) same ∙ (open_parts cells c opens).1)

moved_character : (cells : List Cell) (c end p : ℕ) → AreCharacters cells c end → c ≤ p → p < end → is_character (moved_back cells end p) ≡ true
moved_character cells c end p characters from below =
    elim (cases_eq (p + 1) end) [
      | inl last ↦ ap is_character (cond-true (eqb (p + 1) end) blank (cell_at cells (p + 1)) (eq-eqb (p + 1) end last))
      | inr more ↦ ap is_character (cond-false (eqb (p + 1) end) blank (cell_at cells (p + 1)) (ne_eqb (p + 1) end more)) ∙ ap not (characters (p + 1) (omega arith) (omega arith))
    ]

-- ---- the rest of a field
back_distance : (n p r : ℕ) → p < n → r < n → ring_back n p (ring_distance n r p) ≡ r
back_distance n p r inside lt =
    elim (distance_cases n r p) [
      | inl d ↦ elim (back_cases n p (ring_distance n r p)) [ inl a ↦ omega arith | inr a ↦ omega arith ]
      | inr d ↦ elim (back_cases n p (ring_distance n r p)) [ inl a ↦ omega arith | inr a ↦ omega arith ]
    ]

pub no_attribute : (cells : List Cell) (c : ℕ) → c < length cells → attribute_before cells c ≡ None → (r : ℕ) → r < length cells → is_attribute (cell_at cells r) ≡ false
no_attribute cells c inside nothing r lt =
    let n : ℕ = length cells in
    elim (search_cases n (λ d. is_attribute (cell_at cells (ring_back n c d)))) [
      | inl found ↦
          let both = before_found cells n c found.0 (ring_back n c found.0) refl found.1.inside refl found.1.misses found.1.hit ∙ nothing in
          absurd (some_none _ both)
      | inr none ↦
          ap (λ z. is_attribute (cell_at cells z)) (sym (back_distance n c r inside lt)) ∙ none (ring_distance n r c) (distance_lt n r c lt inside)
    ]
  where
    some_none : (q : ℕ) → Some q ≡ None → ⊥
    some_none q e = cc

back_lt : (n p d : ℕ) → p < n → d < n → ring_back n p d < n
back_lt n p d inside few = elim (back_cases n p d) [ inl a ↦ omega arith | inr a ↦ omega arith ]

rest_open_by : (cells : List Cell) (c p : ℕ) (o : Option ℕ) → attribute_before cells c ≡ o → p < length cells → is_open cells c ≡ true → is_in_rest cells c o p ≡ true → is_open cells p ≡ true
rest_open_by cells c p None nothing lt opens is =
    let from : c ≤ p = leb-true c p is in
    let inside : c < length cells = omega arith in
    let none = no_attribute cells c inside nothing in
    let before : None ≡ attribute_before cells p = before_none cells (length cells) p refl (λ e few. none (ring_back (length cells) p e) (back_lt (length cells) p e lt few)) in
    open_from_parts cells p (ap not (none p lt)) (ap (λ o. is_protected (bits_at cells o)) (sym before))
rest_open_by cells c p (Some q) found lt opens is =
    let parts = and_parts (governs cells q p) (leb (ring_distance (length cells) q c) (ring_distance (length cells) q p)) is in
    let rules = and_parts (is_character (cell_at cells p)) (is_at (attribute_before cells p) q) parts.0 in
    open_from_parts cells p rules.0
    (ap (λ o. is_protected (bits_at cells o)) (found_at (attribute_before cells p) q rules.1 ∙ sym found) ∙ (open_parts cells c opens).1)

pub rest_open : (cells : List Cell) (c p : ℕ) → p < length cells → is_open cells c ≡ true → is_in_rest cells c (attribute_before cells c) p ≡ true → is_open cells p ≡ true
rest_open cells c p lt opens is = rest_open_by cells c p (attribute_before cells c) refl lt opens is

-- ---- each rule keeps each cell
typed_each : (cells : List Cell) (c code p : ℕ) → is_open cells c ≡ true → CellKeeps (is_open cells p) (cell_at cells p) (typed_cell cells c code p)
unfolding typed_cell
typed_each cells c code p opens =
    cond_both (eqb p c) (Char (glyph code false)) (marked_cell cells c p) (λ x. CellKeeps (is_open cells p) (cell_at cells p) x)
    (λ here. character_keeps (is_open cells p) (cell_at cells p) (Char (glyph code false)) (ap (is_open cells) (eqb-true p c here) ∙ opens) refl)
    (λ apart. marked_keeps cells c p opens)

erased_each : (cells : List Cell) (c p : ℕ) → p < length cells → is_open cells c ≡ true → CellKeeps (is_open cells p) (cell_at cells p) (end_erased_cell cells c p)
unfolding end_erased_cell
erased_each cells c p lt opens =
    cond_both (is_in_rest cells c (attribute_before cells c) p) blank (marked_cell cells c p) (λ x. CellKeeps (is_open cells p) (cell_at cells p) x)
    (λ rest. character_keeps (is_open cells p) (cell_at cells p) blank (rest_open cells c p lt opens rest) refl)
    (λ apart. marked_keeps cells c p opens)

deleted_each : (cells : List Cell) (cols c p : ℕ) → p < length cells → is_open cells c ≡ true
    → CellKeeps (is_open cells p) (cell_at cells p) (deleted_cell cells (run_end cells cols c) c p)
unfolding deleted_cell
deleted_each cells cols c p lt opens =
    let end : ℕ = run_end cells cols c in
    cond_both (leb c p && ltb p end) (moved_back cells end p) (marked_cell cells c p) (λ x. CellKeeps (is_open cells p) (cell_at cells p) x)
    (λ within.
    let parts = and_parts (leb c p) (ltb p end) within in
    let from : c ≤ p = leb-true c p parts.0 in
    let below : p < end = ltb-true p end parts.1 in
    character_keeps (is_open cells p) (cell_at cells p) (moved_back cells end p) (run_open cells cols c p lt opens from below)
    (moved_character cells c end p (run_characters cells cols c) from below))
    (λ apart. marked_keeps cells c p opens)

cleared_each : (cells : List Cell) (p : ℕ) → CellKeeps (is_open cells p) (cell_at cells p) (cleared_cell cells p)
unfolding cleared_cell
cleared_each cells p =
    cond_both (is_open cells p) blank (unprotected_unmodified (cell_at cells p)) (λ x. CellKeeps (is_open cells p) (cell_at cells p) x)
    (λ opens. character_keeps (is_open cells p) (cell_at cells p) blank opens refl)
    (λ shut. record { closed = λ closed. reset_twice (cell_at cells p); open_stays = λ opens. absurd (false≢true (sym shut ∙ opens)) })

-- ---- each key keeps the cells
abbrev KeepsStep : Picture → Step → Type 0
KeepsStep v s = Keeps v.cells s.after.cells

typed_keeps : (v : Picture) (code : ℕ) → KeepsStep v (typed_step v code)
unfolding typed_step
typed_keeps v code =
    cond_both (is_graphic code) _ _ (KeepsStep v)
    (λ is. cond_both (is_open v.cells v.cursor) _ _ (KeepsStep v)
    (λ opens. rule_keeps v.cells (typed_cell v.cells v.cursor code) (λ p lt. typed_each v.cells v.cursor code p opens))
    (λ shut. keeps_same v.cells))
    (λ none. keeps_same v.cells)

eof_keeps : (v : Picture) → KeepsStep v (erase_eof_step v)
unfolding erase_eof_step
eof_keeps v =
    cond_both (is_open v.cells v.cursor) _ _ (KeepsStep v)
    (λ opens. rule_keeps v.cells (end_erased_cell v.cells v.cursor) (λ p lt. erased_each v.cells v.cursor p lt opens))
    (λ shut. keeps_same v.cells)

delete_keeps : (v : Picture) → KeepsStep v (delete_step v)
unfolding delete_step
delete_keeps v =
    cond_both (is_open v.cells v.cursor) _ _ (KeepsStep v)
    (λ opens. rule_keeps v.cells (deleted_cell v.cells (run_end v.cells v.size.cols v.cursor) v.cursor) (λ p lt. deleted_each v.cells v.size.cols v.cursor p lt opens))
    (λ shut. keeps_same v.cells)

input_keeps : (v : Picture) → KeepsStep v (erase_input_step v)
input_keeps v = rule_keeps v.cells (cleared_cell v.cells) (λ p lt. cleared_each v.cells p)

attention_keeps : (v : Picture) (aid : ℕ) → (aid == 0x6D) ≡ false → KeepsStep v (attention_step v aid)
unfolding attention_step
attention_keeps v aid other =
    cond_both (not (is_sending aid)) _ _ (KeepsStep v)
    (λ none. keeps_same v.cells)
    (λ key. subst (KeepsStep v) (sym (cond-false (eqb aid 0x6D) (sent (erased v.geometry.default v) aid) (sent v aid) other)) (keeps_same v.cells))

attention_quiet : (v : Picture) (aid : ℕ) → is_sent (attention_step v aid).pressed ≡ false → KeepsStep v (attention_step v aid)
unfolding attention_step
attention_quiet v aid quiet =
    elim (cases_Bool (not (is_sending aid))) [
      | inl none ↦ subst (KeepsStep v) (sym (cond-true (not (is_sending aid)) _ _ none)) (keeps_same v.cells)
      | inr key ↦ elim (cases_Bool (eqb aid 0x6D)) [
        | inl clear ↦
            let is : attention_step v aid ≡ sent (erased v.geometry.default v) aid = cond-false (not (is_sending aid)) _ _ key ∙ cond-true (eqb aid 0x6D) _ _ clear in
            absurd (false≢true (sym quiet ∙ ap (λ (s : Step). is_sent s.pressed) is))
        | inr other ↦ attention_keeps v aid other
      ]
    ]

free_keeps : (v : Picture) (key : Key) → is_clear key ≡ false → KeepsStep v (free_step v key)
unfolding free_step
free_keeps v (Typed code) other = typed_keeps v code
free_keeps v Left other = keeps_same v.cells
free_keeps v Right other = keeps_same v.cells
free_keeps v Up other = keeps_same v.cells
free_keeps v Down other = keeps_same v.cells
free_keeps v Tab other = keeps_same v.cells
free_keeps v BackTab other = keeps_same v.cells
free_keeps v NewLine other = keeps_same v.cells
free_keeps v Home other = keeps_same v.cells
free_keeps v EraseEof other = eof_keeps v
free_keeps v EraseInput other = input_keeps v
free_keeps v Delete other = delete_keeps v
free_keeps v Reset other = keeps_same v.cells
free_keeps v (Attention aid) other = attention_keeps v aid other

free_quiet : (v : Picture) (key : Key) → is_sent (free_step v key).pressed ≡ false → KeepsStep v (free_step v key)
unfolding free_step
free_quiet v (Attention aid) quiet = attention_quiet v aid quiet
free_quiet v (Typed code) quiet = typed_keeps v code
free_quiet v Left quiet = keeps_same v.cells
free_quiet v Right quiet = keeps_same v.cells
free_quiet v Up quiet = keeps_same v.cells
free_quiet v Down quiet = keeps_same v.cells
free_quiet v Tab quiet = keeps_same v.cells
free_quiet v BackTab quiet = keeps_same v.cells
free_quiet v NewLine quiet = keeps_same v.cells
free_quiet v Home quiet = keeps_same v.cells
free_quiet v EraseEof quiet = eof_keeps v
free_quiet v EraseInput quiet = input_keeps v
free_quiet v Delete quiet = delete_keeps v
free_quiet v Reset quiet = keeps_same v.cells

error_keeps : (v : Picture) (key : Key) → KeepsStep v (error_step v key)
error_keeps v Reset = keeps_same v.cells
error_keeps v key = keeps_same v.cells

under_keeps : (lock : Lock) (v : Picture) (key : Key) → is_clear key ≡ false → KeepsStep v (step_under lock v key)
under_keeps Free v key other = free_keeps v key other
under_keeps Waiting v key other = keeps_same v.cells
under_keeps Error v key other = error_keeps v key

under_quiet : (lock : Lock) (v : Picture) (key : Key) → is_sent (step_under lock v key).pressed ≡ false → KeepsStep v (step_under lock v key)
under_quiet Free v key quiet = free_quiet v key quiet
under_quiet Waiting v key quiet = keeps_same v.cells
under_quiet Error v key quiet = error_keeps v key

pub key_keeps : KeyKeeps
unfolding step_of
key_keeps v key accepted other = under_keeps v.lock v key other

pub quiet_key_keeps : (v : Picture) (key : Key) → is_sent (answer_of v key) ≡ false → Keeps v.cells (after_key v key).cells
unfolding step_of
quiet_key_keeps v key quiet = under_quiet v.lock v key quiet

pub quiet_keys_keep : QuietKeysKeep
unfolding after is_quiet
quiet_keys_keep v [] quiet = keeps_same v.cells
quiet_keys_keep v (key ∷ keys) quiet =
    let parts = and_parts (not (is_sent (answer_of v key))) (is_quiet (after_key v key) keys) quiet in
    keeps_on v.cells (after_key v key).cells (after (after_key v key) keys).cells
    (quiet_key_keeps v key (not-true (is_sent (answer_of v key)) parts.0)) (quiet_keys_keep (after_key v key) keys parts.1)
