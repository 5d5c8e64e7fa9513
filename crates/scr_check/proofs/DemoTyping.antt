-- One character typed over and over fills a field, cell after cell.
use Rattle.std.proofs.Common.{◌≡◌, ◌≢◌, ℕ, zero, suc, ◌+◌, ◌<◌, ◌≤◌, true, false, List, length, replicate, refl, sym, ◌∙◌, ap, subst, arith, inl, inr}
use Rattle.std.proofs.lemmas.Bool.{cases_eq}
use Rattle.ds_codec.specs.declared.cell.Cell.{Cell}
use Rattle.ds_codec.specs.declared.cell.Cell.TheVariants.{Char}
use Rattle.ds_codec.specs.Attribute.{is_protected, is_modified}
use Rattle.ds_codec.specs.Character.{glyph, is_graphic}
use Rattle.ds_screen.specs.declared.lock.Lock.TheVariants.{Free}
use Rattle.ds_screen.specs.Ring.{ring_on, ring_distance}
use Rattle.ds_screen.specs.Picture.{Picture, cell_at}
use Rattle.ds_screen.specs.Fields.{is_attribute, bits_of, governs, is_open, span_of}
use Rattle.ds_screen.proofs.RingLaws.{on-zero, on_more, on_lt}
use Rattle.ds_screen.proofs.RuledLaws.{distance_on}
use Rattle.ds_keys.specs.declared.key.Key.TheVariants.{Typed}
use Rattle.ds_keys.specs.Moves.{settled}
use Rattle.ds_keys.specs.Laws.{Keeps}
use Rattle.ds_keys.proofs.CellLaws.{keeps_same, keeps_on, same_kind, same_open, same_governs}
use Rattle.scr_check.proofs.DemoKeys.{Runs, runs_none, runs_more, next_of, span_governed, governed_character, governed_open, typed, type_step, typed_keeps, typed_here, typed_elsewhere, typed_modified, settles_next}

-- places of the ring that are apart
places_apart : (n b i k : ℕ) → b < n → i < n → k < n → i ≢ k → ring_on n b i ≢ ring_on n b k
places_apart n b i k inside few small apart same =
    apart (sym (distance_on n b i inside few) ∙ ap (ring_distance n b) same ∙ distance_on n b k inside small)

-- an unprotected attribute of the buffer
pub record IsInput (cells : List Cell) (q : ℕ) : Type 0 where
  pub inside : q < length cells
  pub there : is_attribute (cell_at cells q) ≡ true
  pub opens : is_protected (bits_of (cell_at cells q)) ≡ false

abbrev pub place_of : List Cell → ℕ → ℕ
place_of cells q = ring_on (length cells) q 1

abbrev pub nth_of : List Cell → ℕ → ℕ → ℕ
nth_of cells q i = ring_on (length cells) (place_of cells q) i

pub place_lt : (cells : List Cell) (q : ℕ) → q < length cells → place_of cells q < length cells
place_lt cells q inside = on_lt (length cells) q 1 inside (omega arith)

pub few_cells : (cells : List Cell) (q : ℕ) → IsInput cells q → length (span_of cells q) < length cells
few_cells cells q input = (next_of cells q input.inside input.there).inside

pub nth_lt : (cells : List Cell) (q i : ℕ) → IsInput cells q → i < length (span_of cells q) → nth_of cells q i < length cells
nth_lt cells q i input few = on_lt (length cells) (place_of cells q) i (place_lt cells q input.inside) (omega (arith, few_cells cells q input))

pub nth_apart : (cells : List Cell) (q i k : ℕ) → IsInput cells q → i < length (span_of cells q) → k < length (span_of cells q) → i ≢ k → nth_of cells q i ≢ nth_of cells q k
nth_apart cells q i k input few small apart =
    places_apart (length cells) (place_of cells q) i k (place_lt cells q input.inside) (omega (arith, few_cells cells q input)) (omega (arith, few_cells cells q input)) apart

-- what holds after the code was typed k times from the field's first cell on
pub record IsTyped (cells : List Cell) (q code k : ℕ) (w : Picture) : Type 0 where
  pub free : w.lock ≡ Free
  pub keeps : Keeps cells w.cells
  pub filled : (i : ℕ) → i < k → cell_at w.cells (nth_of cells q i) ≡ Char (glyph code false)
  pub others : (i : ℕ) → k ≤ i → i < length (span_of cells q) → cell_at w.cells (nth_of cells q i) ≡ cell_at cells (nth_of cells q i)
  pub cursor : k < length (span_of cells q) → w.cursor ≡ nth_of cells q k
  pub modified : 0 < k → is_modified (bits_of (cell_at w.cells q)) ≡ true

-- before the first one
pub typed_none : (v : Picture) (q code : ℕ) → v.lock ≡ Free → IsInput v.cells q → IsTyped v.cells q code 0 (record v { cursor = place_of v.cells q })
typed_none v q code free input =
    record {
      free = free;
      keeps = keeps_same v.cells;
      filled = λ i few. absurd (omega arith);
      others = λ i from few. refl;
      cursor = λ few. sym (on-zero (length v.cells) (place_of v.cells q) (place_lt v.cells q input.inside));
      modified = λ some. absurd (omega arith);
    }

-- what the cursor stands on
record IsReady (cells : List Cell) (q k : ℕ) (w : Picture) : Type 0 where
  at : w.cursor ≡ nth_of cells q k
  len : length w.cells ≡ length cells
  inside : w.cursor < length w.cells
  opens : is_open w.cells w.cursor ≡ true
  rules : governs w.cells q w.cursor ≡ true
  there : is_attribute (cell_at w.cells q) ≡ true

ready : (cells : List Cell) (q code k : ℕ) (w : Picture) → IsInput cells q → IsTyped cells q code k w → k < length (span_of cells q) → IsReady cells q k w
ready cells q code k w input is few =
    let p : ℕ = nth_of cells q k in
    let at : w.cursor ≡ p = is.cursor few in
    let rules : governs cells q p ≡ true = span_governed cells q k input.inside input.there few in
    let lt : p < length w.cells = let P : ℕ → Type 0 = λ n. p < n in subst P (sym is.keeps.whole) (nth_lt cells q k input few) in
    record {
      at = at;
      len = is.keeps.whole;
      inside = let P : ℕ → Type 0 = λ c. c < length w.cells in subst P (sym at) lt;
      opens = ap (is_open w.cells) at ∙ same_open cells w.cells p is.keeps ∙ governed_open cells q p rules input.opens;
      rules = ap (governs w.cells q) at ∙ same_governs cells w.cells q p is.keeps ∙ rules;
      there = same_kind cells w.cells q is.keeps ∙ input.there;
    }

kept_character : (cells : List Cell) (q i : ℕ) (w : Picture) → IsInput cells q → Keeps cells w.cells → i < length (span_of cells q)
    → is_attribute (cell_at w.cells (nth_of cells q i)) ≡ false
kept_character cells q i w input keeps few =
    same_kind cells w.cells (nth_of cells q i) keeps ∙ governed_character cells q (nth_of cells q i) (span_governed cells q i input.inside input.there few)

-- the cells of the field that are not typed over
typed_other : (cells : List Cell) (q code k i : ℕ) (w : Picture) → IsInput cells q → IsTyped cells q code k w → k < length (span_of cells q) → i < length (span_of cells q) → i ≢ k
    → cell_at (typed w code).cells (nth_of cells q i) ≡ cell_at w.cells (nth_of cells q i)
typed_other cells q code k i w input is few small apart =
    let here : IsReady cells q k w = ready cells q code k w input is few in
    let lt : nth_of cells q i < length w.cells = let P : ℕ → Type 0 = λ n. nth_of cells q i < n in subst P (sym here.len) (nth_lt cells q i input small) in
    typed_elsewhere w code (nth_of cells q i) lt (λ same. nth_apart cells q i k input small few apart (same ∙ here.at)) (kept_character cells q i w input is.keeps small)

typed_filled : (cells : List Cell) (q code k i : ℕ) (w : Picture) → IsInput cells q → IsTyped cells q code k w → k < length (span_of cells q) → i < k + 1
    → cell_at (typed w code).cells (nth_of cells q i) ≡ Char (glyph code false)
typed_filled cells q code k i w input is few below =
    let here : IsReady cells q k w = ready cells q code k w input is few in
    elim (cases_eq i k) [
      | inl same ↦ ap (λ j. cell_at (typed w code).cells (nth_of cells q j)) same ∙ ap (cell_at (typed w code).cells) (sym here.at) ∙ typed_here w code here.inside
      | inr apart ↦ typed_other cells q code k i w input is few (omega arith) apart ∙ is.filled i (omega arith)
    ]

typed_cursor : (cells : List Cell) (q code k : ℕ) (w : Picture) → IsInput cells q → IsTyped cells q code k w → k + 1 < length (span_of cells q)
    → (typed w code).cursor ≡ nth_of cells q (k + 1)
typed_cursor cells q code k w input is few =
    let here : IsReady cells q k w = ready cells q code k w input is (omega arith) in
    let goes : ring_on (length w.cells) w.cursor 1 ≡ nth_of cells q (k + 1) =
    ap (λ n. ring_on n w.cursor 1) here.len ∙ ap (λ c. ring_on (length cells) c 1) here.at
    ∙ on_more (length cells) (place_of cells q) k (place_lt cells q input.inside) (omega (arith, few_cells cells q input)) in
    let lt : nth_of cells q (k + 1) < length w.cells = let P : ℕ → Type 0 = λ n. nth_of cells q (k + 1) < n in subst P (sym here.len) (nth_lt cells q (k + 1) input few) in
    ap (settled w.cells) goes ∙ settles_next w.cells (nth_of cells q (k + 1)) lt (kept_character cells q (k + 1) w input is.keeps few)

typed_more : (cells : List Cell) (q code k : ℕ) (w : Picture) → IsInput cells q → is_graphic code ≡ true → IsTyped cells q code k w → k < length (span_of cells q)
    → IsTyped cells q code (k + 1) (typed w code)
typed_more cells q code k w input graphic is few =
    let here : IsReady cells q k w = ready cells q code k w input is few in
    record {
      free = is.free;
      keeps = keeps_on cells w.cells (typed w code).cells is.keeps (typed_keeps w code is.free here.opens graphic);
      filled = λ i below. typed_filled cells q code k i w input is few below;
      others = λ i from small. typed_other cells q code k i w input is few small (λ same. omega arith) ∙ is.others i (omega arith) small;
      cursor = λ more. typed_cursor cells q code k w input is more;
      modified = λ some. typed_modified w code q is.free here.opens graphic here.there here.rules;
    }

-- a picture that so many more typings lead to
pub record TypesTo (cells : List Cell) (q code k m : ℕ) (w : Picture) : Type 0 where
  pub last : Picture
  pub runs : Runs w (replicate m (Typed code)) last
  pub is : IsTyped cells q code (k + m) last

types_more : (cells : List Cell) (q code k m : ℕ) (w : Picture) → IsInput cells q → is_graphic code ≡ true → IsTyped cells q code k w → k < length (span_of cells q)
    → TypesTo cells q code (k + 1) m (typed w code) → TypesTo cells q code k (suc m) w
types_more cells q code k m w input graphic is few later =
    let here : IsReady cells q k w = ready cells q code k w input is few in
    let count : k + 1 + m ≡ k + suc m = omega arith in
    record {
      last = later.last;
      runs = runs_more w (typed w code) later.last (Typed code) (replicate m (Typed code)) (type_step w code is.free here.opens graphic) later.runs;
      is = subst (λ j. IsTyped cells q code j later.last) count later.is;
    }

pub types_run : (m : ℕ) (cells : List Cell) (q code k : ℕ) (w : Picture) → IsInput cells q → is_graphic code ≡ true → IsTyped cells q code k w → k + m ≤ length (span_of cells q)
    → TypesTo cells q code k m w
types_run zero cells q code k w input graphic is few =
    let count : k ≡ k + zero = omega arith in
    record { last = w; runs = runs_none w; is = subst (λ j. IsTyped cells q code j w) count is }
types_run (suc m) cells q code k w input graphic is few =
    types_more cells q code k m w input graphic is (omega arith)
    (types_run m cells q code (k + 1) (typed w code) input graphic (typed_more cells q code k w input graphic is (omega arith)) (omega arith))
