-- Buffers that a rule says.
use Rattle.std.proofs.Common.{◌≡◌, ◌≢◌, ℕ, ◌+◌, ◌-◌, ◌<◌, Bool, true, false, cond, ltb, List, length, get_or, set, refl, sym, ◌∙◌, ap, arith, inl, inr, get_or-set_same, get_or-set_other}
use Rattle.std.proofs.lemmas.Bool.{cond-true, cond-false, cases_lt, cases_eq, lt-ltb, le-ltb}
use Rattle.std.proofs.lemmas.List.{length-set}
use Rattle.std.proofs.lemmas.List.FromFn.{length-map-range_with_len, get_or-map-range_with_len, fill_by_all}
use Rattle.ds_codec.specs.declared.cell.Cell.{Cell}
use Rattle.ds_screen.specs.Ring.{ring_on, ring_back, ring_distance}
use Rattle.ds_screen.specs.Picture.{blank, cell_at, ruled}
use Rattle.ds_screen.proofs.RingLaws.{on_cases, back_cases, distance_cases, on_lt, on_more}

pub length-ruled : (n : ℕ) (rule : ℕ → Cell) → length (ruled n rule) ≡ n
unfolding ruled
length-ruled n rule = length-map-range_with_len rule 0 n

pub cell_at-ruled : (n : ℕ) (rule : ℕ → Cell) (p : ℕ) → p < n → cell_at (ruled n rule) p ≡ rule p
unfolding ruled
cell_at-ruled n rule p lt = get_or-map-range_with_len rule 0 n p p blank lt (omega arith)

-- a buffer is what its cells say
pub as_ruled : (cells : List Cell) (n : ℕ) (rule : ℕ → Cell) → length cells ≡ n → ((p : ℕ) → p < n → cell_at cells p ≡ rule p) → cells ≡ ruled n rule
unfolding ruled
as_ruled cells n rule len same = fill_by_all rule cells n blank len same

pub ruled_same : (n : ℕ) (rule other : ℕ → Cell) → ((p : ℕ) → p < n → rule p ≡ other p) → ruled n rule ≡ ruled n other
ruled_same n rule other same = as_ruled (ruled n rule) n other (length-ruled n rule) (λ p lt. cell_at-ruled n rule p lt ∙ same p lt)

-- one cell is written
pub set-ruled : (n : ℕ) (rule other : ℕ → Cell) (q : ℕ) (c : Cell) → q < n → other q ≡ c → ((p : ℕ) → p < n → p ≢ q → other p ≡ rule p)
    → set (ruled n rule) q c ≡ ruled n other
set-ruled n rule other q c lt here elsewhere =
    let inside : q < length (ruled n rule) = rw (length-ruled n rule) lt in
    as_ruled (set (ruled n rule) q c) n other (length-set (ruled n rule) q c ∙ length-ruled n rule)
    (λ p below. elim (cases_eq p q) [
      | inl same ↦ ap (λ k. get_or (set (ruled n rule) q c) k blank) same ∙ get_or-set_same (ruled n rule) q c blank inside ∙ sym here ∙ ap other (sym same)
      | inr apart ↦ get_or-set_other (ruled n rule) q p c blank apart ∙ cell_at-ruled n rule p below ∙ sym (elsewhere p below apart)
    ])

-- a walk from b on: k positions hold what f says, the others what they held
abbrev pub walked_cell : List Cell → ℕ → ℕ → (ℕ → Cell) → ℕ → Cell
walked_cell cells b k f p = cond (ltb (ring_distance (length cells) b p) k) (f p) (cell_at cells p)

pub walk_none : (cells : List Cell) (b : ℕ) (f : ℕ → Cell) → cells ≡ ruled (length cells) (walked_cell cells b 0 f)
walk_none cells b f = as_ruled cells (length cells) _ refl (λ p lt. sym (cond-false (ltb (ring_distance (length cells) b p) 0) _ _ (le-ltb _ _ (omega arith))))

-- the position that the walk stands at is k steps from b, and no other is
pub distance_on : (n b k : ℕ) → b < n → k < n → ring_distance n b (ring_on n b k) ≡ k
distance_on n b k inside few =
    elim (on_cases n b k) [
      | inl a ↦ elim (distance_cases n b (ring_on n b k)) [ inl d ↦ omega arith | inr d ↦ omega arith ]
      | inr a ↦ elim (distance_cases n b (ring_on n b k)) [ inl d ↦ omega arith | inr d ↦ omega arith ]
    ]

pub on_distance : (n b p : ℕ) → b < n → p < n → ring_on n b (ring_distance n b p) ≡ p
on_distance n b p inside lt =
    elim (distance_cases n b p) [
      | inl d ↦ elim (on_cases n b (ring_distance n b p)) [ inl a ↦ omega arith | inr a ↦ omega arith ]
      | inr d ↦ elim (on_cases n b (ring_distance n b p)) [ inl a ↦ omega arith | inr a ↦ omega arith ]
    ]

apart_distance : (n b k p : ℕ) → b < n → p < n → p ≢ ring_on n b k → ring_distance n b p ≢ k
apart_distance n b k p inside lt apart same = apart (sym (on_distance n b p inside lt) ∙ ap (ring_on n b) same)

ltb_more : (d k : ℕ) → d ≢ k → ltb d (k + 1) ≡ ltb d k
ltb_more d k apart =
    elim (cases_lt d k) [
      | inl below ↦ lt-ltb d (k + 1) (omega arith) ∙ sym (lt-ltb d k below)
      | inr above ↦ le-ltb d (k + 1) (omega arith) ∙ sym (le-ltb d k above)
    ]

-- what the walk reads is what was there at first
pub walk_reads : (cells : List Cell) (b k : ℕ) (f : ℕ → Cell) → b < length cells → k < length cells
    → cell_at (ruled (length cells) (walked_cell cells b k f)) (ring_on (length cells) b k) ≡ cell_at cells (ring_on (length cells) b k)
walk_reads cells b k f inside few =
    let n : ℕ = length cells in
    let at : ℕ = ring_on n b k in
    cell_at-ruled n (walked_cell cells b k f) at (on_lt n b k inside (omega arith))
    ∙ cond-false (ltb (ring_distance n b at) k) _ _ (le-ltb _ _ (omega (arith, distance_on n b k inside few)))

walk_here : (cells : List Cell) (b k : ℕ) (f : ℕ → Cell) → b < length cells → k < length cells
    → walked_cell cells b (k + 1) f (ring_on (length cells) b k) ≡ f (ring_on (length cells) b k)
walk_here cells b k f inside few =
    cond-true (ltb (ring_distance (length cells) b (ring_on (length cells) b k)) (k + 1)) _ _
    (lt-ltb _ _ (omega (arith, distance_on (length cells) b k inside few)))

walk_elsewhere : (cells : List Cell) (b k : ℕ) (f : ℕ → Cell) (p : ℕ) → b < length cells → p < length cells → p ≢ ring_on (length cells) b k
    → walked_cell cells b (k + 1) f p ≡ walked_cell cells b k f p
walk_elsewhere cells b k f p inside lt apart =
    ap (λ t. cond t (f p) (cell_at cells p)) (ltb_more _ k (apart_distance (length cells) b k p inside lt apart))

-- the walk writes at its place, or leaves what is right already
pub walk_writes : (cells : List Cell) (b k : ℕ) (f : ℕ → Cell) → b < length cells → k < length cells
    → set (ruled (length cells) (walked_cell cells b k f)) (ring_on (length cells) b k) (f (ring_on (length cells) b k))
    ≡ ruled (length cells) (walked_cell cells b (k + 1) f)
walk_writes cells b k f inside few =
    set-ruled (length cells) (walked_cell cells b k f) (walked_cell cells b (k + 1) f) (ring_on (length cells) b k) (f (ring_on (length cells) b k))
    (on_lt (length cells) b k inside (omega arith)) (walk_here cells b k f inside few)
    (λ p lt apart. walk_elsewhere cells b k f p inside lt apart)

pub walk_skips : (cells : List Cell) (b k : ℕ) (f : ℕ → Cell) → b < length cells → k < length cells
    → f (ring_on (length cells) b k) ≡ cell_at cells (ring_on (length cells) b k)
    → ruled (length cells) (walked_cell cells b k f) ≡ ruled (length cells) (walked_cell cells b (k + 1) f)
walk_skips cells b k f inside few right =
    let n : ℕ = length cells in
    let at : ℕ = ring_on n b k in
    ruled_same n (walked_cell cells b k f) (walked_cell cells b (k + 1) f)
    (λ p lt. elim (cases_eq p at) [
      | inl same ↦
          ap (walked_cell cells b k f) same
          ∙ cond-false (ltb (ring_distance n b at) k) _ _ (le-ltb _ _ (omega (arith, distance_on n b k inside few)))
          ∙ sym right ∙ sym (walk_here cells b k f inside few) ∙ ap (walked_cell cells b (k + 1) f) (sym same)
      | inr apart ↦ sym (walk_elsewhere cells b k f p inside lt apart)
    ])

-- one step of a walk that writes x where a test says so, and else leaves what was there
pub walk_step : (cells : List Cell) (b k at : ℕ) (f : ℕ → Cell) (test : Bool) (x : Cell) (now after : List Cell)
    → b < length cells → k < length cells → at ≡ ring_on (length cells) b k → now ≡ ruled (length cells) (walked_cell cells b k f)
    → f at ≡ cond test x (cell_at cells at) → after ≡ cond test (set now at x) now → after ≡ ruled (length cells) (walked_cell cells b (k + 1) f)
walk_step cells b k at f true x now after inside few here stored says writes =
    writes ∙ ap (λ xs. set xs at x) stored ∙ ap (λ y. set (ruled (length cells) (walked_cell cells b k f)) at y) (sym says)
    ∙ ap (λ q. set (ruled (length cells) (walked_cell cells b k f)) q (f q)) here ∙ walk_writes cells b k f inside few
walk_step cells b k at f false x now after inside few here stored says writes =
    writes ∙ stored ∙ walk_skips cells b k f inside few (ap f (sym here) ∙ says ∙ ap (cell_at cells) here)

-- what the walk reads where it stands
pub walk_sees : (cells : List Cell) (b k at : ℕ) (f : ℕ → Cell) (now : List Cell) → b < length cells → k < length cells → at ≡ ring_on (length cells) b k
    → now ≡ ruled (length cells) (walked_cell cells b k f) → cell_at now at ≡ cell_at cells at
walk_sees cells b k at f now inside few here stored =
    ap (λ xs. cell_at xs at) stored ∙ ap (cell_at (ruled (length cells) (walked_cell cells b k f))) here
    ∙ walk_reads cells b k f inside few ∙ ap (cell_at cells) (sym here)

pub length_walked : (cells : List Cell) (b k : ℕ) (f : ℕ → Cell) (now : List Cell) → now ≡ ruled (length cells) (walked_cell cells b k f) → length now ≡ length cells
length_walked cells b k f now stored = ap length stored ∙ length-ruled (length cells) (walked_cell cells b k f)

-- the place after a step
pub place_more : (n m b k at next : ℕ) → b < n → k < n → m ≡ n → at ≡ ring_on n b k → next ≡ ring_on m at 1 → next ≡ ring_on n b (k + 1)
place_more n m b k at next inside few len here on =
    on ∙ ap (λ z. ring_on z at 1) len ∙ ap (λ q. ring_on n q 1) here ∙ on_more n b k inside few

-- the place before the next one is the one where the walk stood
pub place_before : (n m at next : ℕ) → at < n → m ≡ n → next ≡ ring_on m at 1 → ring_back n next 1 ≡ at
place_before n m at next inside len on =
    ap (λ q. ring_back n q 1) (on ∙ ap (λ z. ring_on z at 1) len)
    ∙ elim (on_cases n at 1) [
      | inl a ↦ elim (back_cases n (ring_on n at 1) 1) [ inl c ↦ omega arith | inr c ↦ omega arith ]
      | inr a ↦ elim (back_cases n (ring_on n at 1) 1) [ inl c ↦ omega arith | inr c ↦ omega arith ]
    ]

pub distance_lt : (n b p : ℕ) → b < n → p < n → ring_distance n b p < n
distance_lt n b p inside lt = elim (distance_cases n b p) [ inl c ↦ omega arith | inr c ↦ omega arith ]

-- a walk over the whole ring
pub walk_all : (cells : List Cell) (b : ℕ) (f : ℕ → Cell) → ((p : ℕ) → p < length cells → b < length cells)
    → ruled (length cells) (walked_cell cells b (length cells) f) ≡ ruled (length cells) f
walk_all cells b f inside =
    ruled_same (length cells) (walked_cell cells b (length cells) f) f
    (λ p lt. cond-true (ltb (ring_distance (length cells) b p) (length cells)) _ _ (lt-ltb _ _ (distance_lt (length cells) b p (inside p lt) lt)))

-- from 0 on the walk stands where it has counted to
pub on_from_zero : (n p : ℕ) → p < n → p ≡ ring_on n 0 p
on_from_zero n p lt = elim (on_cases n 0 p) [ inl a ↦ omega arith | inr a ↦ omega arith ]

pub back_to_last : (n m p : ℕ) → 0 < n → m ≡ n → p ≡ m - 1 → ring_back n 0 1 ≡ p
back_to_last n m p some len is = elim (back_cases n 0 1) [ inl c ↦ omega arith | inr c ↦ omega arith ]

pub back_to_here : (n p : ℕ) → ring_back n (p + 1) 1 ≡ p
back_to_here n p = elim (back_cases n (p + 1) 1) [ inl c ↦ omega arith | inr c ↦ omega arith ]
