-- What is sent, cell after cell and field after field.
use Rattle.std.proofs.Common.{◌≡◌, ℕ, zero, suc, ◌+◌, ◌-◌, ◌<◌, ◌≤◌, true, false, cond, not, List, [], ◌∷◌, ◌++◌, length, map, take, refl, sym, ap, ◌∙◌, arith, append_assoc}
use Rattle.std.specs.List.{range_with_len, filter, flat_map}
use Rattle.std.proofs.lemmas.Bool.{cond-true, cond-false}
use Rattle.std.proofs.lemmas.List.{map-append, append-nil, take_more, take_all}
use Rattle.std.proofs.lemmas.List.Concat.{flat_map-cons}
use Rattle.std.proofs.lemmas.List.Elements.{filter-append}
use Rattle.std.proofs.lemmas.List.FromFn.{map-range_with_len_more}
use Rattle.std.proofs.lemmas.Grind.{flat_map-append}
use Rattle.ds_codec.specs.declared.size.Mode.{Mode}
use Rattle.ds_codec.specs.declared.cell.Cell.{Cell}
use Rattle.ds_codec.specs.declared.cell.Cell.TheVariants.{Field, Char}
use Rattle.ds_codec.specs.Address.{written_address}
use Rattle.ds_codec.specs.Attribute.{is_modified}
use Rattle.ds_codec.specs.Character.{Glyph}
use Rattle.ds_codec.specs.Writing.{written_character}
use Rattle.ds_screen.specs.declared.field.FieldAt.{FieldAt}
use Rattle.ds_screen.specs.Ring.{ring_on}
use Rattle.ds_screen.specs.Picture.{cell_at}
use Rattle.ds_screen.specs.Fields.{is_attribute, span_of, field_at, attributes_from, fields_of}
use Rattle.ds_screen.proofs.RingLaws.{on_lt}
use Rattle.ds_inbound.specs.Answer.{Sent, is_null, character_of, characters_at, is_modified_at, field_sent, fields_sent, lead_sent, written_characters, written_field, written_fields, written_cell}
use Rattle.ds_inbound.specs.Sending.{sent_in, places_on, has_places, IsFieldOf}
use Rattle.ds_inbound.proofs.Spans.{span_is_run, span_short, whole_run}

-- ---- cell after cell

one_sent : (cell : Cell) → filter (λ c. not (is_null c)) (character_of cell ∷ []) ≡ sent_in cell
one_sent (Field bits) = refl
one_sent (Char character) = elim (is_null character) as (λ b. cond (not b) (character ∷ []) [] ≡ cond b [] (character ∷ [])) [ true ↦ refl | false ↦ refl ]

characters_more : (cells : List Cell) (places : List ℕ) (p : ℕ) → characters_at cells (places ++ p ∷ []) ≡ characters_at cells places ++ sent_in (cell_at cells p)
unfolding characters_at
characters_more cells places p =
    ap (filter (λ c. not (is_null c))) (map-append (λ q. character_of (cell_at cells q)) places (p ∷ []))
    ∙ filter-append (λ c. not (is_null c)) (map (λ q. character_of (cell_at cells q)) places) (character_of (cell_at cells p) ∷ [])
    ∙ ap (λ cs. filter (λ c. not (is_null c)) (map (λ q. character_of (cell_at cells q)) places) ++ cs) (one_sent (cell_at cells p))

places_more : (n place k : ℕ) → places_on n place (k + 1) ≡ places_on n place k ++ ring_on n place k ∷ []
places_more n place k = map-range_with_len_more (ring_on n place) 0 k k (omega arith)

pub run_more : (cells : List Cell) (n place k p : ℕ) (cell : Cell) → p ≡ ring_on n place k → cell ≡ cell_at cells p
    → characters_at cells (places_on n place (k + 1)) ≡ characters_at cells (places_on n place k) ++ sent_in cell
run_more cells n place k p cell here is =
    ap (characters_at cells) (places_more n place k) ∙ characters_more cells (places_on n place k) (ring_on n place k)
    ∙ ap (λ x. characters_at cells (places_on n place k) ++ sent_in x) (sym (is ∙ ap (cell_at cells) here))

-- the bytes so far, and those of one cell more
pub run_bytes : (before so_far after : List ℕ) (characters more all : List Glyph) → so_far ≡ before ++ written_characters characters → after ≡ so_far ++ written_characters more
    → all ≡ characters ++ more → after ≡ before ++ written_characters all
run_bytes before so_far after characters more all said next whole =
    next ∙ ap (λ b. b ++ written_characters more) said ∙ append_assoc before (written_characters characters) (written_characters more)
    ∙ ap (λ b. before ++ b) (sym (ap written_characters whole ∙ flat_map-append written_character characters more))

no_places : (cells : List Cell) (n place : ℕ) → characters_at cells (places_on n place 0) ≡ []
unfolding characters_at
no_places cells n place = refl

pub run_start : (cells : List Cell) (n place : ℕ) (bytes : List ℕ) → bytes ≡ bytes ++ written_characters (characters_at cells (places_on n place 0))
run_start cells n place bytes = sym (ap (λ cs. bytes ++ written_characters cs) (no_places cells n place) ∙ append-nil bytes)

-- ---- one field

pub field_place : (cells : List Cell) (field : FieldAt) → IsFieldOf cells field → field.place < length cells
field_place cells field here =
    let place : field.place ≡ ring_on (length cells) field.at 1 = ap (λ f. f.place) here.same in
    let near : ring_on (length cells) field.at 1 < length cells = on_lt (length cells) field.at 1 here.inside (omega (arith, here.inside)) in
    omega (arith, place, near)

pub field_length : (cells : List Cell) (field : FieldAt) → IsFieldOf cells field → field.length ≤ length cells
field_length cells field here =
    let count : field.length ≡ length (span_of cells field.at) = ap (λ f. f.length) here.same in
    omega (arith, count, span_short cells field.at here.inside here.there)

-- the characters of a field are those of its cells, from its place on
pub field_run : (cells : List Cell) (field : FieldAt) → IsFieldOf cells field
    → field_sent cells field.at ≡ record { place = field.place; characters = characters_at cells (places_on (length cells) field.place field.length) }
unfolding field_sent
field_run cells field here =
    let place : field.place ≡ ring_on (length cells) field.at 1 = ap (λ f. f.place) here.same in
    let count : field.length ≡ length (span_of cells field.at) = ap (λ f. f.length) here.same in
    let run : span_of cells field.at ≡ places_on (length cells) field.place field.length =
    span_is_run cells field.at here.inside here.there ∙ ap (λ p. places_on (length cells) p (length (span_of cells field.at))) (sym place) ∙ ap (places_on (length cells) field.place) (sym count) in
    ap (λ p. record { place = p; characters = characters_at cells (span_of cells field.at) }) (sym place)
    ∙ ap (λ ps. record { place = field.place; characters = characters_at cells ps }) run

-- the bytes of a field: its mark, its place and its characters
pub field_bytes : (mode : Mode) (cells : List Cell) (field : FieldAt) (before marked addressed after : List ℕ) → IsFieldOf cells field → marked ≡ before ++ 17 ∷ []
    → addressed ≡ marked ++ written_address mode (length cells) field.place
    → after ≡ addressed ++ written_characters (characters_at cells (places_on (length cells) field.place field.length))
    → after ≡ before ++ written_field mode (length cells) (field_sent cells field.at)
field_bytes mode cells field before marked addressed after here mark address run =
    let a : List ℕ = written_address mode (length cells) field.place in
    let w : List ℕ = written_characters (characters_at cells (places_on (length cells) field.place field.length)) in
    run ∙ ap (λ b. b ++ w) (address ∙ ap (λ b. b ++ a) mark) ∙ append_assoc (before ++ 17 ∷ []) a w ∙ append_assoc before (17 ∷ []) (a ++ w)
    ∙ ap (λ f. before ++ written_field mode (length cells) f) (sym (field_run cells field here))

-- ---- field after field

-- the modified fields among some
abbrev pub sent_among : List Cell → List FieldAt → List Sent
sent_among cells fields = fields_sent cells (map (λ f. f.at) fields)

abbrev pub AreFieldsOf : List Cell → List FieldAt → Type 0
AreFieldsOf cells [] = Unit {0}
AreFieldsOf cells (field ∷ fields) = IsFieldOf cells field × AreFieldsOf cells fields

-- fields that are to come, their attributes in this list
places_of : (cells : List Cell) (places : List ℕ) → map (λ f. f.at) (map (field_at cells) places) ≡ places
places_of cells [] = refl
places_of cells (q ∷ places) = ap (λ rest. q ∷ rest) (places_of cells places)

pub sent_all : (cells : List Cell) → sent_among cells (fields_of cells) ≡ fields_sent cells (attributes_from cells 0)
sent_all cells = ap (fields_sent cells) (places_of cells (attributes_from cells 0))

fields_there : (cells : List Cell) (k p : ℕ) → p + k ≤ length cells → AreFieldsOf cells (map (field_at cells) (filter (λ q. is_attribute (cell_at cells q)) (range_with_len p k)))
fields_there cells zero p few = tt
fields_there cells (suc k) p few =
    let later = fields_there cells k (p + 1) (omega arith) in
    elim (is_attribute (cell_at cells p)) as (λ b. is_attribute (cell_at cells p) ≡ b → AreFieldsOf cells (map (field_at cells) (cond b (p ∷ filter (λ q. is_attribute (cell_at cells q)) (range_with_len (p + 1) k)) (filter (λ q. is_attribute (cell_at cells q)) (range_with_len (p + 1) k))))) [
      | true ↦ λ some. (record { inside = omega arith; there = some; same = refl }, later)
      | false ↦ λ none. later
    ] refl

pub all_fields : (cells : List Cell) → AreFieldsOf cells (fields_of cells)
all_fields cells = fields_there cells (length cells - 0) 0 (omega arith)

modified_is : (cells : List Cell) (field : FieldAt) → IsFieldOf cells field → is_modified field.attr ≡ is_modified_at cells field.at
modified_is cells field here = ap (λ f. is_modified f.attr) here.same

-- a modified field is the first of those that are sent
pub sent_more : (cells : List Cell) (field : FieldAt) (fields : List FieldAt) → IsFieldOf cells field → is_modified field.attr ≡ true
    → sent_among cells (field ∷ fields) ≡ field_sent cells field.at ∷ sent_among cells fields
unfolding fields_sent
sent_more cells field fields here modified =
    ap (map (field_sent cells)) (cond-true (is_modified_at cells field.at) _ _ (sym (modified_is cells field here) ∙ modified))

pub sent_less : (cells : List Cell) (field : FieldAt) (fields : List FieldAt) → IsFieldOf cells field → is_modified field.attr ≡ false
    → sent_among cells (field ∷ fields) ≡ sent_among cells fields
unfolding fields_sent
sent_less cells field fields here unmodified =
    ap (map (field_sent cells)) (cond-false (is_modified_at cells field.at) _ _ (sym (modified_is cells field here) ∙ unmodified))

-- the bytes of a field before those that are left
pub fields_bytes : (mode : Mode) (n : ℕ) (out after : List ℕ) (field : Sent) (fields all : List Sent) → after ≡ out ++ written_field mode n field → all ≡ field ∷ fields
    → after ++ written_fields mode n fields ≡ out ++ written_fields mode n all
fields_bytes mode n out after field fields all next whole =
    ap (λ b. b ++ written_fields mode n fields) next ∙ append_assoc out (written_field mode n field) (written_fields mode n fields)
    ∙ ap (λ b. out ++ b) (sym (ap (written_fields mode n) whole ∙ flat_map-cons (written_field mode n) field fields))

pub sent_none : (cells : List Cell) → sent_among cells [] ≡ []
unfolding fields_sent
sent_none cells = refl

-- ---- the lead

pub lead_is : (cells : List Cell) (places : List ℕ) → has_places places ≡ false → lead_sent cells places ≡ characters_at cells (places_on (length cells) 0 (length cells))
lead_is cells [] none = ap (characters_at cells) (sym (whole_run (length cells) (length cells) 0 (omega arith)))
lead_is cells (q ∷ places) none = absurd cc

pub lead_none : (cells : List Cell) (places : List ℕ) → has_places places ≡ true → lead_sent cells places ≡ []
lead_none cells [] some = absurd cc
lead_none cells (q ∷ places) some = refl

-- ---- every cell

cell_here : (cells : List Cell) (k : ℕ) → k < length cells → take (k + 1) cells ≡ take k cells ++ cell_at cells k ∷ []
cell_here cells k lt = take_more cells k _ lt

pub cells_more : (cells : List Cell) (k : ℕ) (cell : Cell) (before so_far after : List ℕ) → k < length cells → cell ≡ cell_at cells k → so_far ≡ before ++ flat_map written_cell (take k cells)
    → after ≡ so_far ++ written_cell cell → after ≡ before ++ flat_map written_cell (take (k + 1) cells)
cells_more cells k cell before so_far after lt is said next =
    next ∙ ap (λ c. so_far ++ written_cell c) is ∙ ap (λ b. b ++ written_cell (cell_at cells k)) said
    ∙ append_assoc before (flat_map written_cell (take k cells)) (written_cell (cell_at cells k))
    ∙ ap (λ b. before ++ b) (ap (λ b. flat_map written_cell (take k cells) ++ b) (sym (append-nil (written_cell (cell_at cells k))))
    ∙ sym (ap (flat_map written_cell) (cell_here cells k lt) ∙ flat_map-append written_cell (take k cells) (cell_at cells k ∷ [])))

-- the attention identifier and the cursor, before any cell
pub buffer_start : (aid : ℕ) (address empty one addressed : List ℕ) → empty ≡ [] → one ≡ empty ++ aid ∷ [] → addressed ≡ one ++ address → addressed ≡ aid ∷ (address ++ [])
buffer_start aid address empty one addressed none first next =
    next ∙ ap (λ b. b ++ address) (first ∙ ap (λ b. b ++ aid ∷ []) none) ∙ ap (λ b. aid ∷ b) (sym (append-nil address))

pub buffer_end : (cells : List Cell) (p : ℕ) (before out : List ℕ) → length cells ≤ p → out ≡ before ++ flat_map written_cell (take p cells) → out ≡ before ++ flat_map written_cell cells
buffer_end cells p before out all said = said ∙ ap (λ cs. before ++ flat_map written_cell cs) (take_all p cells all)
