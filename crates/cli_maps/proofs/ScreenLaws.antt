-- The record of a map leaves the picture that the map says.
use Rattle.std.proofs.Common.{◌≡◌, ◌<◌, ◌+◌, ◌%◌, ◌==◌, ℕ, zero, suc, Bool, true, false, cond, ◌||◌, List, [], ◌∷◌, ◌++◌, append_assoc, length, map, replicate, Option, Some, None, Ok, refl, sym, ◌∙◌, ap, subst, arith, inl, inr}
use Rattle.std.specs.Prelude.{◌⊎◌, nat_lt, unwrap_or, slice_index}
use Rattle.std.specs.List.{flat_map, list_any, range_with_len}
use Rattle.std.proofs.Math.Nat.{mod-eq_of_lt}
use Rattle.std.proofs.lemmas.Bool.{cond-true, cond-false, lt-ltb, cases_Bool, eqb-true, eq-eqb, false≢true}
use Rattle.std.proofs.lemmas.List.{get_or-replicate, length-replicate}
use Rattle.std.proofs.lemmas.List.FromFn.{map-range_with_len_more}
use Rattle.ds_codec.specs.declared.cell.Cell.{Cell}
use Rattle.ds_codec.specs.declared.cell.Cell.TheVariants.{Field, Char}
use Rattle.ds_codec.specs.declared.command.Command.{Command}
use Rattle.ds_codec.specs.declared.command.Command.TheVariants.{EraseWrite, EraseWriteAlternate}
use Rattle.ds_codec.specs.declared.size.Size.{Size}
use Rattle.ds_codec.specs.Address.{six_bit_code}
use Rattle.ds_codec.specs.Character.{glyph}
use Rattle.ds_codec.specs.Geometry.{cells_of}
use Rattle.ds_codec.specs.Order.{Item, Site, set_buffer_address, insert_cursor, last_attribute}
use Rattle.ds_codec.specs.Writing.{are_good_pairs}
use Rattle.ds_screen.specs.Picture.{Picture, blank, cell_at, ruled}
use Rattle.ds_screen.specs.Orders.{Writing, byte_cell, text_cell, single_cell, effect_of, fault_of}
use Rattle.ds_codec.specs.WriteControl.{resets_modified_tags}
use Rattle.ds_screen.specs.Records.{begun, erased, finished, finishes, written, acts, unmodified, shown_of}
use Rattle.ds_screen.specs.Ring.{ring_on, greatest}
use Rattle.ds_screen.proofs.ActLaws.{acts_on, acts_end}
use Rattle.ds_screen.proofs.RuledLaws.{length-ruled, cell_at-ruled, as_ruled, ruled_same}
use Rattle.ds_screen.proofs.RunLaws.{greatest_hit, greatest_miss}
use Rattle.bms_map.specs.declared.record.Control.{Control}
use Rattle.bms_map.specs.Maps.{LaterText, Shown, Sheet, default_rows}
use Rattle.bms_map.specs.Record.{text_orders, attribute_order, cursor_orders, later_orders, field_orders, map_orders, control_bits}
use Rattle.bms_map.specs.Fit.{Each, IsScreen, cells_on, IsLaterOn, IsFieldOn, HasCursor, IsFit}
use Rattle.bms_map.proofs.MapsetLaws.{maps_are_fit}
use Rattle.bms_map.proofs.WrittenLaws.{records_are_written}
use Rattle.cli_maps.specs.Screen.{Put, character_put, text_puts, later_puts, field_puts, fields_puts, left_at, PutsAreLeft, cell_of, cursor_place, sizes_of, IsShown, MapsAreShown}

-- ---- orders in turn, of which none is at fault
abbrev done : List Item → Writing → Writing
done [] w = w
done (item ∷ items) w = done items (effect_of item w)

abbrev NoFault : List Item → Writing → Type 0
NoFault [] w = Unit {0}
NoFault (item ∷ items) w = (fault_of item w ≡ None) × NoFault items (effect_of item w)

acts_done : (sites : List Site) (w : Writing) → NoFault (map (λ (site : Site). site.order) sites) w → acts sites w ≡ Ok (done (map (λ (site : Site). site.order) sites) w)
acts_done [] w none = acts_end w
acts_done (site ∷ sites) w none = acts_on site sites w (effect_of site.order w) (none.0, refl) ∙ acts_done sites (effect_of site.order w) none.1

done_append : (xs ys : List Item) (w : Writing) → done (xs ++ ys) w ≡ done ys (done xs w)
done_append [] ys w = refl
done_append (x ∷ xs) ys w = done_append xs ys (effect_of x w)

none_append : (xs ys : List Item) (w : Writing) → NoFault xs w → NoFault ys (done xs w) → NoFault (xs ++ ys) w
none_append [] ys w first others = others
none_append (x ∷ xs) ys w first others = (first.0, none_append xs ys (effect_of x w) first.1 others)

-- ---- what was put
abbrev left : List Put → ℕ → Cell
left puts p = left_at puts p blank

left_append : (xs ys : List Put) (p : ℕ) (cell : Cell) → left_at (xs ++ ys) p cell ≡ left_at ys p (left_at xs p cell)
left_append [] ys p cell = refl
left_append (x ∷ xs) ys p cell = left_append xs ys p (cond (x.at == p) x.cell cell)

none_left : (puts : List Put) (p : ℕ) (cell : Cell) → list_any (λ (put : Put). put.at == p) puts ≡ false → left_at puts p cell ≡ cell
none_left [] p cell none = refl
none_left (put ∷ puts) p cell none =
    let parts = neither (put.at == p) (list_any (λ (other : Put). other.at == p) puts) none in
    ap (left_at puts p) (cond-false (put.at == p) put.cell cell parts.0) ∙ none_left puts p cell parts.1
  where
    neither : (a b : Bool) → (a || b) ≡ false → (a ≡ false) × (b ≡ false)
    neither true b e = absurd cc
    neither false b e = (refl, e)

last_left : (early late : List Put) (put : Put) (cell : Cell) → list_any (λ (other : Put). other.at == put.at) late ≡ false → left_at (early ++ put ∷ late) put.at cell ≡ put.cell
last_left early late put cell none =
    left_append early (put ∷ late) put.at cell
    ∙ ap (left_at late put.at) (cond-true (put.at == put.at) put.cell (left_at early put.at cell) (eq-eqb put.at put.at refl)) ∙ none_left late put.at put.cell none

pub puts_are_left : PutsAreLeft
puts_are_left = (none_left, last_left)

-- the cells are what these puts left, and the cursor stands here
record Holds (n : ℕ) (puts : List Put) (cursor : ℕ) (w : Writing) : Type 0 where
  cells : w.cells ≡ ruled n (left puts)
  cursor_at : w.cursor ≡ cursor

long : (n : ℕ) (puts : List Put) (cursor : ℕ) (w : Writing) → Holds n puts cursor w → length w.cells ≡ n
long n puts cursor w holds = ap length (holds.cells) ∙ length-ruled n (left puts)

-- one cell more
put_one : (n : ℕ) (puts : List Put) (cells : List Cell) (at : ℕ) (cell : Cell) → cells ≡ ruled n (left puts)
    → ruled (length cells) (single_cell cells at cell) ≡ ruled n (left (puts ++ record { at = at; cell = cell } ∷ []))
unfolding single_cell
put_one n puts cells at cell is =
    ap (λ (l : List Cell). ruled (length l) (single_cell l at cell)) is
    ∙ ap (λ m. ruled m (single_cell (ruled n (left puts)) at cell)) (length-ruled n (left puts))
    ∙ ruled_same n (single_cell (ruled n (left puts)) at cell) (left (puts ++ record { at = at; cell = cell } ∷ [])) (λ p lt.
    ap (λ c. cond (p == at) cell c) (cell_at-ruled n (left puts) p lt)
    ∙ ap (λ b. cond b cell (left puts p)) (turned p at)
    ∙ sym (left_append puts (record { at = at; cell = cell } ∷ []) p blank))
  where
    turned : (a b : ℕ) → (a == b) ≡ (b == a)
    turned a b = grind arith

-- a text more
abbrev by : Cell → List ℕ → Option ℕ → Cell
by cell codes None = cell
by cell codes (Some i) = Char (glyph (slice_index codes i) false)

hit : (k : ℕ) (test : ℕ → Bool) (b : Bool) (cell : Cell) (codes : List ℕ) → test k ≡ b → cond b (Char (glyph (slice_index codes k) false)) (by cell codes (greatest k test)) ≡ by cell codes (greatest (k + 1) test)
hit k test true cell codes e = ap (by cell codes) (sym (greatest_hit k test e))
hit k test false cell codes e = ap (by cell codes) (sym (greatest_miss k test e))

text_left : (n at : ℕ) (codes : List ℕ) (k p : ℕ) (cell : Cell) → left_at (map (character_put n at codes) (range_with_len 0 k)) p cell ≡ by cell codes (greatest k (λ i. (at + i) % n == p))
unfolding greatest
text_left n at codes zero p cell = refl
text_left n at codes (suc k) p cell =
    let more : suc k ≡ k + 1 = omega arith in
    ap (λ (m : ℕ). left_at (map (character_put n at codes) (range_with_len 0 m)) p cell) more
    ∙ ap (λ (l : List Put). left_at l p cell) (map-range_with_len_more (character_put n at codes) 0 k k (omega arith))
    ∙ left_append (map (character_put n at codes) (range_with_len 0 k)) (character_put n at codes k ∷ []) p cell
    ∙ ap (λ c. cond ((at + k) % n == p) (Char (glyph (slice_index codes k) false)) c) (text_left n at codes k p cell)
    ∙ hit k (λ i. (at + i) % n == p) ((at + k) % n == p) cell codes refl
    ∙ ap (λ (m : ℕ). by cell codes (greatest m (λ i. (at + i) % n == p))) (sym more)

byte_by : (cells : List Cell) (codes : List ℕ) (p : ℕ) (o : Option ℕ) → byte_cell cells codes p o ≡ by (cell_at cells p) codes o
byte_by cells codes p None = refl
byte_by cells codes p (Some i) = refl

put_text : (n : ℕ) (puts : List Put) (cells : List Cell) (at : ℕ) (codes : List ℕ) → cells ≡ ruled n (left puts)
    → ruled (length cells) (text_cell cells at codes) ≡ ruled n (left (puts ++ text_puts n at codes))
unfolding text_cell
put_text n puts cells at codes is =
    let now = ruled n (left puts) in
    let same = length-ruled n (left puts) in
    ap (λ (l : List Cell). ruled (length l) (text_cell l at codes)) is
    ∙ ap (λ m. ruled m (text_cell now at codes)) same
    ∙ ruled_same n (text_cell now at codes) (left (puts ++ text_puts n at codes)) (λ p lt.
    byte_by now codes p (greatest (length codes) (λ i. (at + i) % length now == p))
    ∙ ap (λ m. by (cell_at now p) codes (greatest (length codes) (λ i. (at + i) % m == p))) same
    ∙ ap (λ c. by c codes (greatest (length codes) (λ i. (at + i) % n == p))) (cell_at-ruled n (left puts) p lt)
    ∙ sym (text_left n at codes (length codes) p (left puts p))
    ∙ sym (left_append puts (text_puts n at codes) p blank))

-- ---- a text, where the buffer address stands
record Leads (n : ℕ) (items : List Item) (w : Writing) (puts : List Put) (cursor : ℕ) : Type 0 where
  good : NoFault items w
  holds : Holds n puts cursor (done items w)

lead_append : (n : ℕ) (xs ys : List Item) (w : Writing) (puts : List Put) (cursor : ℕ) → NoFault xs w → Leads n ys (done xs w) puts cursor → Leads n (xs ++ ys) w puts cursor
lead_append n xs ys w puts cursor first others =
    record { good = none_append xs ys w first others.good; holds = subst (Holds n puts cursor) (sym (done_append xs ys w)) others.holds }

puts_nil : (n : ℕ) (puts : List Put) (cursor : ℕ) (w : Writing) → Holds n puts cursor w → Holds n (puts ++ []) cursor w
puts_nil n puts cursor w holds = subst (λ (l : List Put). Holds n l cursor w) (sym (nil puts)) holds
  where
    nil : (l : List Put) → l ++ [] ≡ l
    nil [] = refl
    nil (x ∷ xs) = ap (λ l. x ∷ l) (nil xs)

text_leads : (n : ℕ) (codes : List ℕ) (w : Writing) (puts : List Put) (cursor at : ℕ) → w.address ≡ at → Holds n puts cursor w → Leads n (text_orders codes) w (puts ++ text_puts n at codes) cursor
unfolding effect_of fault_of
text_leads n [] w puts cursor at here holds = record { good = tt; holds = puts_nil n puts cursor w holds }
text_leads n (code ∷ codes) w puts cursor at here holds =
    record {
      good = (refl, tt);
      holds = record {
        cells = ap (λ a. ruled (length w.cells) (text_cell w.cells a (code ∷ codes))) here ∙ put_text n puts w.cells at (code ∷ codes) holds.cells;
        cursor_at = holds.cursor_at;
      };
    }

address_good : (n : ℕ) (puts : List Put) (cursor : ℕ) (w : Writing) (address : ℕ) → Holds n puts cursor w → address < n → fault_of (set_buffer_address address) w ≡ None
unfolding fault_of
address_good n puts cursor w address holds inside = cond-true (nat_lt address (length w.cells)) _ _ (lt-ltb address (length w.cells) (subst (λ m. address < m) (sym (long n puts cursor w holds)) inside))

address_holds : (n : ℕ) (puts : List Put) (cursor : ℕ) (w : Writing) (address : ℕ) → Holds n puts cursor w → Holds n puts cursor (effect_of (set_buffer_address address) w)
unfolding effect_of
address_holds n puts cursor w address holds = record { cells = holds.cells; cursor_at = holds.cursor_at }

address_is : (w : Writing) (address : ℕ) → (effect_of (set_buffer_address address) w).address ≡ address
unfolding effect_of
address_is w address = refl

-- ---- the texts of later fields
laters_lead : (n : ℕ) (later : List LaterText) (w : Writing) (puts : List Put) (cursor : ℕ) → Each (IsLaterOn n) later → Holds n puts cursor w
    → Leads n (flat_map later_orders later) w (puts ++ flat_map (later_puts n) later) cursor
laters_lead n [] w puts cursor each holds = record { good = tt; holds = puts_nil n puts cursor w holds }
laters_lead n (one ∷ others) w puts cursor each holds =
    let moved = effect_of (set_buffer_address one.cell) w in
    let first = text_leads n one.text moved puts cursor one.cell (address_is w one.cell) (address_holds n puts cursor w one.cell holds) in
    let more = laters_lead n others (done (text_orders one.text) moved) (puts ++ text_puts n one.cell one.text) cursor each.1 first.holds in
    let all = lead_append n (set_buffer_address one.cell ∷ text_orders one.text) (flat_map later_orders others) w _ cursor
    (address_good n puts cursor w one.cell holds each.0.inside, first.good) more in
    subst (λ (l : List Put). Leads n (flat_map later_orders (one ∷ others)) w l cursor) (append_assoc puts (text_puts n one.cell one.text) (flat_map (later_puts n) others)) all

-- ---- a field
abbrev after_field : ℕ → Option ℕ → ℕ → ℕ → ℕ
after_field n None cell cursor = cursor
after_field n (Some at) cell cursor = cond (at == cell) (ring_on n cell 1) cursor

record IsAt (n : ℕ) (puts : List Put) (cursor at : ℕ) (w : Writing) : Type 0 where
  holds : Holds n puts cursor w
  address : w.address ≡ at

some_value : (pairs : List ℕ) (attribute : ℕ) → last_attribute pairs ≡ Some attribute → unwrap_or (last_attribute pairs) 0 ≡ attribute
some_value pairs attribute e = ap (λ o. unwrap_or o 0) e

attribute_at : (n : ℕ) (attribute : ℕ) (pairs : List ℕ) (w : Writing) (puts : List Put) (cursor at : ℕ) → attribute < 64
    → (pairs ≡ []) ⊎ ((are_good_pairs pairs ≡ true) × (last_attribute pairs ≡ Some attribute)) → IsAt n puts cursor at w
    → (fault_of (attribute_order (attribute % 64) pairs) w ≡ None)
    × IsAt n (puts ++ record { at = at; cell = Field attribute } ∷ []) cursor (ring_on n at 1) (effect_of (attribute_order (attribute % 64) pairs) w)
unfolding effect_of fault_of
attribute_at n attribute [] w puts cursor at small good is = (
  refl,
  record {
    holds = record {
      cells = ap (λ a. ruled (length w.cells) (single_cell w.cells a (Field (attribute % 64)))) is.address
          ∙ ap (λ b. ruled (length w.cells) (single_cell w.cells at (Field b))) (mod-eq_of_lt small) ∙ put_one n puts w.cells at (Field attribute) is.holds.cells;
      cursor_at = is.holds.cursor_at;
    };
    address = ap (λ m. ring_on m w.address 1) (long n puts cursor w is.holds) ∙ ap (λ a. ring_on n a 1) is.address;
  },
)
attribute_at n attribute (byte ∷ pairs) w puts cursor at small (inl none) is = absurd cc
attribute_at n attribute (byte ∷ pairs) w puts cursor at small (inr good) is = (
  refl,
  record {
    holds = record {
      cells = ap (λ a. ruled (length w.cells) (single_cell w.cells a (Field (unwrap_or (last_attribute (byte ∷ pairs)) 0)))) is.address
          ∙ ap (λ b. ruled (length w.cells) (single_cell w.cells at (Field b))) (some_value (byte ∷ pairs) attribute good.1) ∙ put_one n puts w.cells at (Field attribute) is.holds.cells;
      cursor_at = is.holds.cursor_at;
    };
    address = ap (λ m. ring_on m w.address 1) (long n puts cursor w is.holds) ∙ ap (λ a. ring_on n a 1) is.address;
  },
)

cursor_at_field : (n : ℕ) (asked : Option ℕ) (cell : ℕ) (w : Writing) (puts : List Put) (cursor : ℕ) → IsAt n puts cursor (ring_on n cell 1) w
    → NoFault (cursor_orders asked cell) w × IsAt n puts (after_field n asked cell cursor) (ring_on n cell 1) (done (cursor_orders asked cell) w)
unfolding effect_of fault_of
cursor_at_field n None cell w puts cursor is = (tt, is)
cursor_at_field n (Some at) cell w puts cursor is =
    elim (at == cell) as (λ b. NoFault (cond b (insert_cursor ∷ []) []) w
    × IsAt n puts (cond b (ring_on n cell 1) cursor) (ring_on n cell 1) (done (cond b (insert_cursor ∷ []) []) w)) [
      | true ↦ ((refl, tt), record { holds = record { cells = is.holds.cells; cursor_at = is.address }; address = is.address })
      | false ↦ (tt, is)
    ]

field_leads : (n : ℕ) (asked : Option ℕ) (field : Shown) (w : Writing) (puts : List Put) (cursor : ℕ) → IsFieldOn n field → Holds n puts cursor w
    → Leads n (field_orders asked field) w (puts ++ field_puts n field) (after_field n asked field.cell cursor)
field_leads n asked field w puts cursor is holds =
    let moved = effect_of (set_buffer_address field.cell) w in
    let there : IsAt n puts cursor field.cell moved = record { holds = address_holds n puts cursor w field.cell holds; address = address_is w field.cell } in
    let order = attribute_order (field.attribute % 64) field.pairs in
    let attribute = attribute_at n field.attribute field.pairs moved puts cursor field.cell is.six is.pairs there in
    let marked = effect_of order moved in
    let first = puts ++ record { at = field.cell; cell = Field field.attribute } ∷ [] in
    let ends = after_field n asked field.cell cursor in
    let inserted = cursor_at_field n asked field.cell marked first cursor attribute.1 in
    let placed = done (cursor_orders asked field.cell) marked in
    let texts = text_leads n field.text placed first ends (ring_on n field.cell 1) inserted.1.address inserted.1.holds in
    let filled = done (text_orders field.text) placed in
    let second = first ++ text_puts n (ring_on n field.cell 1) field.text in
    let later = laters_lead n field.later filled second ends is.later texts.holds in
    let tail = lead_append n (cursor_orders asked field.cell) (text_orders field.text ++ flat_map later_orders field.later) marked _ ends inserted.0
    (lead_append n (text_orders field.text) (flat_map later_orders field.later) placed _ ends texts.good later) in
    let all : Leads n (set_buffer_address field.cell ∷ order ∷ (cursor_orders asked field.cell ++ (text_orders field.text ++ flat_map later_orders field.later))) w (second ++ flat_map (later_puts n) field.later) ends
    = record { good = (address_good n puts cursor w field.cell holds is.inside, (attribute.0, tail.good)); holds = tail.holds } in
    subst (λ (l : List Item). Leads n (set_buffer_address field.cell ∷ order ∷ l) w (puts ++ field_puts n field) ends) (sym (append_assoc (cursor_orders asked field.cell) (text_orders field.text) (flat_map later_orders field.later)))
    (subst (λ (l : List Put). Leads n (set_buffer_address field.cell ∷ order ∷ (cursor_orders asked field.cell ++ (text_orders field.text ++ flat_map later_orders field.later))) w l ends) grouped all)
  where
    grouped : ((puts ++ record { at = field.cell; cell = Field field.attribute } ∷ []) ++ text_puts n (ring_on n field.cell 1) field.text) ++ flat_map (later_puts n) field.later
        ≡ puts ++ field_puts n field
    grouped = simp append_assoc refl

-- ---- all fields
abbrev after_fields : ℕ → Option ℕ → List Shown → ℕ → ℕ
after_fields n asked [] cursor = cursor
after_fields n asked (field ∷ fields) cursor = after_fields n asked fields (after_field n asked field.cell cursor)

fields_lead : (n : ℕ) (asked : Option ℕ) (fields : List Shown) (w : Writing) (puts : List Put) (cursor : ℕ) → Each (IsFieldOn n) fields → Holds n puts cursor w
    → Leads n (flat_map (field_orders asked) fields) w (puts ++ fields_puts n fields) (after_fields n asked fields cursor)
fields_lead n asked [] w puts cursor each holds = record { good = tt; holds = puts_nil n puts cursor w holds }
fields_lead n asked (field ∷ fields) w puts cursor each holds =
    let first = field_leads n asked field w puts cursor each.0 holds in
    let more = fields_lead n asked fields (done (field_orders asked field) w) (puts ++ field_puts n field) (after_field n asked field.cell cursor) each.1 first.holds in
    let all = lead_append n (field_orders asked field) (flat_map (field_orders asked) fields) w _ _ first.good more in
    subst (λ (l : List Put). Leads n (flat_map (field_orders asked) (field ∷ fields)) w l (after_fields n asked (field ∷ fields) cursor)) (append_assoc puts (field_puts n field) (fields_puts n fields)) all

none_asked : (n : ℕ) (fields : List Shown) (cursor : ℕ) → after_fields n None fields cursor ≡ cursor
none_asked n [] cursor = refl
none_asked n (field ∷ fields) cursor = none_asked n fields cursor

or_other : (a b : Bool) → a ≡ false → (a || b) ≡ true → b ≡ true
or_other true b none e = absurd cc
or_other false b none e = e

either_cursor : (n at : ℕ) (fields : List Shown) (cursor : ℕ) → (list_any (λ (field : Shown). at == field.cell) fields ≡ true) ⊎ (cursor ≡ ring_on n at 1) → after_fields n (Some at) fields cursor ≡ ring_on n at 1
either_cursor n at [] cursor (inl any) = absurd (let wrong : false ≡ true = any in cc)
either_cursor n at [] cursor (inr is) = is
either_cursor n at (field ∷ fields) cursor given = elim (cases_Bool (at == field.cell)) [
  | inl here ↦ either_cursor n at fields (after_field n (Some at) field.cell cursor) (inr (cond-true (at == field.cell) (ring_on n field.cell 1) cursor here ∙ ap (λ c. ring_on n c 1) (sym (eqb-true at field.cell here))))
  | inr other ↦ either_cursor n at fields (after_field n (Some at) field.cell cursor) (elim given [
    | inl any ↦ inl (or_other (at == field.cell) (list_any (λ (each : Shown). at == each.cell) fields) other any)
    | inr is ↦ inr (cond-false (at == field.cell) (ring_on n field.cell 1) cursor other ∙ is)
  ])
]

its_cursor : (n : ℕ) (asked : Option ℕ) (fields : List Shown) → HasCursor asked fields → after_fields n asked fields 0 ≡ cursor_place n asked
its_cursor n None fields has = none_asked n fields 0
its_cursor n (Some at) fields has = either_cursor n at fields 0 (inl has)

-- ---- an erased screen
nulls : (n p : ℕ) → p < n → cell_at (replicate n blank) p ≡ blank
nulls n p lt = get_or-replicate n p blank blank lt

begins : (n wcc : ℕ) → Holds n [] 0 (begun wcc (replicate n blank) 0)
begins n wcc = elim (resets_modified_tags wcc) as (λ b. Holds n [] 0 (record {
  cells = cond b (ruled (length (replicate n blank)) (λ p. unmodified (cell_at (replicate n blank) p))) (replicate n blank);
  cursor = 0;
  address = 0;
  nulling = false;
})) [
  | true ↦ record {
    cells = ap (λ m. ruled m (λ p. unmodified (cell_at (replicate n blank) p))) (length-replicate n blank)
        ∙ ruled_same n (λ p. unmodified (cell_at (replicate n blank) p)) (left []) (λ p lt. ap unmodified (nulls n p lt));
    cursor_at = refl;
  }
  | false ↦ record { cells = as_ruled (replicate n blank) n (left []) (length-replicate n blank) (nulls n); cursor_at = refl }
]

-- ---- the record
abbrev drawn : ℕ → Size → Sheet → Picture → Picture
drawn wcc size it before =
    finished wcc (erased size before) (record {
      cells = ruled (cells_on it.area) (cell_of it);
      cursor = cursor_place (cells_on it.area) it.cursor;
      address = 0;
      nulling = false;
    })

same_finished : (wcc : ℕ) (v : Picture) (w : Writing) (cells : List Cell) (cursor : ℕ) → w.cells ≡ cells → w.cursor ≡ cursor
    → finished wcc v w ≡ finished wcc v (record { cells = cells; cursor = cursor; address = 0; nulling = false })
same_finished wcc v w cells cursor one other =
    ap (λ (l : List Cell). finished wcc v (record { cells = l; cursor = w.cursor; address = 0; nulling = false })) one
    ∙ ap (λ c. finished wcc v (record { cells = cells; cursor = c; address = 0; nulling = false })) other

erased_written : (wcc : ℕ) (sites : List Site) (size : Size) (it : Sheet) (before : Picture) → IsFit it → cells_of size ≡ cells_on it.area → map (λ (site : Site). site.order) sites ≡ map_orders it
    → written wcc sites (erased size before) ≡ Ok (drawn wcc size it before)
erased_written wcc sites size it before fit whole orders =
    let n = cells_on it.area in
    let first = begun wcc (replicate (cells_of size) blank) 0 in
    let start : Holds n [] 0 first = subst (λ m. Holds n [] 0 (begun wcc (replicate m blank) 0)) (sym whole) (begins n wcc) in
    let leads : Leads n (map_orders it) first ([] ++ fields_puts n it.fields) (after_fields n it.cursor it.fields 0) = fields_lead n it.cursor it.fields first [] 0 fit.fields start in
    let given : Leads n (map (λ (site : Site). site.order) sites) first (fields_puts n it.fields) (after_fields n it.cursor it.fields 0) = subst (λ (l : List Item). Leads n l first (fields_puts n it.fields) (after_fields n it.cursor it.fields 0)) (sym orders) leads in
    ap (finishes wcc (erased size before)) (acts_done sites first given.good)
    ∙ ap (λ v. Ok v) (same_finished wcc (erased size before) (done (map (λ (site : Site). site.order) sites) first) (ruled n (cell_of it)) (cursor_place n it.cursor) given.holds.cells
    (given.holds.cursor_at ∙ its_cursor n it.cursor it.fields fit.cursor))

other_rows : (k rows : ℕ) → rows ≡ k → rows ≡ 24 → (k == 24) ≡ false → ⊥
other_rows k rows is same other = false≢true (sym other ∙ eq-eqb k 24 (sym is ∙ same))

screen_24 : (screen : Size) → IsScreen screen → screen.rows ≡ 24 → screen ≡ record { rows = 24; cols = 80 }
screen_24 screen (inl is) rows = is
screen_24 screen (inr (inl is)) rows = absurd (other_rows 32 screen.rows (ap (λ (s : Size). s.rows) is) rows refl)
screen_24 screen (inr (inr (inl is))) rows = absurd (other_rows 43 screen.rows (ap (λ (s : Size). s.rows) is) rows refl)
screen_24 screen (inr (inr (inr is))) rows = absurd (other_rows 27 screen.rows (ap (λ (s : Size). s.rows) is) rows refl)

same_size : (wcc : ℕ) (size screen : Size) (it : Sheet) (before : Picture) → size ≡ screen → drawn wcc size it before ≡ drawn wcc screen it before
same_size wcc size screen it before is = ap (λ (s : Size). drawn wcc s it before) is

shown_by : (b : Bool) (wcc : ℕ) (sites : List Site) (it : Sheet) (before : Picture) → IsFit it → before.geometry ≡ sizes_of it → (it.area.screen.rows == default_rows) ≡ b
    → map (λ (site : Site). site.order) sites ≡ map_orders it
    → shown_of before (cond b (EraseWrite wcc) (EraseWriteAlternate wcc)) sites ≡ Ok (drawn wcc it.area.screen it before)
unfolding shown_of
shown_by true wcc sites it before fit geometry rows orders =
    let same = screen_24 it.area.screen fit.ground.screen (eqb-true it.area.screen.rows default_rows rows) in
    let size : before.geometry.default ≡ it.area.screen = ap (λ g. g.default) geometry ∙ sym same in
    erased_written wcc sites before.geometry.default it before fit (ap cells_of size) orders ∙ ap (λ v. Ok v) (same_size wcc before.geometry.default it.area.screen it before size)
shown_by false wcc sites it before fit geometry rows orders =
    let size : before.geometry.alternate ≡ it.area.screen = ap (λ g. g.alternate) geometry in
    erased_written wcc sites before.geometry.alternate it before fit (ap cells_of size) orders ∙ ap (λ v. Ok v) (same_size wcc before.geometry.alternate it.area.screen it before size)

pub fit_shown : (control : Control) (it : Sheet) → IsFit it → IsShown control it
fit_shown control it fit =
    let (bytes, written_so, again) = records_are_written it control fit in
    let (message, reads, spelled, command, orders) = again in
    record {
      bytes = bytes;
      written = written_so;
      message = message;
      read = reads;
      shows = λ before geometry.
          ap (λ (c : Command). shown_of before c message.orders) command
          ∙ shown_by (it.area.screen.rows == default_rows) (six_bit_code (control_bits it.control control)) message.orders it before fit geometry refl orders;
    }

each_shown : (control : Control) (maps : List Sheet) → Each IsFit maps → Each (IsShown control) maps
each_shown control [] each = tt
each_shown control (it ∷ maps) each = (fit_shown control it each.0, each_shown control maps each.1)

pub maps_are_shown : MapsAreShown
maps_are_shown source maps is control = each_shown control maps (maps_are_fit source maps is)
