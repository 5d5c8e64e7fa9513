-- Cells in two planes, and the index of their attributes.
use Rattle.std.proofs.Common.{◌≡◌, ◌≢◌, ℕ, ◌+◌, ◌-◌, ◌<◌, ◌≤◌, ◌&&◌, ◌++◌, Bool, true, false, cond, leb, ltb, List, [], length, take, drop, replicate, get_or, set, refl, sym, ◌∙◌, ap, arith, inl, inr, get_or-set_same, get_or-set_other}
use Rattle.std.proofs.lemmas.Bool.{cases_eq, cases_lt, lt-ltb, le-ltb, le-leb, lt-leb, leb-true, ltb-true, and_parts}
use Rattle.std.proofs.lemmas.List.{get_or-replicate, length-replicate, length-set, get_or_default, get_or_past}
use Rattle.std.specs.List.{list_all}
use Rattle.std.proofs.lemmas.List.{take_all, drop_all}
use mathlib.Core.List.{append-nil}
use Rattle.ds_codec.specs.declared.cell.Cell.{Cell}
use Rattle.ds_codec.specs.declared.cell.Cell.TheVariants.{Char}
use Rattle.ds_codec.specs.Character.{Glyph, glyph, is_text}
use Rattle.ds_places.specs.Places.{IsWithin}
use Rattle.ds_screen.specs.declared.stored.Kind.{Kind}
use Rattle.ds_screen.specs.declared.stored.Kind.TheVariants.{Attribute, Plain, Alternate}
use Rattle.ds_screen.specs.Picture.{blank, cell_at, ruled}
use Rattle.ds_screen.specs.Fields.{is_attribute}
use Rattle.ds_screen.specs.Planes.{stored_cell, is_storable, plane_cell, plane_cells, AreAllPlain, ArePlanes, Held, held_cells, filled_cell, written_cell, itself, spot_of, IsIndex}
use Rattle.ds_screen.proofs.RuledLaws.{length-ruled, cell_at-ruled, as_ruled, ruled_same, set-ruled}
use Rattle.ds_screen.proofs.RunLaws.{list_all_true}
use Rattle.ds_screen.proofs.MarkLaws.{past_blank}

-- ---- the cells of the planes
pub length-planes : (codes : List ℕ) (kinds : List Kind) → length (plane_cells codes kinds) ≡ length codes
unfolding plane_cells
length-planes codes kinds = length-ruled (length codes) (plane_cell codes kinds)

pub cell_at-planes : (codes : List ℕ) (kinds : List Kind) (p : ℕ) → p < length codes → cell_at (plane_cells codes kinds) p ≡ plane_cell codes kinds p
unfolding plane_cells
cell_at-planes codes kinds p lt = cell_at-ruled (length codes) (plane_cell codes kinds) p lt

pub planes_none : (kinds : List Kind) → plane_cells [] kinds ≡ []
unfolding plane_cells ruled
planes_none kinds = refl

-- the planes of cells that a rule says
pub planes_as : (codes : List ℕ) (kinds : List Kind) (n : ℕ) (rule : ℕ → Cell) → length codes ≡ n → ((p : ℕ) → p < n → plane_cell codes kinds p ≡ rule p)
    → plane_cells codes kinds ≡ ruled n rule
unfolding plane_cells
planes_as codes kinds n rule len same = ap (λ m. ruled m (plane_cell codes kinds)) len ∙ ruled_same n (plane_cell codes kinds) rule same

pub planes_set : (codes : List ℕ) (kinds : List Kind) (q code : ℕ) (kind : Kind) → length kinds ≡ length codes → q < length codes
    → plane_cells (set codes q code) (set kinds q kind) ≡ set (plane_cells codes kinds) q (stored_cell kind code)
unfolding plane_cells
planes_set codes kinds q code kind same lt =
    ap (λ n. ruled n (plane_cell (set codes q code) (set kinds q kind))) (length-set codes q code)
    ∙ sym (set-ruled (length codes) (plane_cell codes kinds) (plane_cell (set codes q code) (set kinds q kind)) q (stored_cell kind code) lt
    (ap (λ k. stored_cell k (get_or (set codes q code) q 0)) (get_or-set_same kinds q kind Plain (omega arith)) ∙ ap (stored_cell kind) (get_or-set_same codes q code 0 lt))
    (λ p below apart.
    ap (λ k. stored_cell k (get_or (set codes q code) p 0)) (get_or-set_other kinds q p kind Plain apart)
    ∙ ap (stored_cell (get_or kinds p Plain)) (get_or-set_other codes q p code 0 apart)))

pub planes_blank : (codes : List ℕ) (kinds : List Kind) (n : ℕ) → codes ≡ replicate n 0 → kinds ≡ replicate n Plain → plane_cells codes kinds ≡ replicate n blank
planes_blank codes kinds n zeros plain =
    planes_as codes kinds n (λ p. blank) (ap length zeros ∙ length-replicate n 0)
    (λ p lt. ap (λ l. stored_cell (get_or l p Plain) (get_or codes p 0)) plain
    ∙ ap (λ k. stored_cell k (get_or codes p 0)) (get_or-replicate n p Plain Plain lt)
    ∙ ap (λ l. stored_cell Plain (get_or l p 0)) zeros ∙ ap (stored_cell Plain) (get_or-replicate n p 0 0 lt))
    ∙ sym (as_ruled (replicate n blank) n (λ p. blank) (length-replicate n blank) (λ p lt. get_or-replicate n p blank blank lt))

zero_text : is_storable Plain 0 ≡ true
unfolding is_text
zero_text = refl

pub are_blank : (codes : List ℕ) (kinds : List Kind) (n : ℕ) → codes ≡ replicate n 0 → kinds ≡ replicate n Plain → ArePlanes codes kinds
are_blank codes kinds n zeros plain =
    let many : length codes ≡ n = ap length zeros ∙ length-replicate n 0 in
    record {
      same = ap length plain ∙ length-replicate n Plain ∙ sym many;
      each = λ p lt.
          ap (λ l. is_storable (get_or l p Plain) (get_or codes p 0)) plain
          ∙ ap (λ k. is_storable k (get_or codes p 0)) (get_or-replicate n p Plain Plain (omega arith))
          ∙ ap (λ l. is_storable Plain (get_or l p 0)) zeros ∙ ap (is_storable Plain) (get_or-replicate n p 0 0 (omega arith)) ∙ zero_text;
    }

-- ---- where all kinds are plain

pub all_plain : (n p : ℕ) → get_or (replicate n Plain) p Plain ≡ Plain
all_plain n p = elim (cases_lt p n) [
  | inl inside ↦ get_or-replicate n p Plain Plain inside
  | inr past ↦ get_or_past (replicate n Plain) p Plain (omega (arith, past, length-replicate n Plain))
]

-- a plain kind is stored already
pub stay_plain : (kinds : List Kind) (kind : Kind) (from to p : ℕ) (d : Kind) → AreAllPlain kinds → kind ≡ Plain → to ≤ length kinds
    → get_or kinds p d ≡ cond (leb from p && ltb p to) kind (get_or kinds p d)
stay_plain kinds kind from to p d all is inside =
    elim (leb from p && ltb p to) as (λ t. (leb from p && ltb p to) ≡ t → get_or kinds p d ≡ cond t kind (get_or kinds p d)) [
      | true ↦ λ within.
          let below : p < to = ltb-true p to (and_parts (leb from p) (ltb p to) within).1 in
          get_or_default kinds p d Plain (omega (arith, below, inside)) ∙ all p ∙ sym is
      | false ↦ λ outside. refl
    ] refl

-- ---- what a method sees of the planes that it works on
pub counted : (codes : List ℕ) (kinds : List Kind) (room : ℕ) (now : Held) → held_cells codes kinds room ≡ now → length codes ≡ length now.cells
counted codes kinds room now view = sym (length-planes codes kinds) ∙ ap (λ (h : Held). length h.cells) view

pub seen_at : (codes : List ℕ) (kinds : List Kind) (room : ℕ) (now : Held) (p : ℕ) → held_cells codes kinds room ≡ now → p < length now.cells
    → plane_cell codes kinds p ≡ cell_at now.cells p
seen_at codes kinds room now p view lt =
    sym (cell_at-planes codes kinds p (omega (arith, counted codes kinds room now view))) ∙ ap (λ (h : Held). cell_at h.cells p) view

pub read_at : (codes : List ℕ) (kinds : List Kind) (p code : ℕ) (kind : Kind) → ArePlanes codes kinds → p < length codes → kind ≡ get_or kinds p kind → code ≡ get_or codes p code
    → stored_cell kind code ≡ plane_cell codes kinds p
read_at codes kinds p code kind planes lt is_kind is_code =
    ap (λ k. stored_cell k code) (is_kind ∙ get_or_default kinds p kind Plain (omega (arith, planes.same)))
    ∙ ap (stored_cell (get_or kinds p Plain)) (is_code ∙ get_or_default codes p code 0 lt)

pub storable_at : (codes : List ℕ) (kinds : List Kind) (p code : ℕ) (kind : Kind) → ArePlanes codes kinds → p < length codes → kind ≡ get_or kinds p kind → code ≡ get_or codes p code
    → is_storable kind code ≡ true
storable_at codes kinds p code kind planes lt is_kind is_code =
    ap (λ k. is_storable k code) (is_kind ∙ get_or_default kinds p kind Plain (omega (arith, planes.same)))
    ∙ ap (is_storable (get_or kinds p Plain)) (is_code ∙ get_or_default codes p code 0 lt) ∙ planes.each p lt

pub attribute_at : (codes : List ℕ) (kinds : List Kind) (p : ℕ) (kind : Kind) → ArePlanes codes kinds → p < length codes → kind ≡ get_or kinds p kind
    → denote.Enum.Bare.sameb Rattle.ds_screen.specs.contracts.stored.Kind.the_type kind Attribute ≡ is_attribute (plane_cell codes kinds p)
attribute_at codes kinds p kind planes lt is_kind =
    told kind (get_or codes p 0) ∙ ap (λ k. is_attribute (stored_cell k (get_or codes p 0))) (is_kind ∙ get_or_default kinds p kind Plain (omega (arith, planes.same)))
  where
    told : (kind : Kind) (code : ℕ) → denote.Enum.Bare.sameb Rattle.ds_screen.specs.contracts.stored.Kind.the_type kind Attribute ≡ is_attribute (stored_cell kind code)
    told Attribute code = refl
    told Plain code = refl
    told Alternate code = refl

-- ---- the index
pub index_within : (index : List ℕ) (cells : List Cell) → IsIndex index cells → IsWithin itself (length cells) index
index_within index cells listed q far = listed.each q ∙ ap (spot_of q) (past_blank cells q far)

-- ---- a part that is filled
pub both_ends : (from i p : ℕ) → from ≤ i → p ≢ i → (leb from p && ltb p (i + 1)) ≡ (leb from p && ltb p i)
both_ends from i p order apart =
    elim (cases_lt p i) [
      | inl less ↦ ap (λ t. leb from p && t) (lt-ltb p (i + 1) (omega arith) ∙ sym (lt-ltb p i less))
      | inr more ↦ ap (λ t. leb from p && t) (le-ltb p (i + 1) (omega arith) ∙ sym (le-ltb p i more))
    ]

pub part_none : {T : Type 0} (xs : List T) (from : ℕ) (x : T) (p : ℕ) (d : T) → get_or xs p d ≡ cond (leb from p && ltb p from) x (get_or xs p d)
part_none xs from x p d =
    elim (cases_lt p from) [
      | inl less ↦ sym (ap (λ t. cond (t && ltb p from) x (get_or xs p d)) (lt-leb from p less))
      | inr more ↦
          sym (ap (λ t. cond (t && ltb p from) x (get_or xs p d)) (le-leb from p more)
          ∙ ap (λ t. cond t x (get_or xs p d)) (le-ltb p from more))
    ]

pub part_more : {T : Type 0} (old now : List T) (from i : ℕ) (x : T) → from ≤ i → i < length now
    → ((p : ℕ) (d : T) → get_or now p d ≡ cond (leb from p && ltb p i) x (get_or old p d))
    → (p : ℕ) (d : T) → get_or (set now i x) p d ≡ cond (leb from p && ltb p (i + 1)) x (get_or old p d)
part_more old now from i x order lt so p d =
    elim (cases_eq p i) [
      | inl same ↦
          ap (λ k. get_or (set now i x) k d) same ∙ get_or-set_same now i x d lt
          ∙ sym (ap (λ t. cond (t && ltb p (i + 1)) x (get_or old p d)) (le-leb from p (omega (arith, same)))
          ∙ ap (λ t. cond t x (get_or old p d)) (lt-ltb p (i + 1) (omega (arith, same))))
      | inr apart ↦
          get_or-set_other now i p x d apart ∙ so p d ∙ ap (λ t. cond t x (get_or old p d)) (sym (both_ends from i p order apart))
    ]

-- a plane that was lent whole and given back
pub given_back : {T : Type 0} (old now : List T) (n : ℕ) → n ≡ length old → length now ≡ length old → take n (now ++ drop (length now) old) ≡ now
given_back old now n len same =
    ap (λ k. take n (now ++ drop k old)) same ∙ ap (λ l. take n (now ++ l)) (drop_all (length old) old (omega arith)) ∙ ap (take n) (append-nil now) ∙ ap (λ k. take k now) (len ∙ sym same) ∙ take_all (length now) now (omega arith)

-- what holds of the planes once a part of both is filled
pub filled_each : (codes kinds_codes : List ℕ) (kinds now_kinds : List Kind) (from to code p : ℕ) (kind : Kind) (c : Glyph) → stored_cell kind code ≡ Char c
    → ((q : ℕ) (d : ℕ) → get_or kinds_codes q d ≡ cond (leb from q && ltb q to) code (get_or codes q d))
    → ((q : ℕ) (d : Kind) → get_or now_kinds q d ≡ cond (leb from q && ltb q to) kind (get_or kinds q d))
    → plane_cell kinds_codes now_kinds p ≡ cond (leb from p && ltb p to) (Char c) (plane_cell codes kinds p)
filled_each codes now_codes kinds now_kinds from to code p kind c is in_codes in_kinds =
    ap (λ k. stored_cell k (get_or now_codes p 0)) (in_kinds p Plain)
    ∙ ap (stored_cell (cond (leb from p && ltb p to) kind (get_or kinds p Plain))) (in_codes p 0)
    ∙ split (leb from p && ltb p to)
  where
    split : (t : Bool) → stored_cell (cond t kind (get_or kinds p Plain)) (cond t code (get_or codes p 0)) ≡ cond t (Char c) (plane_cell codes kinds p)
    split true = is
    split false = refl

pub filled_storable : (codes now_codes : List ℕ) (kinds now_kinds : List Kind) (from to code : ℕ) (kind : Kind) → ArePlanes codes kinds → is_storable kind code ≡ true
    → length now_codes ≡ length codes → length now_kinds ≡ length kinds
    → ((q : ℕ) (d : ℕ) → get_or now_codes q d ≡ cond (leb from q && ltb q to) code (get_or codes q d))
    → ((q : ℕ) (d : Kind) → get_or now_kinds q d ≡ cond (leb from q && ltb q to) kind (get_or kinds q d)) → ArePlanes now_codes now_kinds
filled_storable codes now_codes kinds now_kinds from to code kind planes good len_codes len_kinds in_codes in_kinds =
    record {
      same = len_kinds ∙ planes.same ∙ sym len_codes;
      each = λ p lt.
          ap (λ k. is_storable k (get_or now_codes p 0)) (in_kinds p Plain)
          ∙ ap (is_storable (cond (leb from p && ltb p to) kind (get_or kinds p Plain))) (in_codes p 0)
          ∙ split p (leb from p && ltb p to) (omega (arith, len_codes));
    }
  where
    split : (p : ℕ) (t : Bool) → p < length codes → is_storable (cond t kind (get_or kinds p Plain)) (cond t code (get_or codes p 0)) ≡ true
    split p true lt = good
    split p false lt = planes.each p lt

pub planes_filled : (codes now_codes : List ℕ) (kinds now_kinds : List Kind) (from to code : ℕ) (kind : Kind) (c : Glyph) → stored_cell kind code ≡ Char c
    → length now_codes ≡ length codes
    → ((q : ℕ) (d : ℕ) → get_or now_codes q d ≡ cond (leb from q && ltb q to) code (get_or codes q d))
    → ((q : ℕ) (d : Kind) → get_or now_kinds q d ≡ cond (leb from q && ltb q to) kind (get_or kinds q d))
    → plane_cells now_codes now_kinds ≡ ruled (length (plane_cells codes kinds)) (filled_cell (plane_cells codes kinds) from to c)
planes_filled codes now_codes kinds now_kinds from to code kind c is len in_codes in_kinds =
    planes_as now_codes now_kinds (length (plane_cells codes kinds)) (filled_cell (plane_cells codes kinds) from to c) (len ∙ sym (length-planes codes kinds))
    (λ p lt. filled_each codes now_codes kinds now_kinds from to code p kind c is in_codes in_kinds
    ∙ ap (cond (leb from p && ltb p to) (Char c)) (sym (cell_at-planes codes kinds p (omega (arith, length-planes codes kinds)))))

-- ---- a part that is copied
pub written_each : (codes now_codes run : List ℕ) (kinds now_kinds : List Kind) (at from count p : ℕ)
    → ((q d : ℕ) → get_or now_codes q d ≡ cond (leb at q && ltb q (at + count)) (get_or run (from + (q - at)) 0) (get_or codes q d))
    → ((q : ℕ) (d : Kind) → get_or now_kinds q d ≡ cond (leb at q && ltb q (at + count)) Plain (get_or kinds q d))
    → plane_cell now_codes now_kinds p ≡ cond (leb at p && ltb p (at + count)) (Char (glyph (get_or run (from + (p - at)) 0) false)) (plane_cell codes kinds p)
written_each codes now_codes run kinds now_kinds at from count p in_codes in_kinds =
    ap (λ k. stored_cell k (get_or now_codes p 0)) (in_kinds p Plain)
    ∙ ap (stored_cell (cond (leb at p && ltb p (at + count)) Plain (get_or kinds p Plain))) (in_codes p 0)
    ∙ split (leb at p && ltb p (at + count))
  where
    split : (t : Bool) → stored_cell (cond t Plain (get_or kinds p Plain)) (cond t (get_or run (from + (p - at)) 0) (get_or codes p 0))
        ≡ cond t (Char (glyph (get_or run (from + (p - at)) 0) false)) (plane_cell codes kinds p)
    split true = refl
    split false = refl

pub written_storable : (codes now_codes run : List ℕ) (kinds now_kinds : List Kind) (at from count : ℕ) → ArePlanes codes kinds → list_all is_text run ≡ true → from + count ≤ length run
    → length now_codes ≡ length codes → length now_kinds ≡ length kinds
    → ((q d : ℕ) → get_or now_codes q d ≡ cond (leb at q && ltb q (at + count)) (get_or run (from + (q - at)) 0) (get_or codes q d))
    → ((q : ℕ) (d : Kind) → get_or now_kinds q d ≡ cond (leb at q && ltb q (at + count)) Plain (get_or kinds q d)) → ArePlanes now_codes now_kinds
written_storable codes now_codes run kinds now_kinds at from count planes text few len_codes len_kinds in_codes in_kinds =
    record {
      same = len_kinds ∙ planes.same ∙ sym len_codes;
      each = λ p lt.
          ap (λ k. is_storable k (get_or now_codes p 0)) (in_kinds p Plain)
          ∙ ap (is_storable (cond (leb at p && ltb p (at + count)) Plain (get_or kinds p Plain))) (in_codes p 0)
          ∙ split p (leb at p) (ltb p (at + count)) (omega (arith, len_codes)) (λ low. leb-true at p low) (λ high. ltb-true p (at + count) high);
    }
  where
    split : (p : ℕ) (t u : Bool) → p < length codes → (t ≡ true → at ≤ p) → (u ≡ true → p < at + count)
        → is_storable (cond (t && u) Plain (get_or kinds p Plain)) (cond (t && u) (get_or run (from + (p - at)) 0) (get_or codes p 0)) ≡ true
    split p true true lt low high =
        let l = low refl in
        let h = high refl in
        list_all_true is_text run (from + (p - at)) 0 text (omega (arith, l, h, few))
    split p true false lt low high = planes.each p lt
    split p false u lt low high = planes.each p lt

pub planes_written : (codes now_codes run : List ℕ) (kinds now_kinds : List Kind) (at from count : ℕ) → length now_codes ≡ length codes
    → ((q d : ℕ) → get_or now_codes q d ≡ cond (leb at q && ltb q (at + count)) (get_or run (from + (q - at)) 0) (get_or codes q d))
    → ((q : ℕ) (d : Kind) → get_or now_kinds q d ≡ cond (leb at q && ltb q (at + count)) Plain (get_or kinds q d))
    → plane_cells now_codes now_kinds ≡ ruled (length (plane_cells codes kinds)) (written_cell (plane_cells codes kinds) at run from count)
planes_written codes now_codes run kinds now_kinds at from count len in_codes in_kinds =
    planes_as now_codes now_kinds (length (plane_cells codes kinds)) (written_cell (plane_cells codes kinds) at run from count) (len ∙ sym (length-planes codes kinds))
    (λ p lt. written_each codes now_codes run kinds now_kinds at from count p in_codes in_kinds
    ∙ ap (cond (leb at p && ltb p (at + count)) (Char (glyph (get_or run (from + (p - at)) 0) false))) (sym (cell_at-planes codes kinds p (omega (arith, length-planes codes kinds)))))
