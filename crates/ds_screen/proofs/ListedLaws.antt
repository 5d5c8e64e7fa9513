-- What becomes of the lists of places at which attributes stand.
use Rattle.std.proofs.Common.{◌≡◌, ℕ, ◌+◌, ◌-◌, ◌/◌, ◌%◌, min, ◌<◌, ◌≤◌, ◌&&◌, ◌==◌, Bool, true, false, not, cond, leb, ltb, List, length, get_or, set, eqb, Option, Some, None, refl, sym, ◌∙◌, ap, arith, inl, inr, get_or-set_same, get_or-set_other}
use Rattle.std.specs.Option.{option_map}
use Rattle.std.proofs.lemmas.Bool.{cond-true, cond-false, cases_Bool, cases_lt, cases_eq, eq-eqb, ne_eqb, and_parts, leb-true, ltb-true, false≢true}
use Rattle.ds_codec.specs.declared.cell.Cell.{Cell}
use Rattle.ds_codec.specs.declared.cell.Cell.TheVariants.{Field, Char}
use Rattle.ds_codec.specs.Attribute.{is_protected, with_modified}
use Rattle.ds_codec.specs.Character.{Glyph}
use Rattle.ds_places.specs.Places.{at_place, IsRising, is_round}
use Rattle.ds_screen.specs.declared.mark.Mark.{Mark}
use Rattle.ds_screen.specs.declared.records.Reset.{Reset}
use Rattle.ds_screen.specs.declared.records.Reset.TheVariants.{Every, Unprotected}
use Rattle.ds_screen.specs.Ring.{ring_on, ring_distance}
use Rattle.ds_screen.specs.Picture.{blank, cell_at, ruled}
use Rattle.ds_screen.specs.Fields.{is_attribute, attribute_of}
use Rattle.ds_screen.specs.Orders.{is_unprotected_attribute, behind, tab_stop, text_cell}
use Rattle.ds_screen.specs.Reset.{after_reset}
use Rattle.ds_screen.specs.Marks.{mark_of}
use Rattle.ds_screen.specs.Planes.{itself, spot_of, spot_if, IsIndex, HasNone}
use Rattle.ds_screen.specs.Listed.{is_any, is_free, is_marked, Lists, Listing, AreListed, LoseRound, IsFirstFree}
use Rattle.ds_screen.proofs.RuledLaws.{length-ruled, cell_at-ruled, on_distance}
use Rattle.ds_screen.proofs.TabLaws.{first_hit, first_miss}
use Rattle.ds_screen.proofs.MarkLaws.{past_blank, text_each}

-- ---- a list of the attributes that pass a test
module _ (test : Option ℕ → Bool) (none : test None ≡ false) where
  past_none : (cells : List Cell) (p : ℕ) → length cells ≤ p → test (attribute_of (cell_at cells p)) ≡ false
  past_none cells p far = ap (λ c. test (attribute_of c)) (past_blank cells p far) ∙ none

  lists_ruled : (places : List ℕ) (cells : List Cell) (rule : ℕ → Cell) → Lists test places cells
      → ((p : ℕ) → p < length cells → test (attribute_of (rule p)) ≡ test (attribute_of (cell_at cells p))) → Lists test places (ruled (length cells) rule)
  lists_ruled places cells rule listed same =
      let len = length-ruled (length cells) rule in
      record {
        rising = listed.rising;
        each = λ p. listed.each p ∙ ap (spot_if p) (elim (cases_lt p (length cells)) [
          | inl lt ↦ sym (ap (λ c. test (attribute_of c)) (cell_at-ruled (length cells) rule p lt) ∙ same p lt)
          | inr far ↦ past_none cells p far ∙ sym (past_none (ruled (length cells) rule) p (omega (arith, far, len)))
        ]);
      }

  lists_set : (old new : List ℕ) (cells : List Cell) (p : ℕ) (is : Option ℕ) (cell : Cell) → Lists test old cells → p < length cells → is ≡ attribute_of cell → IsRising itself new
      → ((q : ℕ) → at_place itself new q ≡ cond (eqb p q) (spot_if p (test is)) (at_place itself old q)) → Lists test new (set cells p cell)
  lists_set old new cells p is cell listed lt same rising noted = record {
    rising = rising;
    each = λ q. elim (cases_eq p q) [
      | inl here ↦
          noted q ∙ cond-true (eqb p q) _ _ (eq-eqb p q here) ∙ ap (λ o. spot_if p (test o)) same
          ∙ ap (λ c. spot_if p (test (attribute_of c))) (sym (get_or-set_same cells p cell blank lt))
          ∙ ap (λ k. spot_if k (test (attribute_of (cell_at (set cells p cell) k)))) here
      | inr apart ↦
          noted q ∙ cond-false (eqb p q) _ _ (ne_eqb p q apart) ∙ listed.each q
          ∙ ap (λ c. spot_if q (test (attribute_of c))) (sym (get_or-set_other cells p q cell blank (λ e. apart (sym e))))
    ];
  }

  lists_cut : (old new : List ℕ) (before after : List Cell) (n b steps : ℕ) → Lists test old before → LoseRound n b steps before after → IsRising itself new
      → ((q : ℕ) → at_place itself new q ≡ cond (is_round n b steps q) None (at_place itself old q)) → Lists test new after
  lists_cut old new before after n b steps listed lose rising cut = record {
    rising = rising;
    each = λ q. cut q ∙ ap (cond (is_round n b steps q) None) (listed.each q) ∙ chosen q (is_round n b steps q) (attribute_of (cell_at before q))
        ∙ ap (λ o. spot_if q (test o)) (sym (lose q));
  }
    where
      chosen : (q : ℕ) (t : Bool) (o : Option ℕ) → cond t None (spot_if q (test o)) ≡ spot_if q (test (cond t None o))
      chosen q true o = sym (ap (spot_if q) none)
      chosen q false o = refl

-- ---- the list and the marks, as the index changes
pub cut_listed : (v w : Listing) (old new : List Cell) (n b steps : ℕ) → AreListed v old → LoseRound n b steps old new → w.marks ≡ v.marks → IsRising itself w.all
    → ((q : ℕ) → at_place itself w.all q ≡ cond (is_round n b steps q) None (at_place itself v.all q)) → AreListed w new
cut_listed v w old new n b steps listed lose same rising cut = record {
  all = lists_cut is_any refl v.all w.all old new n b steps listed.all lose rising cut;
  marked = λ p free. ap (λ l. get_or l (p / 256) false) same ∙ listed.marked p (kept (is_round n b steps p) (attribute_of (cell_at old p)) (sym (ap is_free (lose p)) ∙ free));
}
  where
    kept : (t : Bool) (o : Option ℕ) → is_free (cond t None o) ≡ true → is_free o ≡ true
    kept true o e = absurd cc
    kept false o e = e

pub set_listed : (v w : Listing) (cells : List Cell) (p : ℕ) (is : Option ℕ) (cell : Cell) → AreListed v cells → p < length cells → is ≡ attribute_of cell → is_free is ≡ false
    → w.marks ≡ v.marks → IsRising itself w.all → ((q : ℕ) → at_place itself w.all q ≡ cond (eqb p q) (spot_if p (is_any is)) (at_place itself v.all q)) → AreListed w (set cells p cell)
set_listed v w cells p is cell listed lt holds shut same rising noted = record {
  all = lists_set is_any refl v.all w.all cells p is cell listed.all lt holds rising noted;
  marked = λ q free. ap (λ l. get_or l (q / 256) false) same ∙ (elim (cases_eq q p) [
    | inl here ↦ absurd (false≢true (sym shut ∙ ap is_free holds ∙ ap (λ c. is_free (attribute_of c)) (sym (get_or-set_same cells p cell blank lt))
        ∙ ap (λ k. is_free (attribute_of (cell_at (set cells p cell) k))) (sym here) ∙ free))
    | inr apart ↦ listed.marked q (ap (λ c. is_free (attribute_of c)) (sym (get_or-set_other cells p q cell blank apart)) ∙ free)
  ]);
}

free_inside : (v : Listing) (cells others : List Cell) (p : ℕ) → AreListed v cells → AreListed v others → is_free (attribute_of (cell_at cells p)) ≡ true → p < length others
free_inside v cells others p listed other free = elim (cases_lt p (length others)) [
  | inl lt ↦ lt
  | inr far ↦ absurd (none p (cell_at cells p) free (sym (listed.all.each p) ∙ other.all.each p ∙ ap (spot_if p) (past_none is_any refl others p far)))
]
  where
    none : (p : ℕ) (c : Cell) → is_free (attribute_of c) ≡ true → spot_if p (is_any (attribute_of c)) ≡ None → ⊥
    none p (Field bits) free e = cc
    none p (Char c) free e = cc

pub copied_listed : (v w : Listing) (cells others : List Cell) → AreListed v cells → AreListed v others → length others ≤ w.room → length w.marks ≡ w.room / 256 + 1 → IsRising itself w.all
    → ((q : ℕ) → at_place itself w.all q ≡ at_place itself v.all q) → ((k : ℕ) → k < length w.marks → get_or w.marks k false ≡ get_or v.marks k false) → AreListed w cells
copied_listed v w cells others listed other fits many rising same marks = record {
  all = record { rising = rising; each = λ p. same p ∙ listed.all.each p };
  marked = λ p free.
      let inside : p < length others = free_inside v cells others p listed other free in
      marks (p / 256) (omega (arith, inside, fits, many)) ∙ listed.marked p free;
}

-- ---- both, where a rule keeps what they hold
abbrev SamePlaces : Cell → Cell → Type 0
SamePlaces c d = (is_any (attribute_of c) ≡ is_any (attribute_of d)) × (is_free (attribute_of c) ≡ is_free (attribute_of d))

kept_listed : (v : Listing) (cells : List Cell) (rule : ℕ → Cell) → AreListed v cells → ((p : ℕ) → p < length cells → SamePlaces (rule p) (cell_at cells p))
    → AreListed v (ruled (length cells) rule)
kept_listed v cells rule listed same = record {
  all = lists_ruled is_any refl v.all cells rule listed.all (λ p lt. (same p lt).0);
  marked = λ p free. elim (cases_lt p (length cells)) [
    | inl lt ↦
        listed.marked p (sym (ap (λ c. is_free (attribute_of c)) (cell_at-ruled (length cells) rule p lt) ∙ (same p lt).1) ∙ free)
    | inr far ↦ absurd (false≢true (sym (past_none is_free refl (ruled (length cells) rule) p (omega (arith, far, length-ruled (length cells) rule))) ∙ free))
  ];
}

-- characters over characters
chosen_listed : (v : Listing) (cells : List Cell) (test : ℕ → Bool) (x : Glyph) → AreListed v cells → ((p : ℕ) → p < length cells → test p ≡ true → is_attribute (cell_at cells p) ≡ false)
    → AreListed v (ruled (length cells) (λ p. cond (test p) (Char x) (cell_at cells p)))
chosen_listed v cells test x listed misses =
    kept_listed v cells (λ p. cond (test p) (Char x) (cell_at cells p)) listed (λ p lt. chosen (test p) (cell_at cells p) (misses p lt))
  where
    chosen : (t : Bool) (c : Cell) → (t ≡ true → is_attribute c ≡ false) → SamePlaces (cond t (Char x) c) c
    chosen true (Field bits) none = absurd (let e = none refl in cc)
    chosen true (Char c) none = (refl, refl)
    chosen false c none = (refl, refl)

pub null_listed : (v : Listing) (cells : List Cell) (b stop : ℕ) (x : Glyph) → AreListed v cells → ((p : ℕ) → b ≤ p → p < stop → is_attribute (cell_at cells p) ≡ false)
    → AreListed v (ruled (length cells) (λ p. cond (leb b p && ltb p stop) (Char x) (cell_at cells p)))
null_listed v cells b stop x listed misses =
    chosen_listed v cells (λ p. leb b p && ltb p stop) x listed
    (λ p lt both. let parts = and_parts (leb b p) (ltb p stop) both in misses p (leb-true b p parts.0) (ltb-true p stop parts.1))

pub stretch_listed : (v : Listing) (cells : List Cell) (at run : ℕ) (free : Bool) → AreListed v cells → at < length cells → HasNone cells at run
    → AreListed v (ruled (length cells) (λ p. cond (free && ltb (ring_distance (length cells) at p) run) blank (cell_at cells p)))
stretch_listed v cells at run free listed inside none =
    let n : ℕ = length cells in
    chosen_listed v cells (λ p. free && ltb (ring_distance n at p) run) _ listed
    (λ p lt both. let near = (and_parts free (ltb (ring_distance n at p) run) both).1 in
    ap (λ q. is_attribute (cell_at cells q)) (sym (on_distance n at p inside lt)) ∙ none (ring_distance n at p) (ltb-true _ _ near))

protected_kept : (bits : ℕ) → is_protected (with_modified bits false) ≡ is_protected bits
protected_kept bits = ap (λ x. x % 2 == 1) (same bits)
  where
    same : (bits : ℕ) → (bits - bits % 2 + 0) / 32 ≡ bits / 32
    same bits = omega arith

pub reset_listed : (v : Listing) (cells : List Cell) (which : Reset) → AreListed v cells → AreListed v (ruled (length cells) (λ p. after_reset which (cell_at cells p)))
reset_listed v cells which listed = kept_listed v cells (λ p. after_reset which (cell_at cells p)) listed (λ p lt. same which (cell_at cells p))
  where
    unless : (bits : ℕ) (t : Bool) → is_protected (cond t bits (with_modified bits false)) ≡ is_protected bits
    unless bits true = refl
    unless bits false = protected_kept bits

    same : (which : Reset) (c : Cell) → SamePlaces (after_reset which c) c
    same Every (Field bits) = (refl, ap not (protected_kept bits))
    same Every (Char c) = (refl, refl)
    same Unprotected (Field bits) = (refl, ap not (unless bits (is_protected bits)))
    same Unprotected (Char c) = (refl, refl)

-- ---- the list of all attributes is an index
pub index_of : (v : Listing) (cells : List Cell) → AreListed v cells → IsIndex v.all cells
index_of v cells listed = record { rising = listed.all.rising; each = λ p. listed.all.each p ∙ spot p (cell_at cells p) }
  where
    spot : (p : ℕ) (c : Cell) → spot_if p (is_any (attribute_of c)) ≡ spot_of p c
    spot p (Field bits) = refl
    spot p (Char c) = refl

-- ---- characters round the buffer
nothing : (t : Bool) (c : Cell) → c ≡ blank → None ≡ cond t None (attribute_of c)
nothing true c is = refl
nothing false c is = sym (ap attribute_of is)

pub fill_loses : (cells : List Cell) (n b steps : ℕ) (x : Glyph) → n ≡ length cells
    → LoseRound n b steps cells (ruled (length cells) (λ p. cond (is_round (length cells) b steps p) (Char x) (cell_at cells p)))
fill_loses cells n b steps x len p = elim (cases_lt p (length cells)) [
  | inl lt ↦
      ap attribute_of (cell_at-ruled (length cells) (λ q. cond (is_round (length cells) b steps q) (Char x) (cell_at cells q)) p lt)
      ∙ ap (λ m. attribute_of (cond (is_round m b steps p) (Char x) (cell_at cells p))) (sym len) ∙ chosen (is_round n b steps p) (cell_at cells p)
  | inr far ↦
      ap attribute_of (past_blank (ruled (length cells) _) p (omega (arith, far, length-ruled (length cells) (λ q. cond (is_round (length cells) b steps q) (Char x) (cell_at cells q)))))
      ∙ nothing (is_round n b steps p) (cell_at cells p) (past_blank cells p far)
]
  where
    chosen : (t : Bool) (c : Cell) → attribute_of (cond t (Char x) c) ≡ cond t None (attribute_of c)
    chosen true c = refl
    chosen false c = refl

pub text_loses : (cells : List Cell) (n b steps : ℕ) (run : List ℕ) → n ≡ length cells → b < n → steps ≡ min (length run) n
    → LoseRound n b steps cells (ruled (length cells) (text_cell cells b run))
text_loses cells n b steps run len inside is p = elim (cases_lt p (length cells)) [
  | inl lt ↦
      ap attribute_of (cell_at-ruled (length cells) (text_cell cells b run) p lt) ∙ sym (of_mark p (text_cell cells b run p))
      ∙ ap (option_map (λ (m : Mark). m.attribute)) (sym (text_each cells b run steps p (omega (arith, len, inside)) lt (omega (arith, len, is)) (omega (arith, is))
      (elim (cases_lt (length run) n) [ inl less ↦ inl (omega (arith, is, less)) | inr more ↦ inr (omega (arith, len, is, more)) ])))
      ∙ cut (is_round (length cells) b steps p) p (cell_at cells p) ∙ ap (λ m. cond (is_round m b steps p) None (attribute_of (cell_at cells p))) (sym len)
  | inr far ↦
      ap attribute_of (past_blank (ruled (length cells) (text_cell cells b run)) p (omega (arith, far, length-ruled (length cells) (text_cell cells b run))))
      ∙ nothing (is_round n b steps p) (cell_at cells p) (past_blank cells p far)
]
  where
    of_mark : (q : ℕ) (c : Cell) → option_map (λ (m : Mark). m.attribute) (mark_of q c) ≡ attribute_of c
    of_mark q (Field bits) = refl
    of_mark q (Char c) = refl

    cut : (t : Bool) (q : ℕ) (c : Cell) → option_map (λ (m : Mark). m.attribute) (cond t None (mark_of q c)) ≡ cond t None (attribute_of c)
    cut true q c = refl
    cut false q c = of_mark q c

-- ---- no unprotected attribute stands where its stretch is not marked
free_cell : (c : Cell) → is_free (attribute_of c) ≡ is_unprotected_attribute c
free_cell (Field bits) = refl
free_cell (Char c) = refl

pub unmarked : (v : Listing) (cells : List Cell) (p : ℕ) → AreListed v cells → is_marked v p ≡ false → is_unprotected_attribute (cell_at cells p) ≡ false
unmarked v cells p listed none = elim (cases_Bool (is_unprotected_attribute (cell_at cells p))) [
  | inl free ↦ absurd (false≢true (sym none ∙ listed.marked p (free_cell (cell_at cells p) ∙ free)))
  | inr shut ↦ shut
]

pub free_at : (cells : List Cell) (p : ℕ) (o : Option ℕ) (t : Bool) → o ≡ attribute_of (cell_at cells p) → t ≡ is_free o → t ≡ is_unprotected_attribute (cell_at cells p)
free_at cells p o t holds is = is ∙ ap is_free holds ∙ free_cell (cell_at cells p)

pub stop_found : (cells : List Cell) (from q : ℕ) → IsFirstFree cells from (Some q) → ring_on (length cells) q 1 ≡ tab_stop cells from
stop_found cells from q found =
    sym (ap (behind (length cells)) (first_hit is_unprotected_attribute cells from q (record { ahead = found.0; inside = found.1; misses = found.3; hit = found.2 })))

pub stop_nowhere : (cells : List Cell) (from : ℕ) → IsFirstFree cells from None → 0 ≡ tab_stop cells from
stop_nowhere cells from none = sym (ap (behind (length cells)) (first_miss is_unprotected_attribute cells from none))
