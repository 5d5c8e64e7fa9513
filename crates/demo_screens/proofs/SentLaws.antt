-- What is sent, by a list of modified attributes.
use Rattle.std.proofs.Common.{◌≡◌, ℕ, zero, suc, ◌+◌, ◌-◌, ◌<◌, ◌≤◌, ◌&&◌, Bool, true, false, not, cond, ltb, List, [], ◌∷◌, ◌++◌, length, map, take, get_or, Option, Some, None, refl, sym, ◌∙◌, ap, subst, arith, append_assoc}
use Rattle.std.specs.Option.{is_some}
use Rattle.std.specs.List.{range_with_len, filter, flat_map}
use Rattle.std.proofs.lemmas.Bool.{cond_both, cond-true, cond-false, lt-ltb}
use Rattle.std.proofs.lemmas.List.{map-append, append-nil, take_more, take_all}
use Rattle.std.proofs.lemmas.Grind.{flat_map-append}
use Rattle.ds_codec.specs.declared.cell.Cell.{Cell}
use Rattle.ds_codec.specs.declared.cell.Cell.TheVariants.{Field, Char}
use Rattle.ds_codec.specs.declared.size.Mode.{Mode}
use Rattle.ds_codec.specs.Address.{written_address}
use Rattle.ds_codec.specs.Aid.{is_short_aid}
use Rattle.ds_codec.specs.Attribute.{is_modified}
use Rattle.ds_screen.specs.declared.field.FieldAt.{FieldAt}
use Rattle.ds_screen.specs.Ring.{ring_on}
use Rattle.ds_screen.specs.Picture.{Picture, cell_at}
use Rattle.ds_screen.specs.Fields.{is_attribute, span_of, field_at, attribute_from, attributes_from, fields_of}
use Rattle.ds_screen.proofs.SpanLaws.{next_ahead, next_nowhere}
use Rattle.ds_screen.proofs.OutlineFieldLaws.{attributes_none, attributes_first}
use Rattle.ds_inbound.specs.Answer.{Sent, is_null, is_modified_at, characters_at, field_sent, fields_sent, lead_sent, written_characters, written_field, written_fields, bytes_sent}
use Rattle.ds_inbound.specs.Sending.{places_on, IsFieldOf}
use Rattle.ds_inbound.proofs.Sent.{field_bytes}
use Rattle.ds_inbound.proofs.Again.{long_bytes}
use Rattle.demo_screens.specs.Modified.{modified_places, IsAttributeAt}

-- a search from 0 on finds an attribute where there is one
pub formatted : (cells : List Cell) (found : Option ℕ) → 0 < length cells → found ≡ attribute_from cells 0 → is_some found ≡ ltb 0 (length (attributes_from cells 0))
formatted cells None some nearest =
    sym (ap (λ ps. ltb 0 (length ps)) (attributes_none cells 0 (next_nowhere cells 0 nearest)))
formatted cells (Some q) some nearest =
    let first = next_ahead cells 0 q some nearest (omega arith) in
    sym (ap (λ ps. ltb 0 (length ps)) (attributes_first cells 0 q (omega arith) first.0 first.1 first.2)
    ∙ lt-ltb 0 (suc (length (attributes_from cells (q + 1)))) (omega arith))

-- ---- the listed attributes
abbrev AreAttributes : List Cell → List ℕ → Type 0
AreAttributes cells [] = Unit {0}
AreAttributes cells (q ∷ places) = IsAttributeAt cells q × AreAttributes cells places

attributes_there : (cells : List Cell) (k p : ℕ) → p + k ≤ length cells → AreAttributes cells (filter (λ q. is_attribute (cell_at cells q)) (range_with_len p k))
attributes_there cells zero p few = tt
attributes_there cells (suc k) p few =
    let later = attributes_there cells k (p + 1) (omega arith) in
    let rest : List ℕ = filter (λ q. is_attribute (cell_at cells q)) (range_with_len (p + 1) k) in
    cond_both (is_attribute (cell_at cells p)) (p ∷ rest) rest (AreAttributes cells) (λ some. (record { inside = omega arith; there = some }, later)) (λ none. later)

still_there : (cells : List Cell) (test : ℕ → Bool) (places : List ℕ) → AreAttributes cells places → AreAttributes cells (filter test places)
still_there cells test [] are = tt
still_there cells test (q ∷ places) are =
    let later = still_there cells test places are.1 in
    cond_both (test q) (q ∷ filter test places) (filter test places) (AreAttributes cells) (λ yes. (are.0, later)) (λ no. later)

each_there : (cells : List Cell) (places : List ℕ) (i d : ℕ) → AreAttributes cells places → i < length places → IsAttributeAt cells (get_or places i d)
each_there cells [] i d are lt = absurd (omega arith)
each_there cells (q ∷ places) zero d are lt = are.0
each_there cells (q ∷ places) (suc i) d are lt = each_there cells places i d are.1 (omega arith)

pub listed_there : (cells : List Cell) (places : List ℕ) (i d : ℕ) → places ≡ modified_places cells → i < length places → IsAttributeAt cells (get_or places i d)
listed_there cells places i d is lt =
    each_there cells places i d
    (subst (AreAttributes cells) (sym is) (still_there cells (is_modified_at cells) (attributes_from cells 0) (attributes_there cells (length cells - 0) 0 (omega arith)))) lt

-- ---- one field
pub field_written : (mode : Mode) (cells : List Cell) (at place count : ℕ) (before marked addressed after : List ℕ) → IsAttributeAt cells at → place ≡ ring_on (length cells) at 1
    → count ≡ length (span_of cells at) → marked ≡ before ++ 17 ∷ [] → addressed ≡ marked ++ written_address mode (length cells) place
    → after ≡ addressed ++ written_characters (characters_at cells (places_on (length cells) place count)) → after ≡ before ++ written_field mode (length cells) (field_sent cells at)
field_written mode cells at place count before marked addressed after here on counts mark address run =
    field_bytes mode cells (field_at cells at) before marked addressed after (record { inside = here.inside; there = here.there; same = refl }) mark
    (address ∙ ap (λ p. marked ++ written_address mode (length cells) p) on)
    (run ∙ ap (λ p. addressed ++ written_characters (characters_at cells (places_on (length cells) p count))) on
    ∙ ap (λ k. addressed ++ written_characters (characters_at cells (places_on (length cells) (ring_on (length cells) at 1) k))) counts)

-- ---- the listed fields
pub no_fields : (mode : Mode) (cells : List Cell) (out : List ℕ) → out ≡ out ++ written_fields mode (length cells) (map (field_sent cells) [])
no_fields mode cells out = sym (append-nil out)

pub one_field_more : (mode : Mode) (cells : List Cell) (places : List ℕ) (i q : ℕ) (out so_far after : List ℕ) → i < length places → q ≡ get_or places i q
    → so_far ≡ out ++ written_fields mode (length cells) (map (field_sent cells) (take i places))
    → after ≡ so_far ++ written_field mode (length cells) (field_sent cells q)
    → after ≡ out ++ written_fields mode (length cells) (map (field_sent cells) (take (i + 1) places))
one_field_more mode cells places i q out so_far after lt is said next =
    let n : ℕ = length cells in
    let w : Sent → List ℕ = written_field mode n in
    let first : List Sent = map (field_sent cells) (take i places) in
    let more : take (i + 1) places ≡ take i places ++ q ∷ [] = take_more places i q lt ∙ ap (λ p. take i places ++ p ∷ []) (sym is) in
    let whole : map (field_sent cells) (take (i + 1) places) ≡ first ++ field_sent cells q ∷ [] = ap (map (field_sent cells)) more ∙ map-append (field_sent cells) (take i places) (q ∷ []) in
    next ∙ ap (λ b. b ++ w (field_sent cells q)) said ∙ append_assoc out (written_fields mode n first) (w (field_sent cells q))
    ∙ ap (λ b. out ++ b) (ap (λ b. written_fields mode n first ++ b) (sym (append-nil (w (field_sent cells q))))
    ∙ sym (ap (flat_map w) whole ∙ flat_map-append w first (field_sent cells q ∷ [])))

pub all_fields : (mode : Mode) (cells : List Cell) (places : List ℕ) (i : ℕ) (out after : List ℕ) → places ≡ modified_places cells → length places ≤ i
    → after ≡ out ++ written_fields mode (length cells) (map (field_sent cells) (take i places))
    → after ≡ out ++ written_fields mode (length cells) (fields_sent cells (attributes_from cells 0))
unfolding fields_sent
all_fields mode cells places i out after is past said =
    said ∙ ap (λ ps. out ++ written_fields mode (length cells) (map (field_sent cells) ps)) (take_all i places past ∙ is)

-- ---- the answer
no_lead : (cells : List Cell) (places : List ℕ) → ltb 0 (length places) ≡ true → lead_sent cells places ≡ []
no_lead cells [] some = absurd cc
no_lead cells (q ∷ places) some = refl

pub listed_bytes : (v : Picture) (empty one addressed out : List ℕ) → is_short_aid v.aid ≡ false → ltb 0 (length (attributes_from v.cells 0)) ≡ true → empty ≡ [] → one ≡ empty ++ v.aid ∷ []
    → addressed ≡ one ++ written_address v.geometry.mode (length v.cells) v.cursor
    → out ≡ addressed ++ written_fields v.geometry.mode (length v.cells) (fields_sent v.cells (attributes_from v.cells 0)) → out ≡ bytes_sent v false
listed_bytes v empty one addressed out long some none first second last =
    let led : addressed ≡ addressed ++ written_characters (lead_sent v.cells (attributes_from v.cells 0)) =
    sym (ap (λ cs. addressed ++ written_characters cs) (no_lead v.cells (attributes_from v.cells 0) some) ∙ append-nil addressed) in
    long_bytes v false empty one addressed addressed out (ap (λ t. t && true) long) none first second led last

-- ---- the modified fields, one after the other
abbrev pub modified_among : List Cell → List FieldAt → List ℕ
modified_among cells fields = filter (is_modified_at cells) (map (λ f. f.at) fields)

places_of : (cells : List Cell) (places : List ℕ) → map (λ f. f.at) (map (field_at cells) places) ≡ places
places_of cells [] = refl
places_of cells (q ∷ places) = ap (λ rest. q ∷ rest) (places_of cells places)

pub among_all : (cells : List Cell) → modified_among cells (fields_of cells) ≡ modified_places cells
among_all cells = ap (filter (is_modified_at cells)) (places_of cells (attributes_from cells 0))

tag_is : (cells : List Cell) (field : FieldAt) → IsFieldOf cells field → is_modified field.attr ≡ is_modified_at cells field.at
tag_is cells field here = ap (λ f. is_modified f.attr) here.same

pub among_more : (cells : List Cell) (field : FieldAt) (fields : List FieldAt) → IsFieldOf cells field → is_modified field.attr ≡ true
    → modified_among cells (field ∷ fields) ≡ field.at ∷ modified_among cells fields
among_more cells field fields here modified = cond-true (is_modified_at cells field.at) _ _ (sym (tag_is cells field here) ∙ modified)

pub among_less : (cells : List Cell) (field : FieldAt) (fields : List FieldAt) → IsFieldOf cells field → is_modified field.attr ≡ false
    → modified_among cells (field ∷ fields) ≡ modified_among cells fields
among_less cells field fields here unmodified = cond-false (is_modified_at cells field.at) _ _ (sym (tag_is cells field here) ∙ unmodified)
