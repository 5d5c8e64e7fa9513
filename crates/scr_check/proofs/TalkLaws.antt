-- What a yes promises of dialogues: each turn's records lead a terminal below the walk's picture, whatever the operator left.
use Rattle.std.proofs.Common.{◌≡◌, ℕ, ◌+◌, ◌%◌, ◌⊎◌, ◌&&◌, Bool, true, false, not, ◌==◌, cond, eqb, ltb, List, [], ◌∷◌, length, map, Some, None, Result, Ok, Err, refl, sym, ◌∙◌, ap, subst, arith, inl, inr}
use Rattle.std.proofs.lemmas.Bool.{cond-true, cond-false, cases_Bool, cases_lt, false≢true, lt-ltb, eqb-true, eq-eqb}
use Rattle.std.proofs.lemmas.List.{get_or_past}
use Rattle.ds_codec.specs.declared.cell.Cell.{Cell}
use Rattle.ds_codec.specs.declared.cell.Cell.TheVariants.{Field, Char}
use Rattle.ds_codec.specs.Attribute.{is_protected, is_modified, with_modified}
use Rattle.ds_screen.specs.declared.lock.Lock.{Lock}
use Rattle.ds_screen.specs.declared.lock.Lock.TheVariants.{Free, Waiting, Error}
use Rattle.ds_screen.specs.Picture.{Picture, IsSound, blank, cell_at, ruled}
use Rattle.ds_screen.specs.Fields.{is_attribute, bits_of, span_of}
use Rattle.ds_screen.specs.Orders.{is_unprotected_attribute}
use Rattle.ds_screen.specs.Records.{unprotected_unmodified, erased}
use Rattle.ds_screen.specs.Worst.{tagged, begins_input, worst_cell, worst_of}
use Rattle.ds_screen.proofs.RuledLaws.{length-ruled, cell_at-ruled}
use Rattle.ds_screen.proofs.WorstLaws.{worst_kind}
use Rattle.ds_keys.specs.declared.key.Key.TheVariants.{Attention}
use Rattle.ds_keys.specs.KeyStep.{Step, is_sending, ignored, sent, attention_step, free_step, step_under, step_of}
use Rattle.ds_keys.specs.KeyRuns as keyed
use Rattle.ds_keys.specs.Laws.{Keeps, is_clear}
use Rattle.ds_keys.proofs.CellLaws.{protected_kept, marked_so, protection_kept}
use Rattle.ds_codec.specs.Same.{same_size}
use Rattle.ds_codec.proofs.Same.{size_self}
use Rattle.scr_check.proofs.KeptLaws.{attribute_shut}
use Rattle.scr_check.proofs.UnderCells.{CellUnder, under_kind, under_protection, under_modified, AreUnder, same_span, same_attributes}
use Rattle.scr_check.proofs.UnderOrders.{IsBelow, shown_below}
use Rattle.scr_check.proofs.FewerTags.{fewer_tags_fewer_findings}
use Rattle.scr_check.proofs.LeadLaws.{ok_is, bind_ok, unless_ok, applied_ok, ready_ok, leads_geometry, with_keyboard, Agree, agree_along, agree_free}
use Rattle.scr_check.proofs.LeadLaws.{IsOpened as IsReadied}
use Rattle.scr_check.proofs.PromiseLaws.{IsOpened}
use Rattle.scr_check.proofs.AnyLaws.{protected_kept_so, answers_for_any}
use Rattle.scr_check.specs.Any.{IsLeftOf, AnyTurnKeeps}
use Rattle.ds_inbound.specs.Answer.{is_modified_at}
use Rattle.scr_check.proofs.UserLaw.{leads_sound}
use Rattle.scr_check.specs.declared.finding.Finding.TheVariants.{NotAWrite, CursorDependent}
use Rattle.scr_check.specs.Opening.{writes, applied, is_free, is_none_of, ready}
use Rattle.scr_check.specs.Findings.{findings_of}
use Rattle.scr_check.specs.Leads.{RecordsLead}
use Rattle.scr_check.specs.Walk.{Round, depends_on_cursor, later_fault, taken_later, later_from, opened_later, later_opening}
use Rattle.scr_layout.specs.Layout.{Declaration}
use Rattle.ds_codec.specs.declared.refused.Refused as read
use Rattle.ds_codec.specs.declared.command.Command.{Command}
use Rattle.ds_codec.specs.declared.size.Size.{Size}
use Rattle.ds_codec.specs.Geometry.{Sizes}
use Rattle.ds_codec.specs.Order.{Site}
use Rattle.ds_codec.specs.Record.{Message}
use Rattle.ds_codec.specs.Reading.{read_of}
use Rattle.ds_screen.specs.declared.field.FieldAt.{FieldAt}
use Rattle.ds_screen.specs.Fields.{field_at, attributes_from, fields_of}
use Rattle.ds_screen.specs.Records.{shown_of}

-- ---- one cell that an operator left, beside the worst one

pub char_under : (x y : Cell) → is_attribute x ≡ false → is_attribute y ≡ false → CellUnder x y
char_under (Field x) y one two = absurd cc
char_under (Char c) (Field y) one two = absurd cc
char_under (Char c) (Char d) one two = tt

set_bits : (bits : ℕ) → is_modified bits ≡ true → bits % 2 ≡ 1
set_bits bits is = eqb-true (bits % 2) 1 is

-- bits that are the same but for the tag, which the second has where the first has
bits_under : (x y : ℕ) → is_protected y ≡ false → with_modified x false ≡ with_modified y false → (is_modified x ≡ true → is_modified y ≡ true) → CellUnder (Field x) (Field y)
bits_under x y opens same more =
    elim (cases_Bool (is_modified x)) [
      | inl set ↦
          let a : x % 2 ≡ 1 = set_bits x set in
          let b : y % 2 ≡ 1 = set_bits y (more set) in
          inl (omega (arith, same, a, b))
      | inr clear ↦ inr (opens, let a : x % 2 ≡ 0 = even x clear in omega (arith, same, a))
    ]
  where
    even : (n : ℕ) → is_modified n ≡ false → n % 2 ≡ 0
    even n clear = elim (cases_lt (n % 2) 1) [ inl less ↦ omega arith | inr more ↦ let e : n % 2 ≡ 1 = omega arith in absurd (false≢true (sym clear ∙ eq-eqb (n % 2) 1 e)) ]

reset_same : (x y : Cell) → is_attribute x ≡ true → is_attribute y ≡ true → is_protected (bits_of y) ≡ false → is_protected (bits_of x) ≡ false → unprotected_unmodified x ≡ unprotected_unmodified y
    → with_modified (bits_of x) false ≡ with_modified (bits_of y) false
reset_same (Char c) y one two opens free same = absurd cc
reset_same (Field x) (Char d) one two opens free same = absurd cc
reset_same (Field x) (Field y) one two opens free same =
    sym (cond-false (is_protected x) x (with_modified x false) free) ∙ ap bits_of same ∙ cond-false (is_protected y) y (with_modified y false) opens

under_reset : (x y : Cell) → CellUnder x y → is_attribute y ≡ true → is_protected (bits_of y) ≡ false → with_modified (bits_of x) false ≡ with_modified (bits_of y) false
under_reset (Field x) (Field y) (inl same) there opens = ap (λ b. with_modified b false) same
under_reset (Field x) (Field y) (inr (free, is)) there opens = ap (λ b. with_modified b false) is ∙ (let e : with_modified (with_modified y false) false ≡ with_modified y false = omega arith in e)
under_reset (Field x) (Char d) u there opens = absurd u
under_reset (Char c) y u there opens = absurd (no_field c y u there)
  where
    no_field : (c : _) (y : Cell) → CellUnder (Char c) y → is_attribute y ≡ true → ⊥
    no_field c (Field y) u there = u
    no_field c (Char d) u there = false≢true there

fixed_same : (x y z : Cell) → is_attribute x ≡ true → is_protected (bits_of y) ≡ true → unprotected_unmodified x ≡ unprotected_unmodified y → CellUnder y z → CellUnder x z
fixed_same x (Field y) (Field z) there shut same (inr (free, is)) = absurd (false≢true (sym (under_protection (Field y) (Field z) (inr (free, is)) ∙ free) ∙ shut))
fixed_same (Field x) (Field y) (Field z) there shut same (inl is) =
    let kept : unprotected_unmodified (Field y) ≡ Field y = ap (λ b. Field b) (cond-true (is_protected y) y (with_modified y false) shut) in
    inl (kept_bits x y shut (same ∙ kept) ∙ is)
  where
    field_bits : (a b : ℕ) → Field a ≡ Field b → a ≡ b
    field_bits a b e = cc

    kept_bits : (x y : ℕ) → is_protected y ≡ true → unprotected_unmodified (Field x) ≡ Field y → x ≡ y
    kept_bits x y shut e =
        elim (cases_Bool (is_protected x)) [
          | inl fixed ↦ sym (cond-true (is_protected x) x (with_modified x false) fixed) ∙ field_bits _ _ e
          | inr opens ↦
              let b : with_modified x false ≡ y = sym (cond-false (is_protected x) x (with_modified x false) opens) ∙ field_bits _ _ e in
              absurd (false≢true (sym (protected_kept x false ∙ opens) ∙ ap is_protected b ∙ shut))
        ]
fixed_same (Char c) y z there shut same u = absurd cc
fixed_same (Field x) (Char d) z there shut same u = absurd cc
fixed_same (Field x) (Field y) (Char d) there shut same u = absurd u

-- the cell of an attribute, after the operator
pub attribute_under : (x y z : Cell) (t : Bool) → is_attribute x ≡ true → is_attribute y ≡ true → unprotected_unmodified x ≡ unprotected_unmodified y → CellUnder y z
    → (is_modified (bits_of x) ≡ true → is_protected (bits_of y) ≡ false → is_modified (bits_of (cond (is_unprotected_attribute z && t) (tagged z) z)) ≡ true)
    → CellUnder x (cond (is_unprotected_attribute z && t) (tagged z) z)
attribute_under (Char c) y z t one two same u more = absurd cc
attribute_under (Field x) (Char d) z t one two same u more = absurd cc
attribute_under (Field x) (Field y) (Char d) t one two same u more = absurd u
attribute_under (Field x) (Field y) (Field z) t one two same u more =
    elim (cases_Bool (is_protected y)) [
      | inl shut ↦
          let fixed : is_protected z ≡ true = sym (under_protection (Field y) (Field z) u) ∙ shut in
          let plain : cond (not (is_protected z) && t) (Field (with_modified z true)) (Field z) ≡ Field z = ap (λ b. cond (not b && t) (Field (with_modified z true)) (Field z)) fixed in
          subst (CellUnder (Field x)) (sym plain) (fixed_same (Field x) (Field y) (Field z) one shut same u)
      | inr opens ↦
          let free : is_protected x ≡ false = sym (protection_kept (Field x)) ∙ ap (λ c. is_protected (bits_of c)) same ∙ protection_kept (Field y) ∙ opens in
          let loose : is_protected z ≡ false = sym (under_protection (Field y) (Field z) u) ∙ opens in
          let bits : with_modified x false ≡ with_modified z false = reset_same (Field x) (Field y) one two opens free same ∙ under_reset (Field y) (Field z) u refl loose in
          either_tag (not (is_protected z) && t) x z loose bits (λ set. more set opens)
    ]
  where
    either_tag : (b : Bool) (x z : ℕ) → is_protected z ≡ false → with_modified x false ≡ with_modified z false
        → (is_modified x ≡ true → is_modified (bits_of (cond b (Field (with_modified z true)) (Field z))) ≡ true) → CellUnder (Field x) (cond b (Field (with_modified z true)) (Field z))
    either_tag true x z loose bits more =
        bits_under x (with_modified z true) (protected_kept z true ∙ loose) (bits ∙ (let e : with_modified z false ≡ with_modified (with_modified z true) false = omega arith in e)) more
    either_tag false x z loose bits more = bits_under x z loose bits more

-- ---- what keys leave
-- an unprotected attribute that was modified or governs a cell is modified in the worst picture
pub marked_worst : (a b : List Cell) (q : ℕ) → AreUnder a b → is_attribute (cell_at a q) ≡ true → is_protected (bits_of (cell_at a q)) ≡ false
    → (is_modified (bits_of (cell_at a q)) ≡ true) ⊎ (length (span_of a q) ≡ 0 → ⊥) → is_modified (bits_of (worst_cell b q)) ≡ true
unfolding worst_cell
marked_worst a b q u there opens (inl was) = still (begins_input b q) (cell_at b q) (under_modified (cell_at a q) (cell_at b q) (u.each q) was)
  where
    still : (t : Bool) (x : Cell) → is_modified (bits_of x) ≡ true → is_modified (bits_of (cond t (tagged x) x)) ≡ true
    still true (Field bits) was = marked_so bits
    still true (Char c) was = was
    still false x was = was
marked_worst a b q u there opens (inr governs_some) =
    let some : ltb 0 (length (span_of b q)) ≡ true = positive (length (span_of b q)) (λ none. governs_some (ap length (same_span a b q u) ∙ none)) in
    let attribute : is_attribute (cell_at b q) ≡ true = sym (under_kind (cell_at a q) (cell_at b q) (u.each q)) ∙ there in
    let free : is_protected (bits_of (cell_at b q)) ≡ false = sym (under_protection (cell_at a q) (cell_at b q) (u.each q)) ∙ opens in
    let does : begins_input b q ≡ true = ap (λ t. is_unprotected_attribute (cell_at b q) && t) some ∙ and_yes (is_unprotected_attribute (cell_at b q)) ∙ unprotected (cell_at b q) attribute free in
    ap (λ c. is_modified (bits_of c)) (cond-true (begins_input b q) (tagged (cell_at b q)) (cell_at b q) does) ∙ tagged_so (cell_at b q) attribute
  where
    and_yes : (t : Bool) → (t && true) ≡ t
    and_yes true = refl
    and_yes false = refl

    positive : (n : ℕ) → (n ≡ 0 → ⊥) → ltb 0 n ≡ true
    positive n some = elim (cases_lt 0 n) [ inl more ↦ lt-ltb 0 n more | inr none ↦ absurd (some (omega arith)) ]

    unprotected : (x : Cell) → is_attribute x ≡ true → is_protected (bits_of x) ≡ false → is_unprotected_attribute x ≡ true
    unprotected (Field bits) attribute free = ap not free
    unprotected (Char c) attribute free = absurd cc

    tagged_so : (x : Cell) → is_attribute x ≡ true → is_modified (bits_of (tagged x)) ≡ true
    tagged_so (Field bits) attribute = marked_so bits
    tagged_so (Char c) attribute = absurd cc

-- ---- what was left lies below the worst

left_worst : (opened v w : Picture) (q : ℕ) → IsLeftOf opened v → AreUnder opened.cells w.cells → is_attribute (cell_at opened.cells q) ≡ true → is_protected (bits_of (cell_at opened.cells q)) ≡ false
    → is_modified_at v.cells q ≡ true → is_modified (bits_of (worst_cell w.cells q)) ≡ true
left_worst opened v w q left u there opens set = marked_worst opened.cells w.cells q u there opens (by_span (span_of opened.cells q) refl)
  where
    by_span : (span : List ℕ) → span_of opened.cells q ≡ span → (is_modified (bits_of (cell_at opened.cells q)) ≡ true) ⊎ (length (span_of opened.cells q) ≡ 0 → ⊥)
    by_span [] none = inl (left.empty q none set)
    by_span (p ∷ ps) some = inr (λ none. let e : length (p ∷ ps) ≡ 0 = sym (ap length some) ∙ none in absurd (omega (arith, e)))

left_cell : (opened v w : Picture) (p : ℕ) → IsLeftOf opened v → AreUnder opened.cells w.cells → CellUnder (cell_at v.cells p) (worst_cell w.cells p)
unfolding worst_cell
left_cell opened v w p left u =
    let k : Keeps opened.cells v.cells = protected_kept_so opened.cells v.cells left.kept in
    let x : Cell = cell_at v.cells p in
    let y : Cell = cell_at opened.cells p in
    let kind : is_attribute x ≡ is_attribute y = left.kept.places p in
    elim (cases_Bool (is_attribute y)) [
      | inl there ↦
          attribute_under x y (cell_at w.cells p) (ltb 0 (length (span_of w.cells p))) (kind ∙ there) there (k.closed p (attribute_shut opened.cells p there)) (u.each p)
          (λ set opens. left_worst opened v w p left u there opens set)
      | inr none ↦
          char_under x (worst_cell w.cells p) (kind ∙ none) (worst_kind w.cells p ∙ sym (under_kind y (cell_at w.cells p) (u.each p)) ∙ none)
    ]

left_under : (opened v w : Picture) → IsLeftOf opened v → AreUnder opened.cells w.cells → AreUnder v.cells (ruled (length w.cells) (worst_cell w.cells))
left_under opened v w left u =
    let n : ℕ = length w.cells in
    record {
      whole = left.kept.whole ∙ u.whole ∙ sym (length-ruled n (worst_cell w.cells));
      each = λ p. elim (cases_lt p n) [
        | inl lt ↦ subst (CellUnder (cell_at v.cells p)) (sym (cell_at-ruled n (worst_cell w.cells) p lt)) (left_cell opened v w p left u)
        | inr past ↦
            let x : cell_at v.cells p ≡ blank = get_or_past v.cells p blank (omega (arith, left.kept.whole, u.whole)) in
            let y : cell_at (ruled n (worst_cell w.cells)) p ≡ blank = get_or_past (ruled n (worst_cell w.cells)) p blank (omega (arith, length-ruled n (worst_cell w.cells))) in
            char_under (cell_at v.cells p) (cell_at (ruled n (worst_cell w.cells)) p) (ap is_attribute x) (ap is_attribute y)
      ];
    }

-- the same picture, with the keyboard waiting and no attention key
abbrev pub waiting : Picture → Picture
waiting v = with_keyboard v Waiting 0x60

pub waits_below : (opened v w : Picture) → IsLeftOf opened v → IsBelow opened w → IsBelow (waiting v) (worst_of w)
waits_below opened v w left below =
    record { geometry = left.geometry ∙ below.geometry; size = left.size ∙ below.size; lock = refl; cells = left_under opened v w left below.cells }

-- ---- the attention key
waits_not : (aid : ℕ) (v : Picture) → keyed.is_accepted (ignored v).pressed ≡ true → ⊥
waits_not aid v is = false≢true is

attention_leaves : (v : Picture) (aid : ℕ) → is_clear (Attention aid) ≡ false → keyed.is_accepted (attention_step v aid).pressed ≡ true → (attention_step v aid).after ≡ (sent v aid).after
unfolding attention_step
attention_leaves v aid other accepted =
    elim (cases_Bool (not (is_sending aid))) [
      | inl none ↦ absurd (false≢true (sym (ap (λ (s : Step). keyed.is_accepted s.pressed) (cond-true (not (is_sending aid)) _ _ none)) ∙ accepted))
      | inr key ↦ ap (λ (s : Step). s.after) (cond-false (not (is_sending aid)) _ _ key ∙ cond-false (eqb aid 0x6D) (sent (erased v.geometry.default v) aid) (sent v aid) other)
    ]

under_leaves : (lock : Lock) (v : Picture) (aid : ℕ) → is_clear (Attention aid) ≡ false → keyed.is_accepted (step_under lock v (Attention aid)).pressed ≡ true
    → (step_under lock v (Attention aid)).after ≡ (sent v aid).after
unfolding free_step
under_leaves Free v aid other accepted = attention_leaves v aid other accepted
under_leaves Waiting v aid other accepted = absurd (false≢true accepted)
under_leaves Error v aid other accepted = absurd (false≢true accepted)

pub key_leaves : (v : Picture) (aid : ℕ) → is_clear (Attention aid) ≡ false → keyed.IsAccepted v (Attention aid) → keyed.after_key v (Attention aid) ≡ (sent v aid).after
unfolding step_of
key_leaves v aid other accepted = under_leaves v.lock v aid other accepted

-- ---- records
taken_later_ok : (index : ℕ) (v w : Picture) (r : Result Message read.Refused) → taken_later index v r ≡ Ok w
    → (message : Message) × (r ≡ Ok message) × (later_fault index message.command message.orders ≡ None) × (shown_of v message.command message.orders ≡ Ok w)
taken_later_ok index v w (Err refused) is = absurd cc
taken_later_ok index v w (Ok message) is =
    let parts = unless_ok (later_fault index message.command message.orders) (applied index (shown_of v message.command message.orders)) w is in
    (message, refl, parts.0, applied_ok index (shown_of v message.command message.orders) w parts.1)

no_fault : (index : ℕ) (command : Command) (orders : List Site) → later_fault index command orders ≡ None → depends_on_cursor command orders ≡ false
no_fault index command orders none = by (writes command) (depends_on_cursor command orders) none
  where
    by : (t s : Bool) → cond t (cond s (Some (CursorDependent index)) None) (Some (NotAWrite index)) ≡ None → s ≡ false
    by true true none = absurd cc
    by true false none = refl
    by false s none = absurd cc

-- the records of a later turn lead the picture below to one below
pub records_below : (index : ℕ) (records : List (List ℕ)) (a b w : Picture) → IsBelow a b → later_from index b records ≡ Ok w → (x : Picture) × RecordsLead a records x × IsBelow x w
records_below index [] a b w below is = (a, refl, subst (IsBelow a) (ok_is b w (Ok b) refl is) below)
records_below index (bytes ∷ others) a b w below is =
    let both = bind_ok (taken_later index b (read_of b.geometry.mode bytes)) (λ next. later_from (index + 1) next others) w is in
    let parts = taken_later_ok index b both.0 (read_of b.geometry.mode bytes) both.1 in
    let message : Message = parts.0 in
    let step = shown_below message.command message.orders a b both.0 below (no_fault index message.command message.orders parts.2) parts.3 in
    let rest = records_below (index + 1) others step.0 both.0 w step.2 both.2 in
    (rest.0, (message, step.0, ap (λ (g : Sizes). read_of g.mode bytes) below.geometry ∙ parts.1, step.1, rest.1), rest.2)

-- ---- one turn
pub ready_so : (size : Size) (v : Picture) → v.lock ≡ Free → v.size ≡ size → (fields_of v.cells ≡ [] → ⊥) → ready size v ≡ Ok v
ready_so size v free same some =
    cond-false (not (is_free v.lock)) _ _ (ap (λ l. not (is_free l)) free)
    ∙ cond-false (not (same_size v.size size)) _ _ (ap not (ap (λ s. same_size v.size s) (sym same) ∙ size_self v.size))
    ∙ cond-false (is_none_of (fields_of v.cells)) _ _ (not_none (fields_of v.cells) some)
  where
    not_none : (fields : List FieldAt) → (fields ≡ [] → ⊥) → is_none_of fields ≡ false
    not_none [] some = absurd (some refl)
    not_none (field ∷ fields) some = refl

-- what a later turn comes to: the records lead the actual picture below the walk's
pub record TurnBelow (a : Picture) (round : Round) (w : Picture) : Type 0 where
  pub opened : Picture
  pub leads : RecordsLead a round.records opened
  pub below : IsBelow opened w
  pub sound : IsSound opened
  pub keeps : AnyTurnKeeps a round

later_led : (b : Picture) (layout : Declaration) (records : List (List ℕ)) (w : Picture) → opened_later b layout records ≡ Ok w → (later_from 0 (worst_of b) records ≡ Ok w) × IsReadied layout.size w
later_led b layout [] w opens = absurd cc
later_led b layout (bytes ∷ others) w opens =
    let both = bind_ok (later_from 0 (worst_of b) (bytes ∷ others)) (ready layout.size) w opens in
    let last = ready_ok layout.size both.0 w both.2 in
    (both.1 ∙ ap Ok last.0, subst (IsReadied layout.size) last.0 last.1)

no_fields : (a b : List Cell) → AreUnder a b → fields_of a ≡ [] → fields_of b ≡ []
no_fields a b u none = ap (map (field_at b)) (sym (same_attributes a b 0 u) ∙ unmapped (field_at a) (attributes_from a 0) none)
  where
    unmapped : {X Y : Type 0} (f : X → Y) (xs : List X) → map f xs ≡ [] → xs ≡ []
    unmapped f [] none = refl
    unmapped f (x ∷ xs) none = absurd cc

-- a picture that does not wait is led to the same one
leads_unlocked : (a x : Picture) (records : List (List ℕ)) → RecordsLead (waiting a) records x → x.lock ≡ Free → RecordsLead a records x
leads_unlocked a x records leads free =
    let agree : Agree (waiting a) a = record { lock = a.lock; aid = a.aid; same = refl; until = inr refl } in
    let along = agree_along (waiting a) a x records agree leads in
    subst (RecordsLead a records) (agree_free x along.0 along.2 free) along.1

pub turn_below : (a b w : Picture) (round : Round) → IsSound (waiting a) → IsBelow (waiting a) (worst_of b) → a.geometry ≡ round.layout.geometry
    → later_opening b round ≡ Ok w → findings_of round.layout w ≡ [] → TurnBelow a round w
turn_below a b w round sound below geometry opens clean =
    let led = later_led b round.layout round.records w opens in
    let made = records_below 0 round.records (waiting a) (worst_of b) w below led.0 in
    let x : Picture = made.0 in
    let good : IsSound x = leads_sound (waiting a) x round.records sound made.1 in
    let free : x.lock ≡ Free = made.2.lock ∙ led.1.free in
    let sized : x.size ≡ round.layout.size = made.2.size ∙ led.1.whole in
    let some : fields_of x.cells ≡ [] → ⊥ = λ none. led.1.formatted (no_fields x.cells w.cells made.2.cells none) in
    let fewer : findings_of round.layout x ≡ [] = fewer_tags_fewer_findings round.layout x w made.2.cells clean in
    let leads : RecordsLead a round.records x = leads_unlocked a x round.records made.1 free in
    let is : IsOpened round.layout x = record { sound = good; geometry = leads_geometry a x round.records leads ∙ geometry; size = sized; some = some } in
    record {
      opened = x;
      leads = leads;
      below = made.2;
      sound = good;
      keeps = record { opened = x; leads = leads; sound = good; usable = ready_so round.layout.size x free sized some; clean = fewer; promise = answers_for_any round.layout x is fewer };
    }
