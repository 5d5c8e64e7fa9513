-- Each finding with a demo is shown by its keys.
use Rattle.std.proofs.Common.{◌≡◌, ℕ, zero, suc, ◌+◌, ◌-◌, ◌<◌, ◌≤◌, ◌==◌, Bool, true, false, not, cond, eqb, List, [], ◌∷◌, ◌++◌, length, map, replicate, Option, Some, None, refl, sym, ◌∙◌, ap, subst, arith, inl, inr}
use Rattle.std.specs.Prelude.{nat_lt}
use Rattle.std.specs.List.{range_with_len, filter, flat_map, slice_get}
use Rattle.std.specs.Option.{option_to_list}
use Rattle.std.proofs.lemmas.Bool.{cond-true, cond-false, cases_Bool, false≢true, not-true, eq-eqb, eqb-true, ltb-true}
use Rattle.ds_codec.specs.declared.cell.Cell.{Cell}
use Rattle.ds_codec.specs.Aid.{is_long_aid, is_short_aid}
use Rattle.ds_codec.specs.Attribute.{is_protected, is_modified}
use Rattle.ds_codec.specs.Character.{Glyph, glyph, is_graphic}
use Rattle.ds_screen.specs.declared.lock.Lock.TheVariants.{Free, Waiting}
use Rattle.ds_screen.specs.declared.field.FieldAt.{FieldAt}
use Rattle.ds_screen.specs.Ring.{ring_on, ring_distance}
use Rattle.ds_screen.specs.Picture.{Picture, IsSound, cell_at}
use Rattle.ds_screen.specs.Fields.{is_attribute, bits_of, governs, span_of, field_at, attributes_from, fields_of}
use Rattle.ds_keys.specs.declared.key.Key.{Key}
use Rattle.ds_keys.specs.declared.key.Key.TheVariants.{Typed, Right, Attention}
use Rattle.ds_keys.specs.KeyRuns as keyed
use Rattle.ds_keys.specs.Touched.{IsTouched}
use Rattle.ds_keys.specs.Laws.{Keeps}
use Rattle.ds_keys.proofs.CellLaws.{same_kind, same_governs, keeps_same}
use Rattle.ds_keys.proofs.TouchLaws.{touched_law}
use Rattle.ds_inbound.specs.Answer as inbound
use Rattle.ds_inbound.specs.Answer.{character_of, is_null, characters_at, is_modified_at, field_sent, fields_sent}
use Rattle.ds_inbound.proofs.Spans.{span_is_run}
use Rattle.scr_layout.specs.declared.entry.Kind.{Kind}
use Rattle.scr_layout.specs.declared.entry.Kind.TheVariants.{Input, Fixed}
use Rattle.scr_layout.specs.Entry.{Declared}
use Rattle.scr_layout.specs.Layout.{Declaration}
use Rattle.scr_check.specs.declared.finding.Demo.{Demo}
use Rattle.scr_check.specs.declared.finding.Finding.{Finding}
use Rattle.scr_check.specs.declared.finding.Finding.TheVariants.{Undeclared, UndeclaredFixed, Missing, TooLong, OtherKind, EmptyModified}
use Rattle.scr_check.specs.Findings.{entry_at, demo_at, no_keys, length_demo, is_of_kind, empty_finding, undeclared_finding, declared_finding, at_entry, entry_finding, field_finding, has_field, missing_finding, missing_from, findings_of}
use Rattle.scr_check.specs.Promise.{Promise, BreaksPromise, IsDeclaredField}
use Rattle.scr_check.specs.Demos.{demo_keys, demo_answer, IsUnfit, DemoShows, DemoShowsIf, IsFixedEntry, IsShown}
use Rattle.scr_check.proofs.ListLaws.{Each, each_at, each_append, each_flat, each_option, each_map, each_kept, position_there, IsIn, in_range, in_filter, in_map, full_length, same_map, same_filter, some_same, none_some}
use Rattle.scr_check.proofs.DemoKeys.{runs_on, enter_accepted, enter_after, place_run}
use Rattle.scr_check.proofs.DemoTyping.{IsInput, place_of, nth_of, place_lt, IsTyped, typed_none, TypesTo, types_run}

-- ---- what Enter sends
entered_fields : (w : Picture) → (inbound.answer_of (record w { lock = Waiting; aid = 0x7D }) false).fields ≡ fields_sent w.cells (attributes_from w.cells 0)
unfolding inbound.answer_of is_short_aid
entered_fields w = refl

-- a modified attribute is among the fields
sent_there : (cells : List Cell) (q : ℕ) → q < length cells → is_attribute (cell_at cells q) ≡ true → is_modified (bits_of (cell_at cells q)) ≡ true
    → IsIn (field_sent cells q) (fields_sent cells (attributes_from cells 0))
unfolding fields_sent
sent_there cells q inside there modified =
    let from : 0 + q ≡ q = omega arith in
    let all : IsIn q (range_with_len 0 (length cells - 0)) = subst (λ p. IsIn p (range_with_len 0 (length cells - 0))) from (in_range 0 (length cells - 0) q (omega arith)) in
    in_map (field_sent cells) q (filter (is_modified_at cells) (attributes_from cells 0))
    (in_filter (is_modified_at cells) q (attributes_from cells 0) modified
    (in_filter (λ p. is_attribute (cell_at cells p)) q (range_with_len 0 (length cells - 0)) there all))

-- where a field is modified after keys of which none sends, a promise of these keys says that it is declared
declared_after : (layout : Declaration) (v w : Picture) (keys : List Key) (q : ℕ) → keyed.is_quiet v keys ≡ true → keyed.after v keys ≡ w → w.lock ≡ Free
    → is_attribute (cell_at v.cells q) ≡ true → is_modified (bits_of (cell_at w.cells q)) ≡ true → Promise layout v keys → IsDeclaredField layout.entries v.cells w.cells q
unfolding is_long_aid
declared_after layout v w keys q quiet comes free there modified p =
    let sends = p.sends 0x7D refl (ap (λ (x : Picture). x.lock) comes ∙ free) in
    let touched : IsTouched v keys q = (touched_law v keys q quiet there).0 (ap (λ (x : Picture). is_modified (bits_of (cell_at x.cells q))) comes ∙ modified) in
    subst (λ (x : Picture). IsDeclaredField layout.entries v.cells x.cells q) comes (sends.declared q ((sends.touched.exactly q).1 (there, touched)))

not_declared : (entries : List Declared) (before after : List Cell) (q : ℕ) → IsUnfit entries (field_sent after q) → IsDeclaredField entries before after q → ⊥
not_declared entries before after q (inl none) d = none_some d.index (sym none ∙ d.here)
not_declared entries before after q (inr (index, entry, found, there, long)) d =
    let same : d.index ≡ index = some_same d.index index (sym d.here ∙ found) in
    let one : d.entry ≡ entry = some_same d.entry entry (sym d.declared ∙ ap (slice_get entries) same ∙ there) in
    let short : length (field_sent after q).characters ≤ entry.length = subst (λ (e : Declared). length (field_sent after q).characters ≤ e.length) one d.short in
    omega (arith, short, long)

-- so keys that leave an unfit field break it
unfit_breaks : (layout : Declaration) (v w : Picture) (keys : List Key) (q : ℕ) → keyed.is_quiet v keys ≡ true → keyed.after v keys ≡ w → w.lock ≡ Free
    → is_attribute (cell_at v.cells q) ≡ true → is_modified (bits_of (cell_at w.cells q)) ≡ true → IsUnfit layout.entries (field_sent w.cells q) → BreaksPromise layout v
unfit_breaks layout v w keys q quiet comes free there modified unfit =
    record {
      keys = keys;
      quiet = quiet;
      broken = λ p. not_declared layout.entries v.cells w.cells q unfit (declared_after layout v w keys q quiet comes free there modified p);
    }

-- where the keys but the last lead to w, and a field of w is unfit, the demo shows it
shows : (layout : Declaration) (v w : Picture) (demo : Demo) (q : ℕ) → keyed.are_accepted v (demo_keys demo) ≡ keyed.are_accepted w (Attention 0x7D ∷ [])
    → keyed.after v (demo_keys demo) ≡ keyed.after w (Attention 0x7D ∷ []) → w.lock ≡ Free → q < length w.cells → is_attribute (cell_at w.cells q) ≡ true
    → is_modified (bits_of (cell_at w.cells q)) ≡ true → IsUnfit layout.entries (field_sent w.cells q) → BreaksPromise layout v → DemoShows layout v demo
shows layout v w demo q takes comes free inside there modified unfit breaks =
    let is = sent_there w.cells q inside there modified in
    let fields : (demo_answer v demo).fields ≡ fields_sent w.cells (attributes_from w.cells 0) =
    ap (λ (x : Picture). (inbound.answer_of x false).fields) (comes ∙ enter_after w free) ∙ entered_fields w in
    record {
      accepted = takes ∙ enter_accepted w free;
      at = is.0;
      field = field_sent w.cells q;
      there = ap (λ fs. slice_get fs is.0) fields ∙ is.1;
      unfit = unfit;
      breaks = breaks;
    }

-- ---- a field that is modified before any key
pub modified_breaks : (layout : Declaration) (v : Picture) (q : ℕ) → v.lock ≡ Free → is_attribute (cell_at v.cells q) ≡ true
    → is_modified (bits_of (cell_at v.cells q)) ≡ true → entry_at layout.entries (field_at v.cells q).place ≡ None → BreaksPromise layout v
unfolding field_sent keyed.after keyed.is_quiet
modified_breaks layout v q free there modified none = unfit_breaks layout v v [] q refl refl free there modified (inl none)

pub fixed_shown : (layout : Declaration) (v : Picture) (q : ℕ) → v.lock ≡ Free → q < length v.cells → is_attribute (cell_at v.cells q) ≡ true
    → is_modified (bits_of (cell_at v.cells q)) ≡ true → entry_at layout.entries (field_at v.cells q).place ≡ None → DemoShows layout v no_keys
unfolding field_sent
fixed_shown layout v q free inside there modified none =
    shows layout v v no_keys q refl refl free inside there modified (inl none) (modified_breaks layout v q free there modified none)

-- ---- characters typed into a field
pub cursor_lt : (v : Picture) → IsSound v → v.cursor < length v.cells
cursor_lt v s = let P : ℕ → Type 0 = λ n. v.cursor < n in subst P (sym s.whole) s.cursor_inside

-- Right to the field's first cell, then this character so many times, then other keys
abbrev filling_keys : Picture → ℕ → ℕ → ℕ → List Key → List Key
filling_keys v q code types rest = replicate (ring_distance (length v.cells) v.cursor (place_of v.cells q)) Right ++ (replicate types (Typed code) ++ rest)

-- a picture that these keys lead to
record Filled (v : Picture) (q code types : ℕ) : Type 0 where
  last : Picture
  comes : (rest : List Key) → keyed.after v (filling_keys v q code types rest) ≡ keyed.after last rest
  takes : (rest : List Key) → keyed.are_accepted v (filling_keys v q code types rest) ≡ keyed.are_accepted last rest
  quiet : (rest : List Key) → keyed.is_quiet v (filling_keys v q code types rest) ≡ keyed.is_quiet last rest
  is : IsTyped v.cells q code types last

fills : (v : Picture) (q code types : ℕ) → IsSound v → v.lock ≡ Free → IsInput v.cells q → is_graphic code ≡ true → types ≤ length (span_of v.cells q) → Filled v q code types
fills v q code types sound free input graphic few =
    let place : ℕ = place_of v.cells q in
    let start : Picture = record v { cursor = place } in
    let rights : List Key = replicate (ring_distance (length v.cells) v.cursor place) Right in
    let goes = place_run v place free (cursor_lt v sound) (place_lt v.cells q input.inside) in
    let to : TypesTo v.cells q code 0 types start = types_run types v.cells q code 0 start input graphic (typed_none v q code free input) (omega arith) in
    let count : 0 + types ≡ types = omega arith in
    record {
      last = to.last;
      comes = λ rest. (runs_on v start to.last rights (replicate types (Typed code)) goes to.runs rest).0;
      takes = λ rest. (runs_on v start to.last rights (replicate types (Typed code)) goes to.runs rest).1.0;
      quiet = λ rest. (runs_on v start to.last rights (replicate types (Typed code)) goes to.runs rest).1.1;
      is = subst (λ k. IsTyped v.cells q code k to.last) count to.is;
    }

sent_place : (before after : List Cell) (q : ℕ) → length after ≡ length before → (field_sent after q).place ≡ (field_at before q).place
unfolding field_sent
sent_place before after q len = ap (λ n. ring_on n q 1) len

-- the attribute at q in the filled picture
filled_inside : (v : Picture) (q code types : ℕ) (w : Picture) → IsInput v.cells q → IsTyped v.cells q code types w → q < length w.cells
filled_inside v q code types w input is = let P : ℕ → Type 0 = λ n. q < n in subst P (sym is.keeps.whole) input.inside

-- a demo that fills an input shows it, where what is sent then is unfit
filled_shown : (layout : Declaration) (v : Picture) (q types : ℕ) → 0 < types → IsInput v.cells q → (filled : Filled v q 0xC1 types)
    → IsUnfit layout.entries (field_sent filled.last.cells q) → DemoShows layout v (demo_at v (field_at v.cells q) types)
unfolding keyed.after keyed.is_quiet
filled_shown layout v q types some input filled unfit =
    let w : Picture = filled.last in
    let is : IsTyped v.cells q 0xC1 types w = filled.is in
    let modified : is_modified (bits_of (cell_at w.cells q)) ≡ true = is.modified some in
    shows layout v w (demo_at v (field_at v.cells q) types) q (filled.takes (Attention 0x7D ∷ [])) (filled.comes (Attention 0x7D ∷ [])) is.free
    (filled_inside v q 0xC1 types w input is) (same_kind v.cells w.cells q is.keeps ∙ input.there) modified unfit
    (unfit_breaks layout v w (filling_keys v q 0xC1 types []) q (filled.quiet []) (filled.comes []) is.free input.there modified unfit)

-- ---- an input without an entry
pub undeclared_shown : (layout : Declaration) (v : Picture) (q : ℕ) → IsSound v → v.lock ≡ Free → IsInput v.cells q → 0 < length (span_of v.cells q)
    → entry_at layout.entries (field_at v.cells q).place ≡ None → DemoShows layout v (demo_at v (field_at v.cells q) 1)
undeclared_shown layout v q sound free input some none =
    let filled : Filled v q 0xC1 1 = fills v q 0xC1 1 sound free input refl (omega arith) in
    filled_shown layout v q 1 (omega arith) input filled
    (inl (ap (entry_at layout.entries) (sent_place v.cells filled.last.cells q filled.is.keeps.whole) ∙ none))

-- ---- an input that is longer than declared
span_same : (before after : List Cell) (q : ℕ) → Keeps before after → span_of after q ≡ span_of before q
unfolding span_of
span_same before after q k =
    ap (λ n. filter (governs after q) (map (ring_on n q) (range_with_len 1 (n - 1)))) k.whole
    ∙ same_filter (governs after q) (governs before q) (map (ring_on (length before) q) (range_with_len 1 (length before - 1))) (λ p. same_governs before after q p k)

-- the characters of a field that kept its cells, place by place
sent_run : (before after : List Cell) (q : ℕ) → q < length before → is_attribute (cell_at before q) ≡ true → Keeps before after
    → (field_sent after q).characters ≡ characters_at after (map (nth_of before q) (range_with_len 0 (length (span_of before q))))
unfolding field_sent
sent_run before after q inside there k = ap (characters_at after) (span_same before after q k ∙ span_is_run before q inside there)

full_field : (cells : List Cell) (q : ℕ) (w : Picture) → IsInput cells q → IsTyped cells q 0xC1 (length (span_of cells q)) w
    → length (field_sent w.cells q).characters ≡ length (span_of cells q)
unfolding characters_at
full_field cells q w input is =
    ap length (sent_run cells w.cells q input.inside input.there is.keeps)
    ∙ full_length (λ c. not (is_null c)) (λ p. character_of (cell_at w.cells p)) (nth_of cells q) 0 (length (span_of cells q))
    (λ i from below. ap (λ x. not (is_null (character_of x))) (is.filled i (omega arith)))

pub long_shown : (layout : Declaration) (v : Picture) (q index : ℕ) (entry : Declared) → IsSound v → v.lock ≡ Free → IsInput v.cells q → 0 < length (span_of v.cells q)
    → entry_at layout.entries (field_at v.cells q).place ≡ Some index → slice_get layout.entries index ≡ Some entry → entry.length < length (span_of v.cells q)
    → DemoShows layout v (demo_at v (field_at v.cells q) (length (span_of v.cells q)))
long_shown layout v q index entry sound free input some found declared long =
    let filled : Filled v q 0xC1 (length (span_of v.cells q)) = fills v q 0xC1 (length (span_of v.cells q)) sound free input refl (omega arith) in
    let full : length (field_sent filled.last.cells q).characters ≡ length (span_of v.cells q) = full_field v.cells q filled.last input filled.is in
    filled_shown layout v q (length (span_of v.cells q)) some input filled
    (inr (
      index,
      entry,
      ap (entry_at layout.entries) (sent_place v.cells filled.last.cells q filled.is.keeps.whole) ∙ found,
      declared,
      let P : ℕ → Type 0 = λ n. entry.length < n in subst P (sym full) long,
    ))

-- ---- a fixed entry on an unprotected field
-- a character that the cell doesn't hold
abbrev other_code : ℕ → ℕ
other_code code = cond (eqb code 0xC1) 0xC2 0xC1

other_apart : (code : ℕ) → code ≡ other_code code → ⊥
other_apart code same =
    elim (cases_Bool (eqb code 0xC1)) [
      | inl is ↦
          let first : code ≡ 0xC1 = eqb-true code 0xC1 is in
          let second : code ≡ 0xC2 = same ∙ cond-true (eqb code 0xC1) 0xC2 0xC1 is in
          omega arith
      | inr none ↦ false≢true (sym none ∙ eq-eqb code 0xC1 (same ∙ cond-false (eqb code 0xC1) 0xC2 0xC1 none))
    ]

cond_graphic : (t : Bool) → is_graphic (cond t 0xC2 0xC1) ≡ true
cond_graphic true = refl
cond_graphic false = refl

other_graphic : (code : ℕ) → is_graphic (other_code code) ≡ true
other_graphic code = cond_graphic (eqb code 0xC1)

cond_some : (t : Bool) → is_null (glyph (cond t 0xC2 0xC1) false) ≡ false
cond_some true = refl
cond_some false = refl

other_some : (code : ℕ) → is_null (glyph (other_code code) false) ≡ false
other_some code = cond_some (eqb code 0xC1)

longer : (c : Glyph) (cs : List Glyph) → c ∷ cs ≡ cs → ⊥
longer c cs same = let e : suc (length cs) ≡ length cs = ap length same in omega arith

heads : (c d : Glyph) (cs ds : List Glyph) → c ∷ cs ≡ d ∷ ds → c ≡ d
heads c d cs ds same = cc

-- the first character became another one, and the rest stayed
first_differs : (g h : Glyph) (rest : List Glyph) → is_null h ≡ false → (g.code ≡ h.code → ⊥)
    → cond (not (is_null h)) (h ∷ rest) rest ≡ cond (not (is_null g)) (g ∷ rest) rest → ⊥
first_differs g h rest some apart same =
    let now : cond (not (is_null h)) (h ∷ rest) rest ≡ h ∷ rest = cond-true (not (is_null h)) _ _ (ap not some) in
    elim (cases_Bool (is_null g)) [
      | inl none ↦ longer h rest (sym now ∙ same ∙ cond-false (not (is_null g)) (g ∷ rest) rest (ap not none))
      | inr was ↦ apart (ap (λ (c : Glyph). c.code) (sym (heads h g rest rest (sym now ∙ same ∙ cond-true (not (is_null g)) (g ∷ rest) rest (ap not was)))))
    ]

-- so the characters of a field of which the first cell was typed over are others
typed_differs : (cells : List Cell) (q m code : ℕ) (w : Picture) → length (span_of cells q) ≡ suc m → IsInput cells q → IsTyped cells q code 1 w
    → is_null (glyph code false) ≡ false → ((character_of (cell_at cells (nth_of cells q 0))).code ≡ code → ⊥)
    → (field_sent w.cells q).characters ≡ (field_sent cells q).characters → ⊥
unfolding characters_at
typed_differs cells q m code w count input is some apart same =
    let now : (field_sent w.cells q).characters ≡ characters_at w.cells (map (nth_of cells q) (range_with_len 0 (suc m))) =
    sent_run cells w.cells q input.inside input.there is.keeps ∙ ap (λ k. characters_at w.cells (map (nth_of cells q) (range_with_len 0 k))) count in
    let was : (field_sent cells q).characters ≡ characters_at cells (map (nth_of cells q) (range_with_len 0 (suc m))) =
    sent_run cells cells q input.inside input.there (keeps_same cells) ∙ ap (λ k. characters_at cells (map (nth_of cells q) (range_with_len 0 k))) count in
    let rest : characters_at w.cells (map (nth_of cells q) (range_with_len (0 + 1) m)) ≡ characters_at cells (map (nth_of cells q) (range_with_len (0 + 1) m)) =
    ap (filter (λ c. not (is_null c)))
    (same_map (λ p. character_of (cell_at w.cells p)) (λ p. character_of (cell_at cells p)) (nth_of cells q) (0 + 1) m
    (λ i from below. ap character_of (is.others i (omega arith) (omega arith)))) in
    let others : List Glyph = characters_at cells (map (nth_of cells q) (range_with_len (0 + 1) m)) in
    let first : characters_at w.cells (map (nth_of cells q) (range_with_len 0 (suc m))) ≡ cond (not (is_null (glyph code false))) (glyph code false ∷ others) others =
    ap (λ x. cond (not (is_null (character_of x))) (character_of x ∷ characters_at w.cells (map (nth_of cells q) (range_with_len (0 + 1) m))) (characters_at w.cells (map (nth_of cells q) (range_with_len (0 + 1) m)))) (is.filled 0 (omega arith))
    ∙ ap (λ cs. cond (not (is_null (glyph code false))) (glyph code false ∷ cs) cs) rest in
    first_differs (character_of (cell_at cells (nth_of cells q 0))) (glyph code false) others some apart (sym first ∙ sym now ∙ same ∙ was)

same_characters : (entries : List Declared) (before after : List Cell) (q index : ℕ) (entry : Declared) → length after ≡ length before
    → entry_at entries (field_at before q).place ≡ Some index → slice_get entries index ≡ Some entry → entry.kind ≡ Fixed
    → IsDeclaredField entries before after q → (field_sent after q).characters ≡ (field_sent before q).characters
same_characters entries before after q index entry len found there fixed d =
    let same : d.index ≡ index = some_same d.index index (sym d.here ∙ ap (entry_at entries) (sent_place before after q len) ∙ found) in
    let one : d.entry ≡ entry = some_same d.entry entry (sym d.declared ∙ ap (slice_get entries) same ∙ there) in
    d.fixed (ap (λ (e : Declared). e.kind) one ∙ fixed)

fixed_breaks : (layout : Declaration) (v : Picture) (q m code index : ℕ) (entry : Declared) → IsInput v.cells q → length (span_of v.cells q) ≡ suc m
    → is_null (glyph code false) ≡ false → ((character_of (cell_at v.cells (nth_of v.cells q 0))).code ≡ code → ⊥)
    → entry_at layout.entries (field_at v.cells q).place ≡ Some index → slice_get layout.entries index ≡ Some entry → entry.kind ≡ Fixed
    → Filled v q code 1 → BreaksPromise layout v
unfolding keyed.after keyed.is_quiet
fixed_breaks layout v q m code index entry input count some apart found declared fixed b =
    let keys : List Key = filling_keys v q code 1 [] in
    record {
      keys = keys;
      quiet = b.quiet [];
      broken = λ p.
          typed_differs v.cells q m code b.last count input b.is some apart
          (same_characters layout.entries v.cells b.last.cells q index entry b.is.keeps.whole found declared fixed
          (declared_after layout v b.last keys q (b.quiet []) (b.comes []) b.is.free input.there (b.is.modified (omega arith)) p));
    }

pub open_fixed_breaks : (layout : Declaration) (v : Picture) (q index : ℕ) (entry : Declared) → IsSound v → v.lock ≡ Free → IsInput v.cells q → 0 < length (span_of v.cells q)
    → entry_at layout.entries (field_at v.cells q).place ≡ Some index → slice_get layout.entries index ≡ Some entry → entry.kind ≡ Fixed → BreaksPromise layout v
open_fixed_breaks layout v q index entry sound free input some found declared fixed =
    let held : ℕ = (character_of (cell_at v.cells (nth_of v.cells q 0))).code in
    let count : length (span_of v.cells q) ≡ suc (length (span_of v.cells q) - 1) = omega arith in
    fixed_breaks layout v q (length (span_of v.cells q) - 1) (other_code held) index entry input count (other_some held) (other_apart held) found declared fixed
    (fills v q (other_code held) 1 sound free input (other_graphic held) some)

-- ---- each finding of a field
-- what was found is one of two
either : (P : Finding → Type 0) (t : Bool) (x y : Option Finding) (finding : Finding) → cond t x y ≡ Some finding
    → (t ≡ true → x ≡ Some finding → P finding) → (t ≡ false → y ≡ Some finding → P finding) → P finding
either P t x y finding found first second =
    elim (cases_Bool t) [
      | inl is ↦ first is (sym (cond-true t x y is) ∙ found)
      | inr none ↦ second none (sym (cond-false t x y none) ∙ found)
    ]

this_one : (P : Finding → Type 0) (x finding : Finding) → Some x ≡ Some finding → P x → P finding
this_one P x finding found shown = subst P (some_same x finding found) shown

not_one : (P : Finding → Type 0) (finding : Finding) → ◌≡◌ {A = Option Finding} None (Some finding) → P finding
not_one P finding found = absurd (none_some finding found)

-- an attribute of a picture on which the operator can type
record IsField (v : Picture) (q : ℕ) : Type 0 where
  sound : IsSound v
  free : v.lock ≡ Free
  inside : q < length v.cells
  there : is_attribute (cell_at v.cells q) ≡ true

input_of : (v : Picture) (q : ℕ) → IsField v q → is_protected (bits_of (cell_at v.cells q)) ≡ false → IsInput v.cells q
input_of v q f opens = record { inside = f.inside; there = f.there; opens = opens }

some_length : (n : ℕ) → (eqb n 0) ≡ false → 0 < n
some_length zero e = absurd cc
some_length (suc n) e = omega arith

empty_found : (layout : Declaration) (v : Picture) (q : ℕ) (finding : Finding) → IsField v q → empty_finding (field_at v.cells q) ≡ Some finding → IsShown layout v finding
empty_found layout v q finding f found =
    either (IsShown layout v) (is_modified (bits_of (cell_at v.cells q))) _ _ finding found
    (λ modified one. this_one (IsShown layout v) (EmptyModified (field_at v.cells q).place) finding one (λ none. modified_breaks layout v q f.free f.there modified none))
    (λ clean one. not_one (IsShown layout v) finding one)

undeclared_found : (layout : Declaration) (v : Picture) (q : ℕ) (finding : Finding) → IsField v q → 0 < length (span_of v.cells q)
    → entry_at layout.entries (field_at v.cells q).place ≡ None → undeclared_finding v (field_at v.cells q) ≡ Some finding → IsShown layout v finding
undeclared_found layout v q finding f some none found =
    either (IsShown layout v) (not (is_protected (bits_of (cell_at v.cells q)))) _ _ finding found
    (λ opens one. this_one (IsShown layout v) (Undeclared (field_at v.cells q).place (demo_at v (field_at v.cells q) 1)) finding one
    (undeclared_shown layout v q f.sound f.free (input_of v q f (not-true _ opens)) some none))
    (λ shut later. either (IsShown layout v) (is_modified (bits_of (cell_at v.cells q))) _ _ finding later
    (λ modified one. this_one (IsShown layout v) (UndeclaredFixed (field_at v.cells q).place no_keys) finding one (fixed_shown layout v q f.free f.inside f.there modified none))
    (λ clean one. not_one (IsShown layout v) finding one))

-- an entry of another kind
other_found : (layout : Declaration) (v : Picture) (q index : ℕ) (entry : Declared) → IsField v q → 0 < length (span_of v.cells q)
    → entry_at layout.entries (field_at v.cells q).place ≡ Some index → slice_get layout.entries index ≡ Some entry
    → is_of_kind entry.kind (bits_of (cell_at v.cells q)) ≡ false → IsFixedEntry layout index → BreaksPromise layout v
other_found layout v q index entry f some found declared other fixed =
    let same : entry ≡ fixed.0 = some_same entry fixed.0 (sym declared ∙ fixed.1) in
    let kind : entry.kind ≡ Fixed = ap (λ (e : Declared). e.kind) same ∙ fixed.2 in
    let opens : is_protected (bits_of (cell_at v.cells q)) ≡ false = sym (ap (λ k. is_of_kind k (bits_of (cell_at v.cells q))) kind) ∙ other in
    open_fixed_breaks layout v q index entry f.sound f.free (input_of v q f opens) some found declared kind

-- an entry that is too short
long_demo : (layout : Declaration) (v : Picture) (q index : ℕ) (entry : Declared) (kind : Kind) → entry.kind ≡ kind → IsField v q → 0 < length (span_of v.cells q)
    → entry_at layout.entries (field_at v.cells q).place ≡ Some index → slice_get layout.entries index ≡ Some entry
    → is_of_kind kind (bits_of (cell_at v.cells q)) ≡ true → entry.length < length (span_of v.cells q) → DemoShowsIf layout v (length_demo v (field_at v.cells q) kind)
long_demo layout v q index entry Input kind f some found declared is long =
    long_shown layout v q index entry f.sound f.free (input_of v q f (not-true _ is)) some found declared long
long_demo layout v q index entry Fixed kind f some found declared is long = tt

declared_found : (layout : Declaration) (v : Picture) (q index : ℕ) (entry : Declared) (finding : Finding) → IsField v q → 0 < length (span_of v.cells q)
    → entry_at layout.entries (field_at v.cells q).place ≡ Some index → slice_get layout.entries index ≡ Some entry
    → declared_finding v (field_at v.cells q) index entry ≡ Some finding → IsShown layout v finding
declared_found layout v q index entry finding f some found declared is =
    let bits : ℕ = bits_of (cell_at v.cells q) in
    let n : ℕ = length (span_of v.cells q) in
    elim (cases_Bool (is_of_kind entry.kind bits)) [
      | inr other ↦
          this_one (IsShown layout v) (OtherKind index) finding (sym (cond-true (not (is_of_kind entry.kind bits)) _ _ (ap not other)) ∙ is)
          (λ fixed. other_found layout v q index entry f some found declared other fixed)
      | inl right ↦
          either (IsShown layout v) (nat_lt entry.length n) _ _ finding (sym (cond-false (not (is_of_kind entry.kind bits)) _ _ (ap not right)) ∙ is)
          (λ long one. this_one (IsShown layout v) (TooLong (record { entry = index; length = n; declared = entry.length; demo = length_demo v (field_at v.cells q) entry.kind })) finding one
          (long_demo layout v q index entry entry.kind refl f some found declared right (ltb-true entry.length n long)))
          (λ short one. not_one (IsShown layout v) finding one)
    ]

at_found : (layout : Declaration) (v : Picture) (q index : ℕ) (o : Option Declared) (finding : Finding) → IsField v q → 0 < length (span_of v.cells q)
    → entry_at layout.entries (field_at v.cells q).place ≡ Some index → slice_get layout.entries index ≡ o
    → at_entry v (field_at v.cells q) index o ≡ Some finding → IsShown layout v finding
at_found layout v q index None finding f some found past is = absurd (position_there (λ entry. (field_at v.cells q).place == entry.place) layout.entries index found past)
at_found layout v q index (Some entry) finding f some found declared is = declared_found layout v q index entry finding f some found declared is

entry_found : (layout : Declaration) (v : Picture) (q : ℕ) (o : Option ℕ) (finding : Finding) → IsField v q → 0 < length (span_of v.cells q)
    → entry_at layout.entries (field_at v.cells q).place ≡ o → entry_finding v (field_at v.cells q) layout.entries o ≡ Some finding → IsShown layout v finding
entry_found layout v q None finding f some none is = undeclared_found layout v q finding f some none is
entry_found layout v q (Some index) finding f some found is = at_found layout v q index (slice_get layout.entries index) finding f some found refl is

pub field_shown : (layout : Declaration) (v : Picture) (q : ℕ) (finding : Finding) → IsSound v → v.lock ≡ Free → q < length v.cells → is_attribute (cell_at v.cells q) ≡ true
    → field_finding layout.entries v (field_at v.cells q) ≡ Some finding → IsShown layout v finding
unfolding field_finding
field_shown layout v q finding sound free inside there found =
    let f : IsField v q = record { sound = sound; free = free; inside = inside; there = there } in
    either (IsShown layout v) (eqb (length (span_of v.cells q)) 0) _ _ finding found
    (λ none is. empty_found layout v q finding f is)
    (λ some is. entry_found layout v q (entry_at layout.entries (field_at v.cells q).place) finding f (some_length _ some) refl is)

-- ---- all findings
missing_shown : (layout : Declaration) (v : Picture) (t : Bool) (index : ℕ) → Each (IsShown layout v) (option_to_list (cond t None (Some (Missing index))))
missing_shown layout v true index = tt
missing_shown layout v false index = (tt, tt)

missing_all : (layout : Declaration) (v : Picture) (index : ℕ) (entries : List Declared) → Each (IsShown layout v) (missing_from v.cells index entries)
missing_all layout v index [] = tt
missing_all layout v index (entry ∷ entries) =
    each_append (IsShown layout v) (option_to_list (missing_finding v.cells index entry)) (missing_from v.cells (index + 1) entries)
    (missing_shown layout v (has_field v.cells entry.place) index) (missing_all layout v (index + 1) entries)

-- what stands against a picture on which the operator can type is shown
pub findings_shown : (layout : Declaration) (v : Picture) → IsSound v → v.lock ≡ Free → (index : ℕ) (finding : Finding) → slice_get (findings_of layout v) index ≡ Some finding
    → IsShown layout v finding
unfolding findings_of
findings_shown layout v sound free index finding there =
    let P : Finding → Type 0 = IsShown layout v in
    let found : FieldAt → List Finding = λ field. option_to_list (field_finding layout.entries v field) in
    let few : 0 + (length v.cells - 0) ≡ length v.cells = omega arith in
    let each : Each (λ q. Each P (found (field_at v.cells q))) (attributes_from v.cells 0) =
    each_kept (λ q. Each P (found (field_at v.cells q))) (λ q. is_attribute (cell_at v.cells q)) 0 (length v.cells - 0)
    (λ q below is. each_option P (field_finding layout.entries v (field_at v.cells q))
    (λ one same. field_shown layout v q one sound free (omega arith) is same)) in
    each_at P (findings_of layout v) index finding
    (each_append P (flat_map found (fields_of v.cells)) (missing_from v.cells 0 layout.entries)
    (each_flat P found (fields_of v.cells) (each_map (λ field. Each P (found field)) (field_at v.cells) (attributes_from v.cells 0) each))
    (missing_all layout v 0 layout.entries))
    there
