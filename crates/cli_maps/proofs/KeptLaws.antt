-- What a yes of `check --map` promises.
use Rattle.std.proofs.Common.{◌≡◌, ℕ, zero, suc, ◌≤◌, Bool, true, false, cond, List, [], ◌∷◌, ◌++◌, length, map, Some, Result, Ok, Err, inl, inr, refl, sym, ◌∙◌, ap, subst}
use Rattle.std.specs.List.{filter, slice_get}
use Rattle.std.specs.Str.{is_utf8}
use Rattle.std.proofs.lemmas.Bool.{cases_Bool, cond-true, cond-false}
use Rattle.ds_codec.specs.declared.cell.Cell.{Cell}
use Rattle.ds_codec.specs.declared.size.Mode.TheVariants.{Bits14}
use Rattle.ds_codec.specs.Reading.{◌>>=◌, read_of}
use Rattle.ds_codec.specs.declared.write.Unwritable.{Unwritable}
use Rattle.ds_screen.specs.Picture.{Picture}
use Rattle.ds_keys.specs.declared.key.Key.{Key}
use Rattle.ds_inbound.specs.Answer.{field_sent}
use Rattle.order_lines.specs.Draft.{written_of}
use Rattle.scr_layout.specs.declared.entry.Kind.TheVariants.{Fixed}
use Rattle.scr_layout.specs.declared.fault.LayoutFault.{LayoutFault}
use Rattle.scr_layout.specs.Entry.{Declared}
use Rattle.scr_layout.specs.Fault.{not_toml}
use Rattle.scr_layout.specs.Layout.{Declaration, layout_of}
use Rattle.scr_check.specs.declared.finding.Finding.{Finding}
use Rattle.scr_check.specs.Any.{SendsModified}
use Rattle.scr_check.specs.Findings.{told, answer_of, Conforms}
use Rattle.scr_check.specs.Leads.{RecordsLead}
use Rattle.scr_check.specs.Opening.{opening_of}
use Rattle.scr_check.specs.Promise.{IsDeclaredField, SendsTouched}
use Rattle.scr_check.proofs.UserLaw.{yes_means, yes_means_for_any}
use Rattle.bms_map.specs.declared.record.Control.{Control}
use Rattle.bms_map.specs.Fit.{Each, cells_on, IsFit}
use Rattle.bms_map.specs.LayoutText.{layout_text}
use Rattle.bms_map.specs.Maps.{Shown, Sheet}
use Rattle.bms_map.specs.Overlaps.{is_declared, is_input, overlaps_of}
use Rattle.bms_map.specs.Record.{command_of, map_orders}
use Rattle.bms_map.proofs.MapsetLaws.{maps_are_fit}
use Rattle.cli_commands.specs.declared.fault.Fault.{Fault}
use Rattle.cli_commands.specs.LayoutText.{layout_said, layout_or_fault, layout_in}
use Rattle.cli_commands.specs.Lines.{at_most, within_limit}
use Rattle.cli_commands.proofs.Answered.{bounded}
use Rattle.cli_maps.specs.declared.judged.MapFinding.{MapFinding}
use Rattle.cli_maps.specs.declared.judged.MapFinding.TheVariants.{Overlapping, Found}
use Rattle.cli_maps.specs.Judged.{Judged, written_or_fault, record_due, all_found, judged, judge_with}
use Rattle.cli_maps.specs.Kept.{IsYes, IsFieldSent, SendsFields, SendsModifiedFields, IsKept, YesIsKept}
use Rattle.cli_maps.specs.Layouts.{kind_if, entry_of, declared_fields, declaration_of}
use Rattle.cli_maps.specs.Screen.{sizes_of, picture_of}
use Rattle.cli_maps.proofs.DeclaredLaws.{is_layout}
use Rattle.cli_maps.proofs.LayoutLaws.{is_read}
use Rattle.cli_maps.proofs.ScreenLaws.{fit_shown}

-- ---- steps that gave a value
record Gave {A B : Type 0} (one : Result A Fault) (then : A → Result B Fault) (end : B) : Type 0 where
  value : A
  first : one ≡ Ok value
  next : then value ≡ Ok end

gave : {A B : Type 0} (one : Result A Fault) (then : A → Result B Fault) (end : B) → (one >>= then) ≡ Ok end → Gave one then end
gave (Ok x) then end e = record { value = x; first = refl; next = e }
gave (Err fault) then end e = absurd cc

same_ok : {A E : Type 0} (x y : A) → ◌≡◌ {A = Result A E} (Ok x) (Ok y) → x ≡ y
same_ok x y e = cc

-- ---- what is judged
layout_good : (read : Result Declaration LayoutFault) (layout : Declaration) → layout_or_fault read ≡ Ok layout → read ≡ Ok layout
layout_good (Ok other) layout e = ap (λ l. Ok l) (same_ok other layout e)
layout_good (Err fault) layout e = absurd cc

said_good : (text : List ℕ) (layout : Declaration) → layout_said text ≡ Ok layout → layout_of text ≡ Ok layout
said_good text layout e = elim (is_utf8 text) as (λ b. cond b (layout_of text) (Err not_toml) ≡ Ok layout → layout_of text ≡ Ok layout) [
  | true ↦ λ is. is
  | false ↦ λ is. absurd cc
] e

limit_same : (text other : List ℕ) → within_limit text ≡ Ok other → other ≡ text
limit_same text other e =
    let fits = at_most (length text) 16777216 in
    sym (same_ok text other (gave fits (λ short. Ok text) other (sym (bounded text fits refl) ∙ e)).next)

layout_is : (text : List ℕ) (layout : Declaration) → layout_in text ≡ Ok layout → layout_of text ≡ Ok layout
layout_is text layout e =
    let parts = gave (within_limit text) (λ t. layout_or_fault (layout_said t)) layout e in
    subst (λ (t : List ℕ). layout_of t ≡ Ok layout) (limit_same text parts.value parts.first) (said_good parts.value layout (layout_good (layout_said parts.value) layout parts.next))

bytes_good : (control : Control) (it : Sheet) (bytes : List ℕ) → record_due control it ≡ Ok bytes
    → written_of Bits14 (cells_on it.area) (record { command = command_of it control; orders = map_orders it }) ≡ Ok bytes
bytes_good control it bytes e = good (written_of Bits14 (cells_on it.area) (record { command = command_of it control; orders = map_orders it })) e
  where
    good : (written : Result (List ℕ) Unwritable) → written_or_fault written ≡ Ok bytes → written ≡ Ok bytes
    good (Ok other) is = ap (λ (l : List ℕ). Ok l) (same_ok other bytes is)
    good (Err flaw) is = absurd cc

no_findings : (layout : Declaration) (records : List (List ℕ)) (opened : Result Picture Finding) → opening_of layout records ≡ opened → told layout opened ≡ [] → Conforms layout records
no_findings layout records (Ok v) is clean = record { picture = v; opens = is; clean = clean }
no_findings layout records (Err finding) is clean = absurd cc

none_after : (one : List MapFinding) (other : List MapFinding) → one ++ other ≡ [] → other ≡ []
none_after [] other e = e
none_after (x ∷ xs) other e = absurd cc

none_mapped : (findings : List Finding) → map (λ finding. Found finding) findings ≡ [] → findings ≡ []
none_mapped [] e = refl
none_mapped (x ∷ xs) e = absurd cc

record IsJudgedYes (control : Control) (it : Sheet) : Type 0 where
  bytes : List ℕ
  due : record_due control it ≡ Ok bytes
  conforms : Conforms (declaration_of it) (bytes ∷ [])

judged_yes : (control : Control) (it : Sheet) → IsFit it → IsYes control it → IsJudgedYes control it
judged_yes control it fit yes_ =
    let parts = gave (layout_in (layout_text it)) (judge_with control it) yes_.found yes_.judged in
    let layout : parts.value ≡ declaration_of it = same_ok parts.value (declaration_of it) (sym (layout_is (layout_text it) parts.value parts.first) ∙ (is_read it fit).read) in
    let bytes = gave (record_due control it) (λ bytes. Ok (judged it parts.value (bytes ∷ []))) yes_.found parts.next in
    let found : judged it parts.value (bytes.value ∷ []) ≡ yes_.found = same_ok (judged it parts.value (bytes.value ∷ [])) yes_.found bytes.next in
    let all : all_found it parts.value (bytes.value ∷ []) ≡ [] = ap (λ (j : Judged). j.findings) found ∙ yes_.clean in
    let none : answer_of parts.value (bytes.value ∷ []) ≡ [] = none_mapped (answer_of parts.value (bytes.value ∷ [])) (none_after (map (λ overlap. Overlapping overlap) (overlaps_of it)) (map (λ finding. Found finding) (answer_of parts.value (bytes.value ∷ []))) all) in
    record {
      bytes = bytes.value;
      due = bytes.first;
      conforms = subst (λ (l : Declaration). Conforms l (bytes.value ∷ [])) layout (no_findings parts.value (bytes.value ∷ []) (opening_of parts.value (bytes.value ∷ [])) refl none);
    }

-- ---- the record leads to the map's picture
record_leads : (control : Control) (it : Sheet) → IsFit it → (bytes : List ℕ) → record_due control it ≡ Ok bytes → (before : Picture) → before.geometry ≡ sizes_of it
    → RecordsLead before (bytes ∷ []) (picture_of control it before)
record_leads control it fit bytes due before geometry =
    let shown = fit_shown control it fit in
    let same : shown.bytes ≡ bytes = same_ok shown.bytes bytes (sym shown.written ∙ bytes_good control it bytes due) in (
      shown.message,
      picture_of control it before,
      ap (λ g. read_of g.mode bytes) geometry ∙ ap (read_of Bits14) (sym same) ∙ shown.read,
      shown.shows before geometry,
      refl,
    )

-- ---- an entry is a field
record IsOf {A B : Type 0} (f : A → B) (xs : List A) (index : ℕ) (y : B) : Type 0 where
  value : A
  here : slice_get xs index ≡ Some value
  is : f value ≡ y

same_some : {A : Type 0} (x y : A) → Some x ≡ Some y → x ≡ y
same_some x y e = cc

mapped_at : {A B : Type 0} (f : A → B) (xs : List A) (index : ℕ) (y : B) → slice_get (map f xs) index ≡ Some y → IsOf f xs index y
mapped_at f [] index y e = absurd cc
mapped_at f (x ∷ xs) zero y e = record { value = x; here = refl; is = same_some (f x) y e }
mapped_at f (x ∷ xs) (suc index) y e = let more = mapped_at f xs index y e in record { value = more.value; here = more.here; is = more.is }

record IsAmong (fields : List Shown) (field : Shown) : Type 0 where
  index : ℕ
  here : slice_get fields index ≡ Some field
  named : is_declared field ≡ true

one_later : (first : Shown) (others : List Shown) (field : Shown) → IsAmong others field → IsAmong (first ∷ others) field
one_later first others field more = record { index = suc more.index; here = more.here; named = more.named }

front_at : (first : Shown) (others : List Shown) (field : Shown) (index : ℕ) → is_declared first ≡ true → ((n : ℕ) → slice_get (filter is_declared others) n ≡ Some field → IsAmong others field)
    → slice_get (first ∷ filter is_declared others) index ≡ Some field → IsAmong (first ∷ others) field
front_at first others field zero declared more is = record { index = 0; here = is; named = subst (λ (f : Shown). is_declared f ≡ true) (same_some first field is) declared }
front_at first others field (suc n) declared more is = one_later first others field (more n is)

kept_at : (fields : List Shown) (index : ℕ) (field : Shown) → slice_get (filter is_declared fields) index ≡ Some field → IsAmong fields field
kept_at [] index field e = absurd cc
kept_at (first ∷ others) index field e =
    let more : (n : ℕ) → slice_get (filter is_declared others) n ≡ Some field → IsAmong others field = λ n is. kept_at others n field is in
    elim (cases_Bool (is_declared first)) [
      | inl declared ↦ front_at first others field index declared more (sym (ap (λ (l : List Shown). slice_get l index) (cond-true (is_declared first) (first ∷ filter is_declared others) (filter is_declared others) declared)) ∙ e)
      | inr other ↦ one_later first others field (more index (sym (ap (λ (l : List Shown). slice_get l index) (cond-false (is_declared first) (first ∷ filter is_declared others) (filter is_declared others) other)) ∙ e))
    ]

kind_fixed : (b : Bool) → b ≡ false → kind_if b ≡ Fixed
kind_fixed true e = absurd cc
kind_fixed false e = refl

field_is_sent : (it : Sheet) (before after : List Cell) (q : ℕ) → IsDeclaredField (declaration_of it).entries before after q → IsFieldSent it before after q
field_is_sent it before after q sent =
    let of = mapped_at (entry_of it) (declared_fields it) sent.index sent.entry sent.declared in
    let among = kept_at it.fields sent.index of.value of.here in
    record {
      field = of.value;
      index = among.index;
      inside = among.here;
      named = among.named;
      place = sent.place ∙ sym (ap (λ (e : Declared). e.place) of.is);
      short = subst (λ (e : Declared). length (field_sent after q).characters ≤ e.length) (sym of.is) sent.short;
      fixed = λ protected. sent.fixed (sym (ap (λ (e : Declared). e.kind) of.is) ∙ kind_fixed (is_input of.value) protected);
    }

fields_sent : (it : Sheet) (opened : Picture) (keys : List Key) (v : Picture) (aid : ℕ) → SendsTouched (declaration_of it) opened keys v aid → SendsFields it opened keys v aid
fields_sent it opened keys v aid sends =
    record {
      places = sends.places;
      touched = sends.touched;
      says = sends.says;
      fields = λ q among. field_is_sent it opened.cells v.cells q (sends.declared q among);
    }

modified_sent : (it : Sheet) (opened v : Picture) (aid : ℕ) → SendsModified (declaration_of it) opened v aid → SendsModifiedFields it opened v aid
modified_sent it opened v aid sends =
    record {
      places = sends.places;
      modified = sends.modified;
      says = sends.says;
      fields = λ q among. field_is_sent it opened.cells v.cells q (sends.declared q among);
    }

-- ---- a yes
kept_one : (control : Control) (it : Sheet) → IsFit it → IsYes control it → IsKept control it
kept_one control it fit yes_ =
    let is = judged_yes control it fit yes_ in
    let law = is_layout it fit in
    record {
      pressed = λ before v keys geometry pressed.
          let means = yes_means (declaration_of it) (is.bytes ∷ []) law is.conforms before (picture_of control it before) v keys geometry (record_leads control it fit is.bytes is.due before geometry) pressed in
          (means.0, λ aid long free. fields_sent it (picture_of control it before) keys v aid (means.1 aid long free));
      anywhere = λ before v aid geometry left long.
          modified_sent it (picture_of control it before) v aid
          (yes_means_for_any (declaration_of it) (is.bytes ∷ []) law is.conforms before (picture_of control it before) v aid geometry (record_leads control it fit is.bytes is.due before geometry) left long);
    }

each_kept : (control : Control) (maps : List Sheet) → Each IsFit maps → Each (λ it. IsYes control it → IsKept control it) maps
each_kept control [] each = tt
each_kept control (it ∷ maps) each = (kept_one control it each.0, each_kept control maps each.1)

pub yes_is_kept : YesIsKept
yes_is_kept source maps is control = each_kept control maps (maps_are_fit source maps is)
