-- Each map of a source is fit: what its macros tell, one after the other.
use Rattle.std.proofs.Common.{◌≡◌, ◌≤◌, ◌+◌, ◌==◌, ℕ, zero, suc, Bool, true, false, cond, not, ◌&&◌, List, [], ◌∷◌, ◌++◌, length, Option, Some, None, Result, Ok, Err, refl, sym, ◌∙◌, ap, subst, arith, inl, inr, codes}
use Rattle.std.specs.Prelude.{nat_le}
use Rattle.std.proofs.lemmas.Bool.{leb-true, and_parts, cases_Bool, cond-true, cond-false}
use Rattle.ds_codec.specs.declared.size.Size.{Size}
use Rattle.bms_source.specs.declared.letter.Letter.{Letter}
use Rattle.bms_source.specs.Statement.{Said}
use Rattle.bms_source.specs.Told.{Told, ◌>>=◌}
use Rattle.bms_source.specs.declared.letter.Place.{Place}
use Rattle.bms_source.specs.declared.refusal.Why.TheVariants.{NoFinal, NameTwice, NoScreen}
use Rattle.bms_source.specs.declared.statement.Operation.{Operation}
use Rattle.bms_source.specs.declared.statement.Operation.TheVariants.{Mapset, Map, Field, Passed, End}
use Rattle.bms_source.specs.Told.{told_at, told_with, place_at}
use Rattle.bms_map.specs.declared.values.Pos.{Pos}
use Rattle.bms_map.specs.declared.values.Kind.{Kind}
use Rattle.bms_map.specs.declared.values.Kind.TheVariants.{Begin, Final}
use Rattle.bms_map.specs.declared.mapset.Stage.TheVariants.{Inside, After}
use Rattle.bms_map.specs.Mapset.{Progress, nothing, is_inside, is_before, out_of_order, sheets_in, closed, or_number, begun, finished, with_kind, with_mapset, has_map, screen_for, ground_on, ground_of, section_of, with_map, with_told, as_last, with_length, with_field, with_operands, with_macro, progress_of, is_after, whole, told_by}
use Rattle.bms_map.specs.Source.{Source, source_of}
use Rattle.bms_map.specs.Pictures.{positions_in, length_from, picture_in, length_of}
use Rattle.bms_map.specs.Values.{between, if_within, number_of, number_within, ◌>>?◌}
use Rattle.bms_map.specs.declared.keyword.Keyword.{Keyword}
use Rattle.bms_map.specs.declared.keyword.Keyword.TheVariants.{Group}
use Rattle.bms_source.specs.Words.{is_named}
use Rattle.bms_map.specs.Values.{meaning_in}
use Rattle.bms_map.specs.Operands.{Given, row_from, of_field, table_of, keyword_of, unless_good, is_group, judge_why, judge_value, is_repeated, judge_keyword, judge, judged, operands_of}
use Rattle.bms_map.specs.Entries.{same}
use Rattle.bms_map.specs.Lookup.{operand_at, value_at, pos_in, length_in, kind_in, size_in, top_in, left_in, control_in, looks_in, told_at_operand}
use Rattle.bms_map.specs.Maps.{Ground, Shown, Sheet}
use Rattle.bms_map.specs.Entries.{Entry, Section, shown_of, in_order, cursor_of, sheet_of}
use Rattle.bms_map.specs.Fields.{needed, missing, needed_label, length_by, field_length, unless, field_of}
use Rattle.bms_map.specs.Fit.{Each, IsScreen, cells_on, LiesOn, IsFieldOn, IsFit, MapsAreFit}
use Rattle.bms_map.proofs.FitLaws.{within_most, IsEntryOn, any_in_order, cursor_on, each_append, each_in_order, entry_good, field_judged, gave, has_cursor, held, is_needed, same_ok, same_some, shown_all}
use Rattle.bms_map.proofs.NamedLaws.{named_as, IsGroupGood, IsSectionNamed, section_push}
use Rattle.bms_map.proofs.ApartLaws.{declarable}

-- ---- a map
pub record IsSectionFit (section : Section) : Type 0 where
  pub ground : LiesOn section.area
  pub entries : Each (IsEntryOn section.area) section.entries
  pub named : IsSectionNamed section

pub sheet_fit : (section : Section) → IsSectionFit section → IsFit (sheet_of section)
sheet_fit section fit =
    let declared = declarable section fit.ground fit.entries fit.named in
    record {
      named = declared.named;
      apart = declared.apart;
      few = declared.few;
      ground = fit.ground;
      fields = each_in_order (IsFieldOn (cells_on section.area)) [] (shown_of section.area section.entries) tt (shown_all section.area fit.ground section.entries fit.entries);
      cursor = has_cursor (cursor_of section.area section.entries) (in_order (shown_of section.area section.entries)) (λ cell e.
          any_in_order (λ (field : Shown). cell == field.cell) [] (shown_of section.area section.entries) (cursor_on section.area section.entries cell fit.entries e));
    }

-- ---- the length of a field
length_small : (operands : List Given) (n : ℕ) → length_in operands ≡ Some n → n ≤ 256
length_small operands n e =
    let value = held (value_at (codes "LENGTH") operands) (λ v. number_within v 0 256) n e in
    let number = held (number_of value.value) (if_within 0 256) n value.next in
    within_most 0 256 number.value n number.next

positions_small : (symbols so_far : ℕ) (picture : List Letter) (n : ℕ) → length_from symbols so_far picture ≡ Some n → n ≤ 256
positions_small symbols so_far [] n e = within_most 1 256 so_far n e
positions_small zero so_far (a ∷ others) n e = absurd cc
positions_small (suc symbols) so_far (a ∷ others) n e =
    let found = held (positions_in (a ∷ others)) (λ found. if_within 0 256 (so_far + found.0) >>? λ m. length_from symbols m found.1) n e in
    let more = held (if_within 0 256 (so_far + found.value.0)) (λ m. length_from symbols m found.value.1) n found.next in
    positions_small symbols more.value found.value.1 n more.next

picture_small : (value : Option (List Letter)) (n : ℕ) → picture_in value ≡ Some n → n ≤ 256
picture_small None n e = absurd cc
picture_small (Some picture) n e = positions_small (length picture) 0 picture n e

by_small : (said : Said) (operands : List Given) (length_ : Option ℕ) (inside outside : Option (List Letter)) (n : ℕ) → ((m : ℕ) → length_ ≡ Some m → m ≤ 256)
    → length_by said operands length_ inside outside ≡ Ok n → n ≤ 256
by_small said operands (Some m) inside outside n each e = subst (λ k. k ≤ 256) (same_ok m n e) (each m refl)
by_small said operands None (Some picture) outside n each e = picture_small (between picture 39 39) n (is_needed _ (length_of picture) n e)
by_small said operands None None (Some picture) n each e = picture_small (between picture 39 39) n (is_needed _ (length_of picture) n e)
by_small said operands None None None n each e = absurd cc

pub field_small : (said : Said) (operands : List Given) (n : ℕ) → field_length said operands ≡ Ok n → n ≤ 256
field_small said operands n e = by_small said operands (length_in operands) (value_at (codes "PICIN") operands) (value_at (codes "PICOUT") operands) n (length_small operands) e

-- ---- the screen of a map
abbrev Fits : ℕ → ℕ → Option Size → Type 0
Fits lines columns None = Unit {0}
Fits lines columns (Some screen) = IsScreen screen × (lines ≤ screen.rows) × (columns ≤ screen.cols)

both_le : (lines columns rows cols : ℕ) → (nat_le lines rows && nat_le columns cols) ≡ true → (lines ≤ rows) × (columns ≤ cols)
both_le lines columns rows cols e = let parts = and_parts (nat_le lines rows) (nat_le columns cols) e in (leb-true lines rows parts.0, leb-true columns cols parts.1)

screen_fits : (lines columns : ℕ) → Fits lines columns (screen_for lines columns)
unfolding screen_for
screen_fits lines columns =
    try (nat_le lines 24 && nat_le columns 80) (record { rows = 24; cols = 80 }) _ (λ e. let both = both_le lines columns 24 80 e in (inl refl, both.0, both.1))
    (try (nat_le lines 32 && nat_le columns 80) (record { rows = 32; cols = 80 }) _ (λ e. let both = both_le lines columns 32 80 e in (inr (inl refl), both.0, both.1))
    (try (nat_le lines 43 && nat_le columns 80) (record { rows = 43; cols = 80 }) _ (λ e. let both = both_le lines columns 43 80 e in (inr (inr (inl refl)), both.0, both.1))
    (try (nat_le lines 27 && nat_le columns 132) (record { rows = 27; cols = 132 }) None (λ e. let both = both_le lines columns 27 132 e in (inr (inr (inr refl)), both.0, both.1)) tt)))
  where
    try : (b : Bool) (screen : Size) (others : Option Size) → (b ≡ true → Fits lines columns (Some screen)) → Fits lines columns others → Fits lines columns (cond b (Some screen) others)
    try true screen others one more = one refl
    try false screen others one more = more

ground_lies : (top left : ℕ) (extent : ℕ × ℕ) (screen : Option Size) (area : Ground) → Fits (top + extent.0) (left + extent.1) screen → ground_on top left extent screen ≡ Some area → LiesOn area
ground_lies top left extent None area fits e = absurd cc
ground_lies top left extent (Some screen) area fits e =
    subst LiesOn (same_some (record { screen = screen; top = top; left = left; lines = extent.0; columns = extent.1 }) area e)
    (record { screen = fits.0; down = fits.1; across = fits.2 })

-- ---- a mapset
abbrev IsLastFit : Option Section → Type 0
IsLastFit None = Unit {0}
IsLastFit (Some section) = IsSectionFit section

pub record IsProgressFit (progress : Progress) : Type 0 where
  pub done : Each IsFit progress.done
  pub last : IsLastFit progress.last

last_fit : (last : Option Section) → IsLastFit last → Each IsFit (sheets_in last)
last_fit None fit = tt
last_fit (Some section) fit = (sheet_fit section fit, tt)

closed_fit : (progress : Progress) → IsProgressFit progress → IsProgressFit (closed progress)
closed_fit progress fit = record { done = each_append IsFit progress.done (sheets_in progress.last) fit.done (last_fit progress.last fit.last); last = tt }

begun_fit : (progress : Progress) (said : Said) (operands : List Given) (more : Progress) → IsProgressFit progress → begun progress said operands ≡ Ok more → IsProgressFit more
unfolding begun
begun_fit progress said operands more fit e =
    two (unless (not (is_before progress.stage)) (out_of_order said)) (needed_label said 7) e
  where
    new : Progress
    new = record progress { stage = Inside; control = or_number (control_in operands) progress.control; looks = looks_in operands }

    two : (a : Result (Unit {0}) Told) (b : Result (List ℕ) Told) → (a >>= λ x. b >>= λ y. Ok new) ≡ Ok more → IsProgressFit more
    two (Err told) b is = absurd cc
    two (Ok x) (Err told) is = absurd cc
    two (Ok x) (Ok y) is = subst IsProgressFit (same_ok new more is) (record { done = fit.done; last = fit.last })

finished_fit : (progress : Progress) (said : Said) (more : Progress) → IsProgressFit progress → finished progress said ≡ Ok more → IsProgressFit more
finished_fit progress said more fit e =
    let new : Progress = record (closed progress) { stage = After } in
    let inside = gave (unless (not (is_inside progress.stage)) (out_of_order said)) (λ inside. Ok new) more e in
    let closes = closed_fit progress fit in
    subst IsProgressFit (same_ok new more inside.next) (record { done = closes.done; last = tt })

kind_fit : (progress : Progress) (said : Said) (operands : List Given) (kind : Kind) (more : Progress) → IsProgressFit progress → with_kind progress said operands kind ≡ Ok more → IsProgressFit more
kind_fit progress said operands Begin more fit e = begun_fit progress said operands more fit e
kind_fit progress said operands Final more fit e = finished_fit progress said more fit e

mapset_fit : (progress : Progress) (said : Said) (operands : List Given) (more : Progress) → IsProgressFit progress → with_mapset progress said operands ≡ Ok more → IsProgressFit more
mapset_fit progress said operands more fit e =
    let kind = gave (needed (missing (codes "TYPE") said) (kind_in operands)) (with_kind progress said operands) more e in
    kind_fit progress said operands kind.value more fit kind.next

map_fit : (progress : Progress) (said : Said) (operands : List Given) (more : Progress) → IsProgressFit progress → with_map progress said operands ≡ Ok more → IsProgressFit more
unfolding with_map
map_fit progress said operands more fit e =
    four (needed (missing (codes "SIZE") said) (size_in operands)) (unless (not (is_inside progress.stage)) (out_of_order said)) (needed_label said 7) e
  where
    new : List ℕ → Ground → Progress
    new name area = record (closed progress) { last = Some (section_of progress said operands name area) }

    last_of_map : (extent : ℕ × ℕ) (name : List ℕ) (area : Ground) → needed (told_at_operand NoScreen (codes "SIZE") operands) (ground_of operands extent) ≡ Ok area → new name area ≡ more → IsProgressFit more
    last_of_map extent name area is same =
        let lies = ground_lies (top_in operands) (left_in operands) extent (screen_for (top_in operands + extent.0) (left_in operands + extent.1)) area
        (screen_fits (top_in operands + extent.0) (left_in operands + extent.1)) (is_needed _ (ground_of operands extent) area is) in
        subst IsProgressFit same (record { done = (closed_fit progress fit).done; last = record { ground = lies; entries = tt; named = record { chain = tt; each = tt; names = tt; places = tt; few = omega arith } } })

    area_of : (extent : ℕ × ℕ) (name : List ℕ) (free : Result (Unit {0}) Told)
        → (free >>= λ f. needed (told_at_operand NoScreen (codes "SIZE") operands) (ground_of operands extent) >>= λ area. Ok (new name area)) ≡ Ok more → IsProgressFit more
    area_of extent name (Err told) is = absurd cc
    area_of extent name (Ok f) is =
        let area = gave (needed (told_at_operand NoScreen (codes "SIZE") operands) (ground_of operands extent)) (λ area. Ok (new name area)) more is in
        last_of_map extent name area.value area.first (same_ok (new name area.value) more area.next)

    four : (extent : Result (ℕ × ℕ) Told) (inside : Result (Unit {0}) Told) (name : Result (List ℕ) Told)
        → (extent >>= λ x. inside >>= λ i. name >>= λ n. unless (has_map progress n) (told_with NameTwice n (place_at said.line 1))
        >>= λ f. needed (told_at_operand NoScreen (codes "SIZE") operands) (ground_of operands x) >>= λ area. Ok (new n area)) ≡ Ok more → IsProgressFit more
    four (Err told) inside name is = absurd cc
    four (Ok x) (Err told) name is = absurd cc
    four (Ok x) (Ok i) (Err told) is = absurd cc
    four (Ok x) (Ok i) (Ok n) is = area_of x n (unless (has_map progress n) (told_with NameTwice n (place_at said.line 1))) is

told_fit : (progress : Progress) (section : Section) (told : Result Entry Told) (more : Progress) → IsProgressFit progress → IsSectionFit section
    → ((entry : Entry) → told ≡ Ok entry → IsEntryOn section.area entry × IsSectionNamed (record section { entries = section.entries ++ entry ∷ [] })) → as_last progress (with_told section told) ≡ Ok more → IsProgressFit more
told_fit progress section (Err told) more fit last each e = absurd cc
told_fit progress section (Ok entry) more fit last each e =
    subst IsProgressFit (same_ok _ more e) (record {
      done = fit.done;
      last = record { ground = last.ground; entries = each_append (IsEntryOn section.area) section.entries (entry ∷ []) last.entries ((each entry refl).0, tt); named = (each entry refl).1 };
    })

last_is : (last : Option Section) (section : Section) → IsLastFit last → last ≡ Some section → IsSectionFit section
last_is None section fit e = absurd cc
last_is (Some other) section fit e = subst IsSectionFit (same_some other section e) fit

length_fit : (progress : Progress) (said : Said) (operands : List Given) (n : ℕ) (more : Progress) → n ≤ 256 → IsGroupGood operands → IsProgressFit progress → with_length progress said operands n ≡ Ok more → IsProgressFit more
length_fit progress said operands n more few good fit e =
    let section = gave (needed (out_of_order said) progress.last) (λ section. as_last progress (with_told section (field_of section said operands n))) more e in
    let last = last_is progress.last section.value fit.last (is_needed (out_of_order said) progress.last section.value section.first) in
    told_fit progress section.value (field_of section.value said operands n) more fit last (λ entry is.
    let on = entry_good section.value said operands n entry few is in
    (on, section_push section.value said operands n entry few good last.ground on (field_judged section.value said operands n entry is) last.named)) section.next

field_fit : (progress : Progress) (said : Said) (operands : List Given) (more : Progress) → IsGroupGood operands → IsProgressFit progress → with_field progress said operands ≡ Ok more → IsProgressFit more
unfolding with_field
field_fit progress said operands more good fit e = two (needed (missing (codes "POS") said) (pos_in operands)) e
  where
    two : (pos : Result Pos Told) → (pos >>= λ p. field_length said operands >>= λ n. with_length progress said operands n) ≡ Ok more → IsProgressFit more
    two (Err told) is = absurd cc
    two (Ok p) is =
        let n = gave (field_length said operands) (λ n. with_length progress said operands n) more is in
        length_fit progress said operands n.value more (field_small said operands n.value n.first) good fit n.next

-- ---- GRPNAME among the operands of a field
abbrev meaning_of : {A : Type 0} → List (List ℕ × A) → List ℕ → Option A
meaning_of [] name = None
meaning_of (entry ∷ entries) name = cond (same name entry.0) (Some entry.1) (meaning_of entries name)

meaning_same : {A : Type 0} (table : List (List ℕ × A)) (word : List Letter) (name : List ℕ) → is_named word name ≡ true → meaning_in table word ≡ meaning_of table name
meaning_same [] word name e = refl
meaning_same (entry ∷ entries) word name e =
    ap (λ b. cond b (Some entry.1) (meaning_in entries word)) (named_as word name entry.0 e) ∙ ap (λ o. cond (same name entry.0) (Some entry.1) o) (meaning_same entries word name e)

group_keyword : meaning_of of_field (codes "GRPNAME") ≡ Some Group
unfolding of_field
group_keyword = refl

why_none : (keyword : List Letter) (good : Bool) → judge_why keyword (unless_good good) ≡ Ok tt → good ≡ true
why_none keyword true e = refl
why_none keyword false e = absurd cc

group_value : (given : Given) → judge_value Group given ≡ Ok tt → is_group given.value ≡ true
unfolding judge_value
group_value given e = why_none given.keyword (is_group given.value) e

unless_again : (b : Bool) (told : Told) (value : Result (Unit {0}) Told) → cond b (Err told) value ≡ Ok tt → value ≡ Ok tt
unless_again true told value e = absurd cc
unless_again false told value e = e

group_judged : (operation : Operation) (before : List Given) (given : Given) → table_of operation ≡ of_field → is_named given.keyword (codes "GRPNAME") ≡ true → judge operation before given ≡ Ok tt → is_group given.value ≡ true
unfolding judge
group_judged operation before given table named e =
    let keyword : keyword_of operation given.keyword ≡ Some Group = ap (λ (t : List (List ℕ × Keyword)). meaning_in t given.keyword) table ∙ meaning_same of_field given.keyword (codes "GRPNAME") named ∙ group_keyword in
    group_value given (unless_again (is_repeated before given.keyword) _ (judge_value Group given) (subst (λ (o : Option Keyword). judge_keyword before given o ≡ Ok tt) keyword e))

group_among : (operation : Operation) (before operands : List Given) (given : Given) → table_of operation ≡ of_field → judged operation before operands ≡ Ok tt
    → operand_at (codes "GRPNAME") operands ≡ Some given → is_group given.value ≡ true
group_among operation before [] given table e is = absurd cc
group_among operation before (it ∷ others) given table e is =
    let parts = gave (judge operation before it) (λ good. judged operation (before ++ it ∷ []) others) tt e in
    elim (cases_Bool (is_named it.keyword (codes "GRPNAME"))) [
      | inl named ↦
          let same_given : it ≡ given = same_some it given (sym (cond-true (is_named it.keyword (codes "GRPNAME")) _ _ named) ∙ is) in
          subst (λ (g : Given). is_group g.value ≡ true) same_given (group_judged operation before it table named parts.first)
      | inr other ↦ group_among operation (before ++ it ∷ []) others given table parts.next (sym (cond-false (is_named it.keyword (codes "GRPNAME")) _ _ other) ∙ is)
    ]

group_good : (operation : Operation) (letters : List Letter) (operands : List Given) → table_of operation ≡ of_field → operands_of operation letters ≡ Ok operands → IsGroupGood operands
group_good operation letters operands table e given is =
    let row = row_from 0 letters in
    let parts = gave (judged operation [] row.operands) (λ good. row.rest >>= λ end. Ok row.operands) operands e in
    let last = gave row.rest (λ end. Ok row.operands) operands parts.next in
    group_among operation [] operands given table (subst (λ (l : List Given). judged operation [] l ≡ Ok tt) (same_ok row.operands operands last.next) parts.first) is

operands_fit : (operation : Operation) (progress : Progress) (said : Said) (letters : List Letter) (operands : List Given) (more : Progress) → operands_of operation letters ≡ Ok operands → IsProgressFit progress
    → with_operands operation progress said operands ≡ Ok more → IsProgressFit more
operands_fit Mapset progress said letters operands more judged_so fit e = mapset_fit progress said operands more fit e
operands_fit Map progress said letters operands more judged_so fit e = map_fit progress said operands more fit e
operands_fit Field progress said letters operands more judged_so fit e = field_fit progress said operands more (group_good Field letters operands refl judged_so) fit e
operands_fit Passed progress said letters operands more judged_so fit e = field_fit progress said operands more (group_good Passed letters operands refl judged_so) fit e
operands_fit End progress said letters operands more judged_so fit e = field_fit progress said operands more (group_good End letters operands refl judged_so) fit e

macro_fit : (progress : Progress) (said : Said) (more : Progress) → IsProgressFit progress → with_macro progress said ≡ Ok more → IsProgressFit more
unfolding with_macro
macro_fit progress said more fit e =
    let operands = gave (operands_of said.operation said.operands) (with_operands said.operation progress said) more e in
    operands_fit said.operation progress said said.operands operands.value more operands.first fit operands.next

all_fit : (progress : Progress) (macros : List Said) (more : Progress) → IsProgressFit progress → progress_of progress macros ≡ Ok more → IsProgressFit more
all_fit progress [] more fit e = subst IsProgressFit (same_ok progress more e) fit
all_fit progress (said ∷ others) more fit e =
    let next = gave (with_macro progress said) (λ next. progress_of next others) more e in
    all_fit next.value others more (macro_fit progress said next.value fit next.first) next.next

whole_fit : (progress : Progress) (place : Place) (maps : List Sheet) → IsProgressFit progress → whole progress place ≡ Ok maps → Each IsFit maps
whole_fit progress place maps fit e = elim (is_after progress.stage) as (λ b. cond b (Ok progress.done) (Err (told_at NoFinal place)) ≡ Ok maps → Each IsFit maps) [
  | true ↦ λ is. subst (Each IsFit) (same_ok progress.done maps is) fit.done
  | false ↦ λ is. absurd cc
] e

source_fit : (source : Source) (maps : List Sheet) → told_by nothing source ≡ Ok maps → Each IsFit maps
source_fit source maps e =
    let more = gave (progress_of nothing source.macros) (λ more. source.end >>= whole more) maps e in
    let place = gave source.end (whole more.value) maps more.next in
    whole_fit more.value place.value maps (all_fit nothing source.macros more.value (record { done = tt; last = tt }) more.first) place.next

pub maps_are_fit : MapsAreFit
maps_are_fit text maps e = source_fit (source_of text) maps e
