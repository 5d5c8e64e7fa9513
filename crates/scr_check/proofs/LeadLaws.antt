-- The records that open a screen lead to it from every picture of its geometry.
use Rattle.std.proofs.Common.{◌≡◌, ℕ, ◌+◌, ◌⊎◌, Bool, true, false, cond, not, List, [], ◌∷◌, Option, Some, None, Result, Ok, Err, refl, sym, ◌∙◌, ap, subst, inl, inr}
use Rattle.std.proofs.lemmas.Bool.{cases_Bool}
use Rattle.ds_codec.specs.declared.size.Size.{Size}
use Rattle.ds_codec.specs.declared.refused.Refused as read
use Rattle.ds_codec.specs.declared.command.Command.{Command}
use Rattle.ds_codec.specs.declared.command.Command.TheVariants.{Write, EraseWrite, EraseWriteAlternate, EraseAllUnprotected, ReadBuffer, ReadModified, ReadModifiedAll, NoOperation}
use Rattle.ds_codec.specs.Geometry.{Sizes}
use Rattle.ds_codec.specs.Order.{Site}
use Rattle.ds_codec.specs.Record.{Message}
use Rattle.ds_codec.specs.Reading.{◌>>=◌, read_of}
use Rattle.ds_screen.specs.declared.lock.Lock.{Lock}
use Rattle.ds_screen.specs.declared.lock.Lock.TheVariants.{Free, Waiting, Error}
use Rattle.ds_screen.specs.declared.field.FieldAt.{FieldAt}
use Rattle.ds_screen.specs.declared.refused.Refused as shown
use Rattle.ds_screen.specs.Picture.{Picture}
use Rattle.ds_screen.specs.Fields.{fields_of}
use Rattle.ds_screen.specs.Orders.{Writing}
use Rattle.ds_codec.specs.WriteControl.{restores_keyboard}
use Rattle.ds_screen.specs.Records.{new_picture, erased, begun, finished, acts, finishes, written, all_cleared, shown_of}
use Rattle.scr_layout.specs.Layout.{Declaration}
use Rattle.ds_codec.specs.Same.{same_size}
use Rattle.ds_codec.proofs.Same.{size_is}
use Rattle.scr_check.specs.declared.finding.Finding.{Finding}
use Rattle.scr_check.specs.declared.finding.Finding.TheVariants.{FirstNotErase, NotAWrite, KeyboardLocked, OtherSize, Unformatted}
use Rattle.scr_check.specs.Opening.{erases, writes, command_fault, applied, unless_found, taken, taken_from, is_free, is_none_of, ready, opening_of}
use Rattle.scr_check.specs.Leads.{RecordsLead, LeadsFromEvery}

-- ---- results
pub ok_is : {A E : Type 0} (x y : A) (r : Result A E) → r ≡ Ok x → r ≡ Ok y → x ≡ y
ok_is x y r first second = cc

err_ok : {A E : Type 0} (e : E) (x : A) → Err e ≡ Ok x → ⊥
err_ok e x is = cc

pub bind_ok : {A B E : Type 0} (r : Result A E) (f : A → Result B E) (y : B) → r >>= f ≡ Ok y → (x : A) × (r ≡ Ok x) × (f x ≡ Ok y)
bind_ok (Ok x) f y is = (x, refl, is)
bind_ok (Err e) f y is = absurd cc

-- ---- what was taken
pub unless_ok : (o : Option Finding) (r : Result Picture Finding) (w : Picture) → unless_found o r ≡ Ok w → (o ≡ None) × (r ≡ Ok w)
unless_ok None r w is = (refl, is)
unless_ok (Some finding) r w is = absurd cc

pub applied_ok : (index : ℕ) (r : Result Picture shown.Refused) (w : Picture) → applied index r ≡ Ok w → r ≡ Ok w
applied_ok index (Ok v) w is = ap Ok (ok_is v w (Ok v) refl is)
applied_ok index (Err refused) w is = absurd cc

pub taken_ok : (index : ℕ) (v w : Picture) (r : Result Message read.Refused) → taken index v r ≡ Ok w
    → (message : Message) × (r ≡ Ok message) × (command_fault index message.command ≡ None) × (shown_of v message.command message.orders ≡ Ok w)
taken_ok index v w (Err refused) is = absurd cc
taken_ok index v w (Ok message) is =
    let parts = unless_ok (command_fault index message.command) (applied index (shown_of v message.command message.orders)) w is in
    (message, refl, parts.0, applied_ok index (shown_of v message.command message.orders) w parts.1)

-- the first of several records, and the others
pub first_taken : (index : ℕ) (v w : Picture) (bytes : List ℕ) (others : List (List ℕ)) → taken_from index v (bytes ∷ others) ≡ Ok w
    → (message : Message) × (next : Picture) × (read_of v.geometry.mode bytes ≡ Ok message) × (command_fault index message.command ≡ None)
    × (shown_of v message.command message.orders ≡ Ok next) × (taken_from (index + 1) next others ≡ Ok w)
first_taken index v w bytes others is =
    let both = bind_ok (taken index v (read_of v.geometry.mode bytes)) (λ next. taken_from (index + 1) next others) w is in
    let parts = taken_ok index v both.0 (read_of v.geometry.mode bytes) both.1 in
    (parts.0, both.0, parts.1, parts.2, parts.3, both.2)

pub taken_leads : (index : ℕ) (v w : Picture) (records : List (List ℕ)) → taken_from index v records ≡ Ok w → RecordsLead v records w
taken_leads index v w [] is = ok_is v w (Ok v) refl is
taken_leads index v w (bytes ∷ others) is =
    let parts = first_taken index v w bytes others is in
    (parts.0, parts.1, parts.2, parts.4, taken_leads (index + 1) parts.1 w others parts.5)

pub leads_once : (before a b : Picture) (records : List (List ℕ)) → RecordsLead before records a → RecordsLead before records b → a ≡ b
leads_once before a b [] first second = sym first ∙ second
leads_once before a b (bytes ∷ others) (m, next, reads, shows, leads) (n, other, readings, showing, leading) =
    let message : m ≡ n = ok_is m n (read_of before.geometry.mode bytes) reads readings in
    let again : shown_of before m.command m.orders ≡ Ok other = ap (λ (k : Message). shown_of before k.command k.orders) message ∙ showing in
    let same : other ≡ next = ok_is other next (shown_of before m.command m.orders) again shows in
    leads_once next a b others leads (subst (λ v. RecordsLead v others b) same leading)

-- ---- the geometry stays
finished_geometry : (wcc : ℕ) (v w : Picture) (r : Result Writing shown.Refused) → finishes wcc v r ≡ Ok w → w.geometry ≡ v.geometry
finished_geometry wcc v w (Ok end) is = ap (λ (z : Picture). z.geometry) (ok_is w (finished wcc v end) (finishes wcc v (Ok end)) is refl)
finished_geometry wcc v w (Err refused) is = absurd cc

pub shown_geometry : (v w : Picture) (command : Command) (orders : List Site) → shown_of v command orders ≡ Ok w → w.geometry ≡ v.geometry
unfolding shown_of
shown_geometry v w (Write wcc) orders is = finished_geometry wcc v w (acts orders (begun wcc v.cells v.cursor)) is
shown_geometry v w (EraseWrite wcc) orders is = finished_geometry wcc (erased v.geometry.default v) w _ is
shown_geometry v w (EraseWriteAlternate wcc) orders is = finished_geometry wcc (erased v.geometry.alternate v) w _ is
shown_geometry v w EraseAllUnprotected orders is = ap (λ (z : Picture). z.geometry) (ok_is w (all_cleared v) (Ok w) refl (sym is))
shown_geometry v w ReadBuffer orders is = absurd cc
shown_geometry v w ReadModified orders is = absurd cc
shown_geometry v w ReadModifiedAll orders is = absurd cc
shown_geometry v w NoOperation orders is = absurd cc

pub leads_geometry : (v w : Picture) (records : List (List ℕ)) → RecordsLead v records w → w.geometry ≡ v.geometry
leads_geometry v w [] same = ap (λ (z : Picture). z.geometry) (sym same)
leads_geometry v w (bytes ∷ others) (message, next, reads, shows, leads) =
    leads_geometry next w others leads ∙ shown_geometry v next message.command message.orders shows

-- ---- the screen is ready
free_lock : (lock : Lock) → is_free lock ≡ true → lock ≡ Free
free_lock Free is = refl
free_lock Waiting is = absurd cc
free_lock Error is = absurd cc

some_fields : (fields : List FieldAt) → is_none_of fields ≡ false → fields ≡ [] → ⊥
some_fields [] is none = absurd cc
some_fields (field ∷ fields) is none = cc

-- a refusal that was not told
refusal_not : (t : Bool) (f : Finding) (r : Result Picture Finding) (w : Picture) → cond t (Err f) r ≡ Ok w → (t ≡ false) × (r ≡ Ok w)
refusal_not true f r w is = absurd cc
refusal_not false f r w is = (refl, is)

not_false : (t : Bool) → not t ≡ false → t ≡ true
not_false true is = refl
not_false false is = absurd cc

pub record IsOpened (size : Size) (v : Picture) : Type 0 where
  pub free : v.lock ≡ Free
  pub whole : v.size ≡ size
  pub formatted : fields_of v.cells ≡ [] → ⊥

pub ready_ok : (size : Size) (v w : Picture) → ready size v ≡ Ok w → (v ≡ w) × IsOpened size v
ready_ok size v w is =
    let first = refusal_not (not (is_free v.lock)) KeyboardLocked _ w is in
    let second = refusal_not (not (same_size v.size size)) (OtherSize v.size size) _ w first.1 in
    let third = refusal_not (is_none_of (fields_of v.cells)) Unformatted (Ok v) w second.1 in (
      ok_is v w (Ok v) refl third.1,
      record {
        free = free_lock v.lock (not_false (is_free v.lock) first.0);
        whole = size_is v.size size (not_false (same_size v.size size) second.0);
        formatted = some_fields (fields_of v.cells) third.0;
      },
    )

-- what an opening is: one record or more were taken, and what they left is ready
pub record Opens (layout : Declaration) (records : List (List ℕ)) (opened : Picture) : Type 0 where
  pub bytes : List ℕ
  pub others : List (List ℕ)
  pub parts : records ≡ bytes ∷ others
  pub takes : taken_from 0 (new_picture layout.geometry) (bytes ∷ others) ≡ Ok opened
  pub ready : IsOpened layout.size opened

pub opens_so : (layout : Declaration) (records : List (List ℕ)) (opened : Picture) → opening_of layout records ≡ Ok opened → Opens layout records opened
opens_so layout [] opened is = absurd cc
opens_so layout (bytes ∷ others) opened is =
    let both = bind_ok (taken_from 0 (new_picture layout.geometry) (bytes ∷ others)) (ready layout.size) opened is in
    let last = ready_ok layout.size both.0 opened both.2 in
    record {
      bytes = bytes;
      others = others;
      parts = refl;
      takes = both.1 ∙ ap Ok last.0;
      ready = subst (IsOpened layout.size) last.0 last.1;
    }

pub opened_leads : (layout : Declaration) (records : List (List ℕ)) (opened : Picture) → opening_of layout records ≡ Ok opened
    → RecordsLead (new_picture layout.geometry) records opened
opened_leads layout records opened is =
    let o : Opens layout records opened = opens_so layout records opened is in
    subst (λ rs. RecordsLead (new_picture layout.geometry) rs opened) (sym o.parts)
    (taken_leads 0 (new_picture layout.geometry) opened (o.bytes ∷ o.others) o.takes)

pub opened_geometry : (layout : Declaration) (records : List (List ℕ)) (opened : Picture) → opening_of layout records ≡ Ok opened → opened.geometry ≡ layout.geometry
opened_geometry layout records opened is = leads_geometry (new_picture layout.geometry) opened records (opened_leads layout records opened is)

pub opened_ready : (layout : Declaration) (records : List (List ℕ)) (opened : Picture) → opening_of layout records ≡ Ok opened
    → (opened.lock ≡ Free) × ((opened.size ≡ layout.size) × ((fields_of opened.cells ≡ [] → ⊥)))
opened_ready layout records opened is =
    let o : Opens layout records opened = opens_so layout records opened is in
    (o.ready.free, (o.ready.whole, o.ready.formatted))

-- ---- two pictures that take the same records
abbrev pub with_keyboard : Picture → Lock → ℕ → Picture
with_keyboard a lock aid = record a { lock = lock; aid = aid }

-- they differ in lock and attention identifier at most, and that only while the first one waits
pub record Agree (a b : Picture) : Type 0 where
  pub lock : Lock
  pub aid : ℕ
  pub same : b ≡ with_keyboard a lock aid
  pub until : (b ≡ a) ⊎ (a.lock ≡ Waiting)

agree_same : (a : Picture) → Agree a a
agree_same a = record { lock = a.lock; aid = a.aid; same = refl; until = inl refl }

-- what a record makes of the other picture
abbrev Follows : Result Picture shown.Refused → Picture → Type 0
Follows r next = (other : Picture) × (r ≡ Ok other) × Agree next other

finished_agrees : (wcc : ℕ) (a : Picture) (lock : Lock) (aid : ℕ) (w : Writing) → a.lock ≡ Waiting → Agree (finished wcc a w) (finished wcc (with_keyboard a lock aid) w)
finished_agrees wcc a lock aid w waits =
    record {
      lock = cond (restores_keyboard wcc) Free lock;
      aid = cond (restores_keyboard wcc) 0x60 aid;
      same = refl;
      until = elim (cases_Bool (restores_keyboard wcc)) [
        | inl does ↦ inl (rw does refl)
        | inr keeps ↦ inr (rw keeps waits)
      ];
    }

finishes_agrees : (wcc : ℕ) (a next : Picture) (lock : Lock) (aid : ℕ) (r : Result Writing shown.Refused) → a.lock ≡ Waiting → finishes wcc a r ≡ Ok next
    → Follows (finishes wcc (with_keyboard a lock aid) r) next
finishes_agrees wcc a next lock aid (Ok w) waits is =
    let same : finished wcc a w ≡ next = ok_is (finished wcc a w) next (finishes wcc a (Ok w)) refl is in
    (finished wcc (with_keyboard a lock aid) w, refl, subst (λ z. Agree z (finished wcc (with_keyboard a lock aid) w)) same (finished_agrees wcc a lock aid w waits))
finishes_agrees wcc a next lock aid (Err refused) waits is = absurd cc

shown_agrees : (a next : Picture) (lock : Lock) (aid : ℕ) (command : Command) (orders : List Site) → a.lock ≡ Waiting → shown_of a command orders ≡ Ok next
    → Follows (shown_of (with_keyboard a lock aid) command orders) next
unfolding shown_of
shown_agrees a next lock aid (Write wcc) orders waits is = finishes_agrees wcc a next lock aid (acts orders (begun wcc a.cells a.cursor)) waits is
shown_agrees a next lock aid (EraseWrite wcc) orders waits is = finishes_agrees wcc (erased a.geometry.default a) next lock aid _ waits is
shown_agrees a next lock aid (EraseWriteAlternate wcc) orders waits is = finishes_agrees wcc (erased a.geometry.alternate a) next lock aid _ waits is
shown_agrees a next lock aid EraseAllUnprotected orders waits is =
    (all_cleared a, refl, subst (λ z. Agree z (all_cleared a)) (ok_is (all_cleared a) next (Ok (all_cleared a)) refl is) (agree_same (all_cleared a)))
shown_agrees a next lock aid ReadBuffer orders waits is = absurd cc
shown_agrees a next lock aid ReadModified orders waits is = absurd cc
shown_agrees a next lock aid ReadModifiedAll orders waits is = absurd cc
shown_agrees a next lock aid NoOperation orders waits is = absurd cc

-- a record keeps the agreement
step_agrees : (a b next : Picture) (command : Command) (orders : List Site) → Agree a b → shown_of a command orders ≡ Ok next → Follows (shown_of b command orders) next
step_agrees a b next command orders agree is =
    elim agree.until [
      | inl same ↦ (next, ap (λ z. shown_of z command orders) same ∙ is, agree_same next)
      | inr waits ↦ subst (λ z. Follows (shown_of z command orders) next) (sym agree.same) (shown_agrees a next agree.lock agree.aid command orders waits is)
    ]

agree_mode : (a b : Picture) → Agree a b → b.geometry ≡ a.geometry
agree_mode a b agree = ap (λ (z : Picture). z.geometry) agree.same

-- so do records in turn
pub agree_along : (a b w : Picture) (records : List (List ℕ)) → Agree a b → RecordsLead a records w → (other : Picture) × RecordsLead b records other × Agree w other
agree_along a b w [] agree same = (b, refl, subst (λ z. Agree z b) same agree)
agree_along a b w (bytes ∷ others) agree (message, next, reads, shows, leads) =
    let step = step_agrees a b next message.command message.orders agree shows in
    let rest = agree_along next step.0 w others step.2 leads in
    (rest.0, (message, step.0, ap (λ (g : Sizes). read_of g.mode bytes) (agree_mode a b agree) ∙ reads, step.1, rest.1), rest.2)

-- the first record erases, so the cells of before don't matter
other_erases : (index : ℕ) (t : Bool) (command : Command) → cond t (Some FirstNotErase) (cond (writes command) None (Some (NotAWrite index))) ≡ None → t ≡ false
other_erases index true command is = absurd cc
other_erases index false command is = refl

first_erases : (command : Command) → command_fault 0 command ≡ None → erases command ≡ true
first_erases command is = not_false (erases command) (other_erases 0 (not (erases command)) command is)

erased_agree : (size : Size) (a b : Picture) → a.geometry ≡ b.geometry → erased size b ≡ with_keyboard (erased size a) b.lock b.aid
erased_agree size a b same = rw same refl

erasing_agrees : (wcc : ℕ) (a b next : Picture) (size other : Size) (orders : List Site) → a.geometry ≡ b.geometry → size ≡ other → a.lock ≡ Waiting
    → written wcc orders (erased size a) ≡ Ok next → Follows (written wcc orders (erased other b)) next
erasing_agrees wcc a b next size other orders geometry same waits is =
    let here : Follows (written wcc orders (with_keyboard (erased size a) b.lock b.aid)) next =
    finishes_agrees wcc (erased size a) next b.lock b.aid (acts orders (begun wcc (erased size a).cells 0)) waits is in
    subst (λ z. Follows (written wcc orders (erased z b)) next) same
    (subst (λ z. Follows (written wcc orders z) next) (sym (erased_agree size a b geometry)) here)

first_agrees : (a b next : Picture) (command : Command) (orders : List Site) → a.geometry ≡ b.geometry → a.lock ≡ Waiting → erases command ≡ true
    → shown_of a command orders ≡ Ok next → Follows (shown_of b command orders) next
unfolding shown_of
first_agrees a b next (EraseWrite wcc) orders geometry waits first is =
    erasing_agrees wcc a b next a.geometry.default b.geometry.default orders geometry (ap (λ (g : Sizes). g.default) geometry) waits is
first_agrees a b next (EraseWriteAlternate wcc) orders geometry waits first is =
    erasing_agrees wcc a b next a.geometry.alternate b.geometry.alternate orders geometry (ap (λ (g : Sizes). g.alternate) geometry) waits is
first_agrees a b next (Write wcc) orders geometry waits first is = absurd cc
first_agrees a b next EraseAllUnprotected orders geometry waits first is = absurd cc
first_agrees a b next ReadBuffer orders geometry waits first is = absurd cc
first_agrees a b next ReadModified orders geometry waits first is = absurd cc
first_agrees a b next ReadModifiedAll orders geometry waits first is = absurd cc
first_agrees a b next NoOperation orders geometry waits first is = absurd cc

free_waits : (lock : Lock) → lock ≡ Free → lock ≡ Waiting → ⊥
free_waits lock free waits = cc

pub agree_free : (w other : Picture) → Agree w other → w.lock ≡ Free → other ≡ w
agree_free w other agree free =
    elim agree.until [ inl same ↦ same | inr waits ↦ absurd (free_waits w.lock free waits) ]

-- from any picture of a geometry the records lead where they lead from one that waits
anywhere_leads : (a b w : Picture) (bytes : List ℕ) (others : List (List ℕ)) → a.geometry ≡ b.geometry → a.lock ≡ Waiting
    → taken_from 0 a (bytes ∷ others) ≡ Ok w → w.lock ≡ Free → RecordsLead b (bytes ∷ others) w
anywhere_leads a b w bytes others geometry waits takes free =
    let parts = first_taken 0 a w bytes others takes in
    let message : Message = parts.0 in
    let step = first_agrees a b parts.1 message.command message.orders geometry waits (first_erases message.command parts.3) parts.4 in
    let rest = agree_along parts.1 step.0 w others step.2 (taken_leads 1 parts.1 w others parts.5) in
    (message, step.0, ap (λ (g : Sizes). read_of g.mode bytes) (sym geometry) ∙ parts.2, step.1, subst (RecordsLead step.0 others) (agree_free w rest.0 rest.2 free) rest.1)

pub leads_from_every : (layout : Declaration) (records : List (List ℕ)) (opened : Picture) → opening_of layout records ≡ Ok opened → LeadsFromEvery layout records opened
leads_from_every layout records opened is before geometry =
    let o : Opens layout records opened = opens_so layout records opened is in
    subst (λ rs. RecordsLead before rs opened) (sym o.parts)
    (anywhere_leads (new_picture layout.geometry) before opened o.bytes o.others (sym geometry) refl o.takes o.ready.free)
