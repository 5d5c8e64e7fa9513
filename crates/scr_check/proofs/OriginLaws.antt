-- Notes on what the orders write: one more, one record more.
use Rattle.std.proofs.Common.{◌≡◌, ℕ, zero, suc, ◌+◌, ◌<◌, ◌≤◌, cond, Bool, true, false, List, [], ◌∷◌, ◌++◌, map, length, get_or, drop, replicate, Option, Some, None, Result, Ok, Err, refl, sym, ◌∙◌, ap, arith}
use Rattle.std.proofs.Math.Seq.{drop-cons}
use Rattle.std.proofs.lemmas.List.{drop_all}
use Rattle.ds_codec.specs.declared.refused.Refused as read
use Rattle.ds_codec.specs.declared.command.Command.{Command}
use Rattle.ds_codec.specs.Order.{Site}
use Rattle.ds_codec.specs.Record.{Message}
use Rattle.ds_codec.specs.Reading.{read_of}
use Rattle.ds_screen.specs.declared.writes.Write.{Write}
use Rattle.ds_screen.specs.declared.refused.Refused as shown
use Rattle.ds_screen.specs.Picture.{Picture}
use Rattle.ds_screen.specs.Records.{shown_of}
use Rattle.scr_check.specs.declared.finding.Finding.{Finding}
use Rattle.scr_check.specs.declared.origins.Origin.{Origin}
use Rattle.scr_check.specs.Opening.{command_fault, unless_found, applied, taken}
use Rattle.scr_check.specs.Origins.{Noted, noted, covers, read_writes, and_later, notes_from, later_or, last_at, kept_at}
use Rattle.scr_check.specs.Noting.{Keeps}
use Rattle.scr_check.proofs.LeadLaws.{shown_geometry}

-- ---- the later of three
pub later_late : (a b c : Option Origin) → later_or (later_or a b) c ≡ later_or a (later_or b c)
later_late None b c = refl
later_late (Some a) b c = refl

pub last_both : (p : ℕ) (first second : List Noted) → last_at p (first ++ second) ≡ later_or (last_at p second) (last_at p first)
last_both p [] second = alone (last_at p second)
  where
    alone : (a : Option Origin) → a ≡ later_or a None
    alone None = refl
    alone (Some a) = refl
last_both p (note ∷ first) second =
    ap (λ o. later_or o (cond (covers note p) (Some note.origin) None)) (last_both p first second)
    ∙ later_late (last_at p second) (last_at p first) (cond (covers note p) (Some note.origin) None)

pub keeps_none : (slots : List (Option Origin)) → Keeps [] slots slots
keeps_none slots p = refl

-- what is noted after other notes
pub keeps_both : (first second : List Noted) (before middle after : List (Option Origin)) → Keeps first before middle → Keeps second middle after → Keeps (first ++ second) before after
keeps_both first second before middle after one two p =
    two p ∙ ap (later_or (last_at p second)) (one p) ∙ sym (later_late (last_at p second) (last_at p first) (kept_at before p))
    ∙ ap (λ o. later_or o (kept_at before p)) (sym (last_both p first second))

-- one note
note_covers : (t : Bool) (origin : Origin) (before : Option Origin) → cond t (Some origin) before ≡ later_or (cond t (Some origin) None) before
note_covers true origin before = refl
note_covers false origin before = refl

-- ---- one write more of a record
pub note_more : (index : ℕ) (writes : List Write) (i : ℕ) (d : Write) (before after : List (Option Origin)) (p : ℕ) → i < length writes
    → kept_at after p ≡ cond (covers (noted index (get_or writes i d)) p) (Some (noted index (get_or writes i d)).origin) (kept_at before p)
    → later_or (last_at p (map (noted index) (drop (i + 1) writes))) (kept_at after p) ≡ later_or (last_at p (map (noted index) (drop i writes))) (kept_at before p)
note_more index writes i d before after p lt is =
    let note : Noted = noted index (get_or writes i d) in
    let others : Option Origin = last_at p (map (noted index) (drop (suc i) writes)) in
    ap (λ k. later_or (last_at p (map (noted index) (drop k writes))) (kept_at after p)) (let e : i + 1 ≡ suc i = omega arith in e)
    ∙ ap (later_or others) (is ∙ note_covers (covers note p) note.origin (kept_at before p))
    ∙ sym (later_late others (cond (covers note p) (Some note.origin) None) (kept_at before p))
    ∙ sym (ap (λ l. later_or (last_at p (map (noted index) l)) (kept_at before p)) (drop-cons writes i d lt))

pub note_ends : (index : ℕ) (writes : List Write) (i : ℕ) (slots : List (Option Origin)) (p : ℕ) → length writes ≤ i
    → kept_at slots p ≡ later_or (last_at p (map (noted index) (drop i writes))) (kept_at slots p)
note_ends index writes i slots p le = sym (ap (λ l. later_or (last_at p (map (noted index) l)) (kept_at slots p)) (drop_all i writes le))

-- ---- one record more
abbrev pub Left : ℕ → Picture → List (List ℕ) → List (Option Origin) → ℕ → Option Origin
Left index v records slots p = later_or (last_at p (notes_from index v records)) (kept_at slots p)

pub record_more : {A : Type 0} (f : A → List ℕ) (records : List A) (index : ℕ) (d : A) (v next : Picture) (before after : List (Option Origin)) (p : ℕ) → index < length records
    → taken index v (read_of v.geometry.mode (f (get_or records index d))) ≡ Ok next
    → Keeps (map (noted index) (read_writes v (read_of v.geometry.mode (f (get_or records index d))))) before after
    → Left (index + 1) next (map f (drop (index + 1) records)) after p ≡ Left index v (map f (drop index records)) before p
record_more f records index d v next before after p lt takes keeps =
    let notes : List Noted = map (noted index) (read_writes v (read_of v.geometry.mode (f (get_or records index d)))) in
    let others : List (List ℕ) = map f (drop (suc index) records) in
    let later : List Noted = notes_from (index + 1) next others in
    ap (λ k. Left (index + 1) next (map f (drop k records)) after p) (let e : index + 1 ≡ suc index = omega arith in e)
    ∙ ap (later_or (last_at p later)) (keeps p)
    ∙ sym (later_late (last_at p later) (last_at p notes) (kept_at before p))
    ∙ ap (λ o. later_or o (kept_at before p)) (sym (last_both p notes later))
    ∙ sym (ap (λ l. Left index v (map f l) before p) (drop-cons records index d lt)
    ∙ ap (λ r. later_or (last_at p (and_later r notes (λ w. notes_from (index + 1) w others))) (kept_at before p)) takes)

pub record_stops : {A : Type 0} (f : A → List ℕ) (records : List A) (index : ℕ) (d : A) (v : Picture) (finding : Finding) (slots : List (Option Origin)) (p : ℕ) → index < length records
    → taken index v (read_of v.geometry.mode (f (get_or records index d))) ≡ Err finding
    → kept_at slots p ≡ Left index v (map f (drop index records)) slots p
record_stops f records index d v finding slots p lt takes =
    let notes : List Noted = map (noted index) (read_writes v (read_of v.geometry.mode (f (get_or records index d)))) in
    let others : List (List ℕ) = map f (drop (suc index) records) in
    sym (ap (λ l. Left index v (map f l) slots p) (drop-cons records index d lt)
    ∙ ap (λ r. later_or (last_at p (and_later r notes (λ w. notes_from (index + 1) w others))) (kept_at slots p)) takes)

pub records_end : {A : Type 0} (f : A → List ℕ) (records : List A) (index : ℕ) (v : Picture) (slots : List (Option Origin)) (p : ℕ) → length records ≤ index
    → kept_at slots p ≡ Left index v (map f (drop index records)) slots p
records_end f records index v slots p le = sym (ap (λ l. Left index v (map f l) slots p) (drop_all index records le))

-- ---- at first nothing is kept
pub nothing_kept : (n p : ℕ) → kept_at (replicate n None) p ≡ None
nothing_kept zero p = refl
nothing_kept (suc n) zero = refl
nothing_kept (suc n) (suc p) = nothing_kept n p

pub or_nothing : (a : Option Origin) → later_or a None ≡ a
or_nothing None = refl
or_nothing (Some a) = refl

-- ---- the geometry stays
ok_same : {E : Type 0} (u w : Picture) (r : Result Picture E) → r ≡ Ok u → r ≡ Ok w → u ≡ w
ok_same u w r first second = cc

unless_geometry : (index : ℕ) (v w : Picture) (command : Command) (orders : List Site) (fault : Option Finding) (r : Result Picture shown.Refused) → shown_of v command orders ≡ r
    → unless_found fault (applied index r) ≡ Ok w → w.geometry ≡ v.geometry
unless_geometry index v w command orders None (Ok u) shows is = shown_geometry v w command orders (shows ∙ ap (λ x. Ok x) (ok_same u w (applied index (Ok u)) refl is))
unless_geometry index v w command orders None (Err refused) shows is = absurd cc
unless_geometry index v w command orders (Some finding) r shows is = absurd cc

pub taken_geometry : (index : ℕ) (v w : Picture) (r : Result Message read.Refused) → taken index v r ≡ Ok w → w.geometry ≡ v.geometry
taken_geometry index v w (Err refused) is = absurd cc
taken_geometry index v w (Ok message) is =
    unless_geometry index v w message.command message.orders (command_fault index message.command) (shown_of v message.command message.orders) refl is
