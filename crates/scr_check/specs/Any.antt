-- What a yes promises of every terminal, whatever its keys: insert mode, duplicate, field mark, erased words, pasted text.
-- All is said of the picture that the operator leaves, and nothing of the keys that led to it.
use Rattle.std.specs.Prelude.{◌≡◌, ℕ, ◌<◌, ◌↔◌, true, false, List, [], ◌∷◌, ◌++◌, length, Ok}
use Rattle.std.specs.List.{list_all}
use Rattle.std.specs.List.Sorted.{IsStrictlyIncreasing}
use Rattle.ds_codec.specs.declared.cell.Cell.{Cell}
use Rattle.ds_codec.specs.Aid.{is_long_aid}
use Rattle.ds_codec.specs.Geometry.{cells_of}
use Rattle.ds_screen.specs.Picture.{Picture, IsSound, cell_at, is_real}
use Rattle.ds_screen.specs.Fields.{is_attribute, span_of}
use Rattle.ds_keys.specs.declared.key.Key.{Key}
use Rattle.ds_keys.specs.KeyRuns as keyed
use Rattle.ds_inbound.specs.Answer.{is_modified_at, bytes_sent}
use Rattle.ds_inbound.specs.Inbound.{SaysOnly}
use Rattle.scr_layout.specs.Layout.{Declaration, IsLayout}
use Rattle.scr_check.specs.Opening.{ready, opening_of}
use Rattle.scr_check.specs.Findings.{findings_of, Conforms}
use Rattle.scr_check.specs.Promise.{IsProtectedSame, is_among, IsDeclaredField, due_answer, KeepsPromise}
use Rattle.scr_check.specs.Leads.{RecordsLead, LeadsFromEvery}
use Rattle.scr_check.specs.Walk.{Round}

-- ---- what the operator leaves

-- A terminal's picture, whatever its lock, attention identifier and open characters, on which what is protected stands as
-- in the one that was opened; its cursor is inside, and its characters exist. The modified data tags of unprotected
-- attributes are set or not, but none is set of a field without cells: nothing can be typed there.
pub record IsLeftOf (opened v : Picture) : Type 0 where
  pub geometry : v.geometry ≡ opened.geometry
  pub size : v.size ≡ opened.size
  pub cursor : v.cursor < length v.cells
  pub characters : list_all is_real v.cells ≡ true
  pub kept : IsProtectedSame opened.cells v.cells
  pub empty : (q : ℕ) → span_of opened.cells q ≡ [] → is_modified_at v.cells q ≡ true → is_modified_at opened.cells q ≡ true

-- ---- what is sent

-- the attributes with the modified data tag, in rising position, and no other
pub record AreModified (cells : List Cell) (places : List ℕ) : Type 0 where
  pub rising : IsStrictlyIncreasing places
  pub exactly : (q : ℕ) → (is_among places q ≡ true) ↔ ((is_attribute (cell_at cells q) ≡ true) × (is_modified_at cells q ≡ true))

abbrev pub with_aid : ℕ → Picture → Picture
with_aid aid v = record v { aid = aid }

-- What is sent with this attention identifier says one answer on the layout's screen: one field for each modified
-- attribute, in rising position, each as it is declared.
pub record SendsModified (layout : Declaration) (opened v : Picture) (aid : ℕ) : Type 0 where
  pub places : List ℕ
  pub modified : AreModified v.cells places
  pub says : SaysOnly layout.geometry.mode (cells_of layout.size) (due_answer aid v places) (bytes_sent (with_aid aid v) false)
  pub declared : (q : ℕ) → is_among places q ≡ true → IsDeclaredField layout.entries opened.cells v.cells q

-- it does so of every picture that the operator can leave, with Enter and each PF key
abbrev pub AnswersForAny : Declaration → Picture → Type 0
AnswersForAny layout opened = (v : Picture) → IsLeftOf opened v → (aid : ℕ) → is_long_aid aid ≡ true → SendsModified layout opened v aid

-- ---- steps

-- What is left in several steps is left in one; so what each key of a terminal leaves decides.
abbrev pub LeavesInSteps : Type 0
LeavesInSteps = (opened middle v : Picture) → IsLeftOf opened middle → IsLeftOf middle v → IsLeftOf opened v

-- the keys of this terminal leave no more, from a sound picture, up to one that sends
abbrev pub OwnKeysLeave : Type 0
OwnKeysLeave = (opened : Picture) (keys : List Key) → IsSound opened → keyed.IsQuiet opened keys → IsLeftOf opened (keyed.after opened keys)

-- so what is promised of any terminal holds of its own keys
abbrev pub OwnKeysArePromised : Type 0
OwnKeysArePromised = (layout : Declaration) (opened : Picture) → IsSound opened → AnswersForAny layout opened → KeepsPromise layout opened

-- ---- the promise
pub record IsPromisedForAny (layout : Declaration) (records : List (List ℕ)) : Type 0 where
  pub opened : Picture
  pub opens : opening_of layout records ≡ Ok opened
  pub anywhere : LeadsFromEvery layout records opened
  pub sound : IsSound opened
  pub promise : AnswersForAny layout opened

-- for a user: the records led from some picture of the layout's geometry to one, and the operator left what he left
abbrev pub YesMeansForAny : Type 0
YesMeansForAny =
    (layout : Declaration) (records : List (List ℕ)) → IsLayout layout → Conforms layout records
    → (before opened v : Picture) (aid : ℕ) → before.geometry ≡ layout.geometry → RecordsLead before records opened
    → IsLeftOf opened v → is_long_aid aid ≡ true → SendsModified layout opened v aid

-- ---- dialogues

-- A turn as it goes: its records lead from what stood there to a picture, and the operator leaves something of it.
pub record AnyTurnLeads (before : Picture) (round : Round) (after : Picture) : Type 0 where
  pub opened : Picture
  pub leads : RecordsLead before round.records opened
  pub left : IsLeftOf opened after

-- a dialogue up to here: each turn begins with the picture that the one before left
abbrev pub AnyTalks : Picture → List Round → Picture → Type 0
AnyTalks before [] after = before ≡ after
AnyTalks before (round ∷ rounds) after = (next : Picture) × AnyTurnLeads before round next × AnyTalks next rounds after

-- The records of the turn lead to a picture on which the operator can type, of the layout's size, with fields, against
-- which nothing stands; and whatever he leaves of it is answered as it is declared.
pub record AnyTurnKeeps (before : Picture) (round : Round) : Type 0 where
  pub opened : Picture
  pub leads : RecordsLead before round.records opened
  pub sound : IsSound opened
  pub usable : ready round.layout.size opened ≡ Ok opened
  pub clean : findings_of round.layout opened ≡ []
  pub promise : AnswersForAny round.layout opened

-- Each turn does, whatever the operator left in the turns before, from any picture of the layouts' geometry at the very
-- first. The dialogue may stop after any turn.
abbrev pub TalksKeepForAny : List Round → Type 0
TalksKeepForAny rounds =
    (early : List Round) (round : Round) (late : List Round) → rounds ≡ early ++ round ∷ late
    → (first before : Picture) → first.geometry ≡ round.layout.geometry → AnyTalks first early before → AnyTurnKeeps before round
