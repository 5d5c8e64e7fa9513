-- What a yes promises of every list of keys before the first attention key: nothing protected changes, and what Enter
-- or a PF key then sends are the layout's fields.
use Rattle.std.specs.Prelude.{Bool, ◌≡◌, ℕ, ◌≤◌, ◌↔◌, ◌==◌, true, false, List, [], map, length, slice_get, Some}
use Rattle.std.specs.List.{list_any}
use Rattle.std.specs.List.Sorted.{IsStrictlyIncreasing}
use Rattle.ds_codec.specs.declared.cell.Cell.{Cell}
use Rattle.ds_codec.specs.Aid.{is_long_aid}
use Rattle.ds_codec.specs.Attribute.{is_protected, with_modified}
use Rattle.ds_codec.specs.Geometry.{cells_of}
use Rattle.ds_screen.specs.declared.lock.Lock.TheVariants.{Free}
use Rattle.ds_screen.specs.Picture.{Picture, cell_at}
use Rattle.ds_screen.specs.Fields.{is_attribute, bits_of, governs}
use Rattle.ds_keys.specs.declared.key.Key.{Key}
use Rattle.ds_keys.specs.declared.key.Key.TheVariants.{Attention}
use Rattle.ds_keys.specs.declared.pressed.Pressed.TheVariants.{Sent}
use Rattle.ds_keys.specs.KeyRuns as keyed
use Rattle.ds_keys.specs.Touched.{IsTouched}
use Rattle.ds_inbound.specs.Answer.{Answer, field_sent, bytes_sent}
use Rattle.ds_inbound.specs.Inbound.{SaysOnly}
use Rattle.scr_layout.specs.declared.entry.Kind.TheVariants.{Fixed}
use Rattle.scr_layout.specs.Entry.{Declared}
use Rattle.scr_layout.specs.Layout.{Declaration}
use Rattle.scr_check.specs.Findings.{entry_at}

-- ---- what is protected

-- The same positions hold attributes, with the same bits, the modified data tag of an unprotected one aside; and each
-- character that a protected attribute governs is the same.
pub record IsProtectedSame (before after : List Cell) : Type 0 where
  pub whole : length after ≡ length before
  pub places : (p : ℕ) → is_attribute (cell_at after p) ≡ is_attribute (cell_at before p)
  pub protected : (p : ℕ) → is_protected (bits_of (cell_at before p)) ≡ true → cell_at after p ≡ cell_at before p
  pub bits : (p : ℕ) → is_attribute (cell_at before p) ≡ true → with_modified (bits_of (cell_at after p)) false ≡ with_modified (bits_of (cell_at before p)) false
  pub characters : (q p : ℕ) → governs before q p ≡ true → is_protected (bits_of (cell_at before q)) ≡ true → cell_at after p ≡ cell_at before p

-- ---- what is sent

abbrev pub is_among : List ℕ → ℕ → Bool
is_among places q = list_any (λ place. place == q) places

-- these attributes are touched along the keys, in rising position, and no other
pub record AreTouched (v : Picture) (keys : List Key) (places : List ℕ) : Type 0 where
  pub rising : IsStrictlyIncreasing places
  pub exactly : (q : ℕ) → (is_among places q ≡ true) ↔ ((is_attribute (cell_at v.cells q) ≡ true) × IsTouched v keys q)

-- The field of the attribute at q has an entry at its place and holds no more characters than that declares; a fixed one
-- holds those that the records wrote.
pub record IsDeclaredField (entries : List Declared) (before after : List Cell) (q : ℕ) : Type 0 where
  pub index : ℕ
  pub entry : Declared
  pub here : entry_at entries (field_sent after q).place ≡ Some index
  pub declared : slice_get entries index ≡ Some entry
  pub place : (field_sent after q).place ≡ entry.place
  pub short : length (field_sent after q).characters ≤ entry.length
  pub fixed : entry.kind ≡ Fixed → (field_sent after q).characters ≡ (field_sent before q).characters

-- that key, the cursor where it stands, and the fields of these attributes: each its place and the characters that it
-- holds, in order, without nulls
abbrev pub due_answer : ℕ → Picture → List ℕ → Answer
due_answer aid v places = record { aid = aid; cursor = Some v.cursor; lead = []; fields = map (field_sent v.cells) places }

-- The key with this attention identifier is accepted and sends bytes that say one answer on the layout's screen: one
-- field for each touched attribute, in rising position, each as it is declared.
pub record SendsTouched (layout : Declaration) (opened : Picture) (keys : List Key) (v : Picture) (aid : ℕ) : Type 0 where
  pub sent : keyed.answer_of v (Attention aid) ≡ Sent aid
  pub places : List ℕ
  pub touched : AreTouched opened keys places
  pub says : SaysOnly layout.geometry.mode (cells_of layout.size) (due_answer aid v places) (bytes_sent (keyed.after_key v (Attention aid)) false)
  pub declared : (q : ℕ) → is_among places q ≡ true → IsDeclaredField layout.entries opened.cells v.cells q

-- ---- the promise for one list of keys, from the picture that the records left
pub record Promise (layout : Declaration) (opened : Picture) (keys : List Key) : Type 0 where
  pub kept : IsProtectedSame opened.cells (keyed.after opened keys).cells
  pub sends : (aid : ℕ) → is_long_aid aid ≡ true → (keyed.after opened keys).lock ≡ Free → SendsTouched layout opened keys (keyed.after opened keys) aid

-- it holds for every list of keys of which none sends
abbrev pub KeepsPromise : Declaration → Picture → Type 0
KeepsPromise layout opened = (keys : List Key) → keyed.IsQuiet opened keys → Promise layout opened keys

-- some such list breaks it
pub record BreaksPromise (layout : Declaration) (opened : Picture) : Type 0 where
  pub keys : List Key
  pub quiet : keyed.IsQuiet opened keys
  pub broken : Promise layout opened keys → ⊥
