-- What keys keep of the geometry, and what holds of a picture that was opened.
use Rattle.std.proofs.Common.{◌≡◌, ℕ, Bool, true, false, cond, List, [], ◌∷◌, map, refl, ◌∙◌, ap}
use Rattle.ds_codec.specs.declared.cell.Cell.{Cell}
use Rattle.ds_codec.specs.Character.{is_graphic}
use Rattle.ds_codec.specs.Geometry.{Sizes}
use Rattle.ds_screen.specs.declared.lock.Lock.{Lock}
use Rattle.ds_screen.specs.declared.lock.Lock.TheVariants.{Free, Waiting, Error}
use Rattle.ds_screen.specs.Picture.{Picture, IsSound}
use Rattle.ds_screen.specs.Fields.{is_open, field_at, attributes_from, fields_of}
use Rattle.ds_screen.specs.Records.{erased}
use Rattle.ds_keys.specs.declared.key.Key.{Key}
use Rattle.ds_keys.specs.declared.key.Key.TheVariants.{Typed, Left, Right, Up, Down, Tab, BackTab, NewLine, Home, EraseEof, EraseInput, Delete, Reset, Attention}
use Rattle.ds_keys.specs.KeyStep.{Step, sent, ignored, typed_step, erase_eof_step, delete_step, erase_input_step, attention_step, free_step, error_step, step_under, step_of}
use Rattle.ds_keys.specs.KeyRuns as keyed
use Rattle.scr_layout.specs.Layout.{Declaration}

-- ---- keys keep the geometry

abbrev StaysIn : Sizes → Step → Type 0
StaysIn geometry s = s.after.geometry ≡ geometry

either : (geometry : Sizes) (b : Bool) (s t : Step) → StaysIn geometry s → StaysIn geometry t → StaysIn geometry (cond b s t)
either geometry true s t a b = a
either geometry false s t a b = b

typed_stays : (v : Picture) (code : ℕ) → StaysIn v.geometry (typed_step v code)
unfolding typed_step
typed_stays v code = either v.geometry (is_graphic code) _ _ (either v.geometry (is_open v.cells v.cursor) _ _ refl refl) refl

eof_stays : (v : Picture) → StaysIn v.geometry (erase_eof_step v)
unfolding erase_eof_step
eof_stays v = either v.geometry (is_open v.cells v.cursor) _ _ refl refl

delete_stays : (v : Picture) → StaysIn v.geometry (delete_step v)
unfolding delete_step
delete_stays v = either v.geometry (is_open v.cells v.cursor) _ _ refl refl

input_stays : (v : Picture) → StaysIn v.geometry (erase_input_step v)
input_stays v = refl

attention_stays : (v : Picture) (aid : ℕ) → StaysIn v.geometry (attention_step v aid)
unfolding attention_step
attention_stays v aid = either v.geometry _ (ignored v) _ refl (either v.geometry _ (sent (erased v.geometry.default v) aid) (sent v aid) refl refl)

free_stays : (v : Picture) (key : Key) → StaysIn v.geometry (free_step v key)
unfolding free_step
free_stays v (Typed code) = typed_stays v code
free_stays v EraseEof = eof_stays v
free_stays v EraseInput = input_stays v
free_stays v Delete = delete_stays v
free_stays v (Attention aid) = attention_stays v aid
free_stays v Left = refl
free_stays v Right = refl
free_stays v Up = refl
free_stays v Down = refl
free_stays v Tab = refl
free_stays v BackTab = refl
free_stays v NewLine = refl
free_stays v Home = refl
free_stays v Reset = refl

error_stays : (v : Picture) (key : Key) → StaysIn v.geometry (error_step v key)
error_stays v Reset = refl
error_stays v (Typed code) = refl
error_stays v EraseEof = refl
error_stays v EraseInput = refl
error_stays v Delete = refl
error_stays v (Attention aid) = refl
error_stays v Left = refl
error_stays v Right = refl
error_stays v Up = refl
error_stays v Down = refl
error_stays v Tab = refl
error_stays v BackTab = refl
error_stays v NewLine = refl
error_stays v Home = refl

under_stays : (lock : Lock) (v : Picture) (key : Key) → StaysIn v.geometry (step_under lock v key)
under_stays Free v key = free_stays v key
under_stays Waiting v key = refl
under_stays Error v key = error_stays v key

pub key_stays : (v : Picture) (key : Key) → (keyed.after_key v key).geometry ≡ v.geometry
unfolding step_of
key_stays v key = under_stays v.lock v key

pub keys_stay : (v : Picture) (keys : List Key) → (keyed.after v keys).geometry ≡ v.geometry
unfolding keyed.after
keys_stay v [] = refl
keys_stay v (key ∷ keys) = keys_stay (keyed.after_key v key) keys ∙ key_stays v key

-- ---- the picture that the records left

-- what holds of it before anything is said of findings
pub record IsOpened (layout : Declaration) (v : Picture) : Type 0 where
  pub sound : IsSound v
  pub geometry : v.geometry ≡ layout.geometry
  pub size : v.size ≡ layout.size
  pub some : fields_of v.cells ≡ [] → ⊥

pub attributes_some : (cells : List Cell) → (fields_of cells ≡ [] → ⊥) → attributes_from cells 0 ≡ [] → ⊥
attributes_some cells some none = some (ap (map (field_at cells)) none)
