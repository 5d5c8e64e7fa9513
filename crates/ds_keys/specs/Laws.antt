-- Laws on what keys do.
use Rattle.std.specs.Prelude.{◌≡◌, ℕ, ◌==◌, ◌↔◌, Bool, true, false, List, length}
use Rattle.ds_codec.specs.declared.cell.Cell.{Cell}
use Rattle.ds_codec.specs.Attribute.{is_modified}
use Rattle.ds_screen.specs.Picture.{Picture, IsSound, cell_at}
use Rattle.ds_screen.specs.Fields.{is_attribute, is_character, bits_of, is_open}
use Rattle.ds_screen.specs.Records.{unprotected_unmodified}
use Rattle.ds_keys.specs.declared.key.Key.{Key}
use Rattle.ds_keys.specs.declared.key.Key.TheVariants.{Attention}
use Rattle.ds_keys.specs.declared.pressed.Pressed.{Pressed}
use Rattle.ds_keys.specs.KeyStep.{KeyStep}
use Rattle.ds_keys.specs.KeyRuns.{after_key, after, IsAccepted, IsQuiet}
use Rattle.ds_keys.specs.Touched.{IsTouched}

-- the cells keep their protected parts: attributes stay with the same bits, an unprotected one's modified data tag
-- aside; a character that is not open stays, an open one stays a character
pub record Keeps (before after : List Cell) : Type 0 where
  pub whole : length after ≡ length before
  pub closed : (p : ℕ) → is_open before p ≡ false → unprotected_unmodified (cell_at after p) ≡ unprotected_unmodified (cell_at before p)
  pub open_stays : (p : ℕ) → is_open before p ≡ true → is_character (cell_at after p) ≡ true

-- Clear alone is no such key
abbrev pub is_clear : Key → Bool
is_clear (Attention aid) = aid == 0x6D
is_clear key = false

-- the keep law
abbrev pub KeyKeeps : Type 0
KeyKeeps = (v : Picture) (key : Key) → IsAccepted v key → is_clear key ≡ false → Keeps v.cells (after_key v key).cells

-- the keep law along a list of keys of which none sends
abbrev pub QuietKeysKeep : Type 0
QuietKeysKeep = (v : Picture) (keys : List Key) → IsQuiet v keys → Keeps v.cells (after v keys).cells

-- the touched law: along a list of keys of which none sends, an attribute is modified exactly where it is touched
abbrev pub ModifiedIsTouched : Type 0
ModifiedIsTouched =
    (v : Picture) (keys : List Key) (q : ℕ) → IsQuiet v keys → is_attribute (cell_at v.cells q) ≡ true
    → (is_modified (bits_of (cell_at (after v keys).cells q)) ≡ true) ↔ IsTouched v keys q

-- a key leads from a picture to one picture, with one answer
abbrev pub HasOneStep : Type 0
HasOneStep =
    (v after other : Picture) (key : Key) (pressed told : Pressed) → KeyStep v key after pressed → KeyStep v key other told
    → (after ≡ other) × (pressed ≡ told)

-- keys leave a sound picture sound, Clear too
abbrev pub KeysStaySound : Type 0
KeysStaySound = (v : Picture) (keys : List Key) → IsSound v → IsSound (after v keys)
