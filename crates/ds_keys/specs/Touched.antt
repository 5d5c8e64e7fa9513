-- Which fields are modified, by the history of keys.
use Rattle.std.specs.Prelude.{◌≡◌, ℕ, Bool, true, false, not, ◌&&◌, ◌⊎◌, List, [], ◌∷◌, ◌++◌}
use Rattle.ds_codec.specs.Attribute.{is_protected, is_modified}
use Rattle.ds_screen.specs.Picture.{Picture, cell_at}
use Rattle.ds_screen.specs.Fields.{bits_of, governs}
use Rattle.ds_keys.specs.declared.key.Key.{Key}
use Rattle.ds_keys.specs.declared.key.Key.TheVariants.{Typed, EraseEof, EraseInput, Delete}
use Rattle.ds_keys.specs.KeyRuns.{after_key, answer_of, after, is_accepted}

-- keys that change the field that the cursor stands in
abbrev pub is_edit : Key → Bool
is_edit (Typed code) = true
is_edit Delete = true
is_edit EraseEof = true
is_edit key = false

abbrev pub is_erase_input : Key → Bool
is_erase_input EraseInput = true
is_erase_input key = false

-- the key is accepted and changes the field that the attribute at q begins
abbrev pub edits : Picture → Key → ℕ → Bool
edits v key q = is_edit key && (is_accepted (answer_of v key) && governs v.cells q v.cursor)

-- the key is an accepted Erase Input
abbrev pub clears : Picture → Key → Bool
clears v key = is_erase_input key && is_accepted (answer_of v key)

-- no Erase Input is accepted along the keys
unfoldable pub clears_nothing : Picture → List Key → Bool
clears_nothing v [] = true
clears_nothing v (key ∷ keys) = not (clears v key) && clears_nothing (after_key v key) keys

-- some key edits the field, and no Erase Input is accepted after it
pub record IsEdited (v : Picture) (keys : List Key) (q : ℕ) : Type 0 where
  pub early : List Key
  pub key : Key
  pub late : List Key
  pub parts : keys ≡ early ++ key ∷ late
  pub edited : edits (after v early) key q ≡ true
  pub lasts : clears_nothing (after_key (after v early) key) late ≡ true

-- modified at first, and protected or never cleared
pub record WasModified (v : Picture) (keys : List Key) (q : ℕ) : Type 0 where
  pub modified : is_modified (bits_of (cell_at v.cells q)) ≡ true
  pub lasts : (is_protected (bits_of (cell_at v.cells q)) ≡ true) ⊎ (clears_nothing v keys ≡ true)

abbrev pub IsTouched : Picture → List Key → ℕ → Type 0
IsTouched v keys q = WasModified v keys q ⊎ IsEdited v keys q
