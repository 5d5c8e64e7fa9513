-- For the code's own proofs: no public contract rests on this file.
-- Entries by their places and by their names.
use Rattle.std.specs.BTreeSet.{BTreeSet, contains_text}
use Rattle.std.specs.Prelude.{String, ◌≡◌, ℕ, ◌==◌, List, position, option_map}
use Rattle.ds_places.specs.Places.{IsRising, at_place}
use Rattle.scr_layout.specs.declared.located.Located.{Located}
use Rattle.scr_layout.specs.Entry.{Declared}
use Rattle.scr_layout.specs.Rows.{has_name}

-- at each place stands the index of the first entry that begins there
pub record AreLocated (entries : List Declared) (table : List Located) : Type 0 where
  pub rising : IsRising (λ located. located.place) table
  pub found : (q : ℕ) → option_map (λ located. located.index) (at_place (λ located. located.place) table q) ≡ position (λ entry. q == entry.place) entries

-- the names are those of the entries
abbrev pub AreNamed : {Y : Type 0} → List Declared → BTreeSet (String Y) → Type 0
AreNamed entries names = (name : List ℕ) → contains_text names name ≡ has_name name entries
