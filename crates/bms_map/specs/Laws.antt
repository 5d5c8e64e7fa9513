-- What a definition gives to records.
use Rattle.std.specs.Prelude.{◌≡◌, ◌⊎◌, ℕ, true, List, []}
use Rattle.std.specs.List.{list_all}
use Rattle.ds_codec.specs.Character.{is_text}
use Rattle.ds_codec.specs.Writing.{are_good_pairs}
use Rattle.bms_map.specs.declared.field.Looks.{Looks}
use Rattle.bms_map.specs.Operands.{Given}
use Rattle.bms_map.specs.Lookup.{initial_in}
use Rattle.bms_map.specs.Entries.{padded, pairs_of}

-- the text of whatever operands, with blanks up to whatever length, is of characters that a record takes
abbrev pub TextsAreText : Type 0
TextsAreText = (operands : List Given) (length : ℕ) → list_all is_text (padded (initial_in operands) length) ≡ true

-- the pairs of whatever looks, if there are any, can be written
abbrev pub PairsAreGood : Type 0
PairsAreGood = (attribute : ℕ) (looks : Looks) → (pairs_of attribute looks ≡ []) ⊎ (are_good_pairs (pairs_of attribute looks) ≡ true)
