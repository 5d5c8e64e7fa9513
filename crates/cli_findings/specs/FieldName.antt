-- A name for a field that has no entry.
use Rattle.std.specs.Prelude.{ℕ, ◌+◌, Bool, not, nat_le, bytes_eq, List, [], ◌++◌, length, codes, unwrap_or, if◌then◌else◌}
use Rattle.std.specs.Fmt.{decimal}
use Rattle.std.specs.List.{list_any}
use Rattle.ds_screen.specs.Ring.{least}

-- the k-th form, from 0 on: `field-PLACE`, `field-PLACE-2`, `field-PLACE-3` and so on
abbrev pub field_form : ℕ → ℕ → List ℕ
field_form place k = codes "field-" ++ (decimal place ++ (if nat_le k 0 then [] else codes "-" ++ decimal (k + 1)))

abbrev pub is_taken : List (List ℕ) → List ℕ → Bool
is_taken names name = list_any (bytes_eq name) names

-- the first form that none of the names is; where so many forms as there are names are taken, the next one
abbrev pub field_name : List (List ℕ) → ℕ → List ℕ
field_name names place = field_form place (unwrap_or (least (length names) (λ k. not (is_taken names (field_form place k)))) (length names))
