-- The names of drafted fields.
use Rattle.std.specs.Prelude.{◌≡◌, ℕ, ◌+◌, ◌-◌, ◌/◌, ◌%◌, ◌<◌, Bool, true, false, not, ◌&&◌, ◌==◌, nat_le, bytes_eq, List, [], ◌∷◌, ◌++◌, codes, length, take, slice_index, unwrap_or, if◌then◌else◌}
use Rattle.std.specs.Fmt.{decimal}
use Rattle.std.specs.List.{list_any}
use Rattle.ds_screen.specs.Ring.{least}
use Rattle.scr_draft.specs.Label.{is_word}

-- ---- the words of a label

-- a letter in lower case
abbrev pub lower : ℕ → ℕ
lower c = if nat_le 65 c && nat_le c 90 then c + 32 else c

-- a letter in lower case, a digit, or `-` for what stands between two words, once; whether none is to stand here
abbrev pub dashed_byte : Bool → ℕ → List ℕ
dashed_byte none c = if is_word c then lower c ∷ [] else (if none then [] else 45 ∷ [])

abbrev pub dashed_from : Bool → List ℕ → List ℕ
dashed_from none [] = []
dashed_from none (c ∷ cs) = dashed_byte none c ++ dashed_from (not (is_word c)) cs

-- the words of a label in lower case, with one `-` behind each that something follows
abbrev pub dashed : List ℕ → List ℕ
dashed label = dashed_from true label

-- without a `-` at the end
abbrev pub undashed : List ℕ → List ℕ
undashed text = if slice_index text (length text - 1) == 45 then take (length text - 1) text else text

-- ---- the forms of a name

-- the name of a field without a label, by the row and the column of its first cell, both counted from 1
abbrev pub place_name : ℕ → ℕ → List ℕ
place_name cols place = codes "row-" ++ (decimal (place / cols + 1) ++ (codes "-col-" ++ decimal (place % cols + 1)))

-- what is put behind a name that comes again; the first time nothing
abbrev pub suffix : ℕ → List ℕ
suffix k = if nat_le k 0 then [] else codes "-" ++ decimal (k + 1)

-- the words, of which so many bytes are kept, without a `-` at the end; or else the place
abbrev pub stem : List ℕ → List ℕ → ℕ → List ℕ
stem place [] most = place
stem place (c ∷ cs) most = undashed (take most (c ∷ cs))

-- The k-th form of a field's name, from 0 on: the words of its label, cut so that all of it has at most 32 characters, or
-- else its place.
abbrev pub form : ℕ → ℕ → List ℕ → ℕ → List ℕ
form cols place label k = stem (place_name cols place) (dashed label) (32 - length (suffix k)) ++ suffix k

-- ---- the form that is taken

abbrev pub is_taken : List (List ℕ) → List ℕ → Bool
is_taken names name = list_any (bytes_eq name) names

-- the least number whose form none of the names is
abbrev pub free_number : List (List ℕ) → (ℕ → List ℕ) → ℕ
free_number names forms = unwrap_or (least (length names + 2) (λ k. not (is_taken names (forms k)))) 0

abbrev pub free_name : List (List ℕ) → (ℕ → List ℕ) → List ℕ
free_name names forms = forms (free_number names forms)

-- none of the names is the form of this number, and each form before it is one of them
pub record IsFree (names : List (List ℕ)) (forms : ℕ → List ℕ) (k : ℕ) : Type 0 where
  pub free : is_taken names (forms k) ≡ false
  pub first : (j : ℕ) → j < k → is_taken names (forms j) ≡ true
