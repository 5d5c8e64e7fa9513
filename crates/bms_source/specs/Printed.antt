-- A refusal as it is printed.
use Rattle.std.specs.Prelude.{ℕ, List, [], ◌∷◌, ◌++◌, codes, Option, Some, None}
use Rattle.std.specs.Fmt.{decimal}
use Rattle.std.specs.List.{flat_map}
use Rattle.std.specs.Prelude.{encode_utf8}
use Rattle.bms_source.specs.declared.letter.Place.{Place}
use Rattle.bms_source.specs.declared.refusal.Refusal.{Refusal}
use Rattle.bms_source.specs.Told.{why_words}

-- the characters of these codes, in UTF-8
abbrev pub printed_codes : List ℕ → List ℕ
printed_codes codes = flat_map encode_utf8 codes

-- a word behind a space
abbrev pub word_text : List ℕ → List ℕ
word_text [] = []
word_text (code ∷ word) = codes " " ++ printed_codes (code ∷ word)

abbrev pub place_text : Option Place → List ℕ
place_text None = []
place_text (Some place) = codes " at line " ++ (decimal place.line ++ (codes " column " ++ decimal place.column))

-- the number and the words, the word at fault and its place, where there are these
abbrev pub refusal_text : Refusal → List ℕ
refusal_text refusal = why_words refusal.why ++ (word_text refusal.word ++ place_text refusal.place)
