-- The line from which a line of keys comes.
use Rattle.std.proofs.Common.{◌≡◌, ◌<◌, ◌≤◌, ℕ, ◌+◌, ◌-◌, true, false, leb, List, length, sym, arith, length-drop}
use Rattle.std.specs.List.{position_or_len, before_first, after_first}
use Rattle.std.proofs.lemmas.Bool.{le-leb, lt-leb}
use Rattle.cli_characters.specs.Lines.{is_feed, parts_of}
use Rattle.cli_characters.specs.Strokes.{count_of, string_of, line_from}
use Rattle.cli_characters.proofs.Parts.{cut, whole, some_parts}

-- a line was cut from the text
abbrev IsCut : List ℕ → List ℕ → List ℕ → Type 0
IsCut text line rest = (line ≡ before_first is_feed text) × (rest ≡ after_first is_feed text) × (position_or_len is_feed text < length text)

pub here : (number key_line count due : ℕ) (text line rest : List ℕ) → line_from number (parts_of text) key_line ≡ due → IsCut text line rest
    → count ≡ count_of (string_of line) → key_line ≤ count → number ≡ due
here number key_line count due text line rest is (same, after, less) counts few =
    let there = some_parts (after_first is_feed text) in
    let test : leb key_line (count_of (string_of (before_first is_feed text))) ≡ true = le-leb _ _ (rw (sym same, sym counts) few) in
    rw (cut text less, there.2, test) at is

pub later : (number key_line count due : ℕ) (text line rest : List ℕ) → line_from number (parts_of text) key_line ≡ due → IsCut text line rest
    → count ≡ count_of (string_of line) → count < key_line → line_from (number + 1) (parts_of rest) (key_line - count) ≡ due
later number key_line count due text line rest is (same, after, less) counts more =
    let there = some_parts (after_first is_feed text) in
    let test : leb key_line (count_of (string_of (before_first is_feed text))) ≡ false = lt-leb _ _ (rw (sym same, sym counts) more) in
    rw (after, there.2, counts, same) (rw (cut text less, there.2, test) at is)

pub last : (number key_line due : ℕ) (text : List ℕ) → line_from number (parts_of text) key_line ≡ due → position_or_len is_feed text ≡ length text → number ≡ due
last number key_line due text is none = rw (whole text none) at is

pub shorter : (text line rest : List ℕ) → IsCut text line rest → length rest + 1 ≤ length text
shorter text line rest (same, after, less) = rw after (omega (arith, length-drop (position_or_len is_feed text + 1) text))
