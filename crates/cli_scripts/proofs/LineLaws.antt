-- What is left of a line after an action is shorter.
use Rattle.std.proofs.Common.{◌≡◌, ◌≤◌, ◌<◌, ◌+◌, ◌==◌, ◌&&◌, ◌||◌, Bool, true, false, cond, ℕ, zero, suc, arith, List, [], ◌∷◌, length, take, drop, Some, None, refl, ap, subst}
use Rattle.std.specs.Prelude.{Option}
use Rattle.std.specs.List.{prefix_len}
use Rattle.std.proofs.lemmas.List.{length-drop}
use Rattle.script_lines.specs.Actions.{Read, ends, fault, action, action_at, after_name, fault_at, named, read_action, with_arguments}
use Rattle.script_lines.specs.Arguments.{Arguments, given, stopped, Next, at_end, comma, closed, other, argument_at, arguments_within, between_parentheses, next_at, plain_at, then_next, then_within, then_words, with_argument, words_to_the_end, words_within}
use Rattle.script_lines.specs.Bytes.{after_blanks, is_blank, is_letter_or_digit, is_of_argument, is_of_name, is_of_word}
use Rattle.script_lines.specs.Quoted.{Taken, nothing, ends as quoted, closes, one, after_backslash, begins_quote, taken, then_taken, unquoted, unquoted_within, with_bytes}
use Rattle.script_lines.specs.declared.fault.SyntaxWhy.TheVariants.{NoName, BadName}

by_test : {A : Type 0} (P : A → Type 0) (t : Bool) (a b : A) → (t ≡ true → P a) → (t ≡ false → P b) → P (cond t a b)
by_test P true a b p q = p refl
by_test P false a b p q = q refl

no_longer : (n : ℕ) (bytes : List ℕ) → length (drop n bytes) ≤ length bytes
no_longer n bytes = omega (arith, length-drop n bytes)

-- ---- a text between quotes

abbrev LeftWithin : ℕ → Taken → Type 0
LeftWithin size nothing = Unit {0}
LeftWithin size (quoted rest) = length rest ≤ size
LeftWithin size (closes rest) = length rest ≤ size
LeftWithin size (one byte rest) = length rest ≤ size

abbrev FoundWithin : ℕ → Option (List ℕ × List ℕ) → Type 0
FoundWithin size None = Unit {0}
FoundWithin size (Some found) = length found.1 ≤ size

backslash_within : (size : ℕ) (bytes : List ℕ) → length bytes ≤ size → LeftWithin size (after_backslash bytes)
backslash_within size [] within = within
backslash_within size (b ∷ bytes) within =
    by_test (LeftWithin size) (b == 0x22) (one 0x22 bytes) (cond ((b == 0x5C) && begins_quote bytes) (closes (drop 1 bytes)) (one 0x5C (b ∷ bytes)))
    (λ _. omega (arith, within))
    (λ _. by_test (LeftWithin size) ((b == 0x5C) && begins_quote bytes) (closes (drop 1 bytes)) (one 0x5C (b ∷ bytes))
    (λ _. omega (arith, no_longer 1 bytes, within)) (λ _. within))

taken_within : (bytes : List ℕ) → LeftWithin (length bytes) (taken bytes)
taken_within [] = tt
taken_within (b ∷ bytes) =
    by_test (LeftWithin (length (b ∷ bytes))) (b == 0x22) (quoted bytes) (cond (b == 0x5C) (after_backslash bytes) (one b bytes)) (λ _. omega arith)
    (λ _. by_test (LeftWithin (length (b ∷ bytes))) (b == 0x5C) (after_backslash bytes) (one b bytes)
    (λ _. backslash_within (length (b ∷ bytes)) bytes (omega arith)) (λ _. omega arith))

with_within : (size mid : ℕ) (bytes : List ℕ) (found : Option (List ℕ × List ℕ)) → mid ≤ size → FoundWithin mid found → FoundWithin size (with_bytes bytes found)
with_within size mid bytes None few within = tt
with_within size mid bytes (Some found) few within = omega (arith, few, within)

then_left : (size : ℕ) (t : Taken) (others : List ℕ → Option (List ℕ × List ℕ)) → LeftWithin size t
    → ((rest : List ℕ) → FoundWithin (length rest) (others rest)) → FoundWithin size (then_taken t others)
then_left size nothing others within all = tt
then_left size (quoted rest) others within all = within
then_left size (closes rest) others within all = within
then_left size (one byte rest) others within all = with_within size (length rest) (byte ∷ []) (others rest) within (all rest)

quoted_within : (most : ℕ) (bytes : List ℕ) → FoundWithin (length bytes) (unquoted_within most bytes)
unfolding unquoted_within
quoted_within zero bytes = tt
quoted_within (suc most) bytes = then_left (length bytes) (taken bytes) (unquoted_within most) (taken_within bytes) (λ rest. quoted_within most rest)

-- ---- arguments

argument_within : (goes : ℕ → Bool) (bytes : List ℕ) → FoundWithin (length bytes) (argument_at goes bytes)
argument_within goes [] = omega arith
argument_within goes (b ∷ bytes) =
    by_test (FoundWithin (length (b ∷ bytes))) (b == 0x22) (unquoted bytes) (Some (plain_at goes (b ∷ bytes)))
    (λ _. wider (unquoted bytes) (quoted_within (suc (length bytes)) bytes)) (λ _. no_longer (prefix_len goes (b ∷ bytes)) (b ∷ bytes))
  where
    wider : (found : Option (List ℕ × List ℕ)) → FoundWithin (length bytes) found → FoundWithin (length (b ∷ bytes)) found
    wider None within = tt
    wider (Some found) within = omega (arith, within)

abbrev IsWithin : ℕ → Arguments → Type 0
IsWithin size (given arguments rest) = length rest ≤ size
IsWithin size (stopped why left) = Unit {0}

more_within : (size mid : ℕ) (argument : List ℕ) (them : Arguments) → mid ≤ size → IsWithin mid them → IsWithin size (with_argument argument them)
more_within size mid argument (given arguments rest) few within = omega (arith, few, within)
more_within size mid argument (stopped why left) few within = tt

abbrev NextWithin : ℕ → Next → Type 0
NextWithin size at_end = Unit {0}
NextWithin size (comma rest) = length rest ≤ size
NextWithin size (closed rest) = length rest ≤ size
NextWithin size (other left) = Unit {0}

next_within : (size : ℕ) (bytes : List ℕ) → length bytes ≤ size → NextWithin size (next_at bytes)
next_within size [] within = tt
next_within size (b ∷ bytes) within =
    by_test (NextWithin size) (b == 0x2C) (comma bytes) (cond (b == 0x29) (closed bytes) (other (b ∷ bytes))) (λ _. omega (arith, within))
    (λ _. by_test (NextWithin size) (b == 0x29) (closed bytes) (other (b ∷ bytes)) (λ _. omega (arith, within)) (λ _. tt))

blanks_within : (bytes : List ℕ) → length (after_blanks bytes) ≤ length bytes
blanks_within bytes = no_longer (prefix_len is_blank bytes) bytes

after_next : (size : ℕ) (argument : List ℕ) (next : Next) (others : List ℕ → Arguments) → NextWithin size next
    → ((rest : List ℕ) → IsWithin (length rest) (others rest)) → IsWithin size (then_next argument next others)
after_next size argument at_end others within all = tt
after_next size argument (comma rest) others within all =
    more_within size (length (after_blanks rest)) argument (others (after_blanks rest)) (omega (arith, within, blanks_within rest)) (all (after_blanks rest))
after_next size argument (closed rest) others within all = within
after_next size argument (other left) others within all = tt

after_found : (size : ℕ) (found : Option (List ℕ × List ℕ)) (others : List ℕ → Arguments) → FoundWithin size found
    → ((rest : List ℕ) → IsWithin (length rest) (others rest)) → IsWithin size (then_within found others)
after_found size None others within all = tt
after_found size (Some found) others within all =
    after_next size found.0 (next_at (after_blanks found.1)) others
    (next_within size (after_blanks found.1) (omega (arith, within, blanks_within found.1))) all

within_parentheses : (most : ℕ) (bytes : List ℕ) → IsWithin (length bytes) (arguments_within most bytes)
unfolding arguments_within
within_parentheses zero bytes = tt
within_parentheses (suc most) bytes =
    after_found (length bytes) (argument_at is_of_argument bytes) (arguments_within most) (argument_within is_of_argument bytes)
    (λ rest. within_parentheses most rest)

parentheses_within : (size : ℕ) (bytes : List ℕ) → length bytes ≤ size → IsWithin size (between_parentheses bytes)
parentheses_within size [] few = tt
parentheses_within size (b ∷ bytes) few =
    by_test (IsWithin size) (b == 0x29) (given [] bytes) (arguments_within (length (b ∷ bytes)) (b ∷ bytes)) (λ _. omega (arith, few))
    (λ _. wide (arguments_within (length (b ∷ bytes)) (b ∷ bytes)) (within_parentheses (length (b ∷ bytes)) (b ∷ bytes)))
  where
    wide : (them : Arguments) → IsWithin (length (b ∷ bytes)) them → IsWithin size them
    wide (given arguments rest) within = omega (arith, few, within)
    wide (stopped why left) within = tt

after_word : (size : ℕ) (found : Option (List ℕ × List ℕ)) (others : List ℕ → Arguments) → FoundWithin size found
    → ((rest : List ℕ) → IsWithin (length rest) (others rest)) → IsWithin size (then_words found others)
after_word size None others within all = tt
after_word size (Some found) others within all =
    more_within size (length (after_blanks found.1)) found.0 (others (after_blanks found.1)) (omega (arith, within, blanks_within found.1)) (all (after_blanks found.1))

words_so : (most : ℕ) (bytes : List ℕ) → IsWithin (length bytes) (words_within most bytes)
unfolding words_within
words_so zero [] = omega arith
words_so zero (b ∷ bytes) = tt
words_so (suc most) [] = omega arith
words_so (suc most) (b ∷ bytes) =
    after_word (length (b ∷ bytes)) (argument_at is_of_word (b ∷ bytes)) (words_within most) (argument_within is_of_word (b ∷ bytes))
    (λ rest. words_so most rest)

-- ---- an action

abbrev ReadWithin : ℕ → Read → Type 0
ReadWithin size ends = Unit {0}
ReadWithin size (fault why) = Unit {0}
ReadWithin size (action name arguments rest) = length rest < size

arguments_read : (size : ℕ) (line name : List ℕ) (them : Arguments) → IsWithin size them → ReadWithin (suc size) (with_arguments line name them)
arguments_read size line name (given arguments rest) within = omega (arith, within)
arguments_read size line name (stopped why left) within = tt

name_read : (size : ℕ) (line name bytes : List ℕ) → length bytes ≤ size → ReadWithin (suc size) (after_name line name bytes)
name_read size line name [] few = omega arith
name_read size line name (b ∷ bytes) few =
    arguments_read size line name (cond (b == 0x28) (between_parentheses (after_blanks bytes)) (words_to_the_end (b ∷ bytes)))
    (by_test (IsWithin size) (b == 0x28) (between_parentheses (after_blanks bytes)) (words_to_the_end (b ∷ bytes))
    (λ _. parentheses_within size (after_blanks bytes) (omega (arith, few, blanks_within bytes)))
    (λ _. wide (words_to_the_end (b ∷ bytes)) (words_so (length (b ∷ bytes)) (b ∷ bytes))))
  where
    wide : (them : Arguments) → IsWithin (length (b ∷ bytes)) them → IsWithin size them
    wide (given arguments rest) within = omega (arith, few, within)
    wide (stopped why left) within = tt

named_read : (size : ℕ) (line name bytes : List ℕ) → length bytes ≤ size → ReadWithin (suc size) (named line name bytes)
named_read size line name [] few = omega arith
named_read size line name (b ∷ bytes) few =
    by_test (ReadWithin (suc size)) (is_blank b || (b == 0x28)) (after_name line name (after_blanks (b ∷ bytes))) (fault_at line BadName (b ∷ bytes))
    (λ _. name_read size line name (after_blanks (b ∷ bytes)) (omega (arith, few, blanks_within (b ∷ bytes)))) (λ _. tt)

-- a name has a byte
name_counts : (b : ℕ) (bytes : List ℕ) → is_letter_or_digit b ≡ true → length (drop (prefix_len is_of_name (b ∷ bytes)) (b ∷ bytes)) ≤ length bytes
name_counts b bytes is =
    let first : prefix_len is_of_name (b ∷ bytes) ≡ 1 + prefix_len is_of_name bytes =
    ap (λ (t : Bool). cond (t || ((b == 0x5F) || (b == 0x2D))) (1 + prefix_len is_of_name bytes) 0) is in
    omega (arith, length-drop (prefix_len is_of_name (b ∷ bytes)) (b ∷ bytes), first)

action_read : (bytes : List ℕ) → ReadWithin (length bytes) (action_at bytes)
action_read [] = tt
action_read (b ∷ bytes) =
    by_test (ReadWithin (length (b ∷ bytes))) ((b == 0x23) || (b == 0x21)) ends
    (cond (is_letter_or_digit b)
    (named (b ∷ bytes) (take (prefix_len is_of_name (b ∷ bytes)) (b ∷ bytes)) (drop (prefix_len is_of_name (b ∷ bytes)) (b ∷ bytes)))
    (fault_at (b ∷ bytes) NoName (b ∷ bytes))) (λ _. tt)
    (λ _. by_test (ReadWithin (length (b ∷ bytes))) (is_letter_or_digit b)
    (named (b ∷ bytes) (take (prefix_len is_of_name (b ∷ bytes)) (b ∷ bytes)) (drop (prefix_len is_of_name (b ∷ bytes)) (b ∷ bytes)))
    (fault_at (b ∷ bytes) NoName (b ∷ bytes))
    (λ is. named_read (length bytes) (b ∷ bytes) (take (prefix_len is_of_name (b ∷ bytes)) (b ∷ bytes)) (drop (prefix_len is_of_name (b ∷ bytes)) (b ∷ bytes)) (name_counts b bytes is))
    (λ _. tt))

pub shorter : (line name : List ℕ) (arguments : List (List ℕ)) (rest : List ℕ) → read_action line ≡ action name arguments rest → length rest < length line
shorter line name arguments rest is =
    let here : ReadWithin (length (after_blanks line)) (action name arguments rest) = subst (ReadWithin (length (after_blanks line))) is (action_read (after_blanks line)) in
    omega (arith, here, blanks_within line)
