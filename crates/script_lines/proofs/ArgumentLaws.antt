-- Arguments read one after the other.
use Rattle.std.proofs.Common.{◌≡◌, ◌<◌, ◌≤◌, ◌+◌, ◌-◌, ◌∙◌, ap, sym, refl, ℕ, zero, suc, arith, List, [], ◌∷◌, ◌++◌, length, Option, Some, None, append_assoc}
use Rattle.std.proofs.lemmas.List.{append-nil}
use Rattle.script_lines.specs.declared.fault.SyntaxWhy.TheVariants.{Close, CloseOrComma, Unclosed}
use Rattle.script_lines.specs.Bytes.{after_blanks, is_of_argument, is_of_word}
use Rattle.script_lines.specs.Arguments.{Arguments, given, stopped, with_argument, argument_at, Next, at_end, comma, closed, other, next_at, then_next, then_within, arguments_within, then_words, words_within}

-- arguments before others
abbrev pub before : List (List ℕ) → Arguments → Arguments
before arguments (given more rest) = given (arguments ++ more) rest
before arguments (stopped why left) = stopped why left

none_before : (x : Arguments) → before [] x ≡ x
none_before (given more rest) = refl
none_before (stopped why left) = refl

more_before : (arguments : List (List ℕ)) (argument : List ℕ) (x : Arguments) → before (arguments ++ argument ∷ []) x ≡ before arguments (with_argument argument x)
more_before arguments argument (given more rest) = ap (λ (xs : List (List ℕ)). given xs rest) (append_assoc arguments (argument ∷ []) more)
more_before arguments argument (stopped why left) = refl

pub begins_within : (arguments : List (List ℕ)) (count turn : ℕ) (bytes : List ℕ) → arguments ≡ [] → count - turn ≡ count
    → before arguments (arguments_within (count - turn) bytes) ≡ arguments_within count bytes
begins_within arguments count turn bytes none all =
    ap (λ (xs : List (List ℕ)). before xs (arguments_within (count - turn) bytes)) none ∙ none_before (arguments_within (count - turn) bytes)
    ∙ ap (λ (n : ℕ). arguments_within n bytes) all

stepped : (count turn : ℕ) (bytes : List ℕ) → turn < count
    → arguments_within (count - turn) bytes ≡ then_within (argument_at is_of_argument bytes) (arguments_within (count - (turn + 1)))
unfolding arguments_within
stepped count turn bytes more = ap (λ (n : ℕ). arguments_within n bytes) (let e : count - turn ≡ suc (count - (turn + 1)) = omega (arith, more) in e)

front : (arguments : List (List ℕ)) (count turn : ℕ) (rest : List ℕ) (due : Arguments) (found : Option (List ℕ × List ℕ)) → turn < count
    → before arguments (arguments_within (count - turn) rest) ≡ due → found ≡ argument_at is_of_argument rest
    → before arguments (then_within found (arguments_within (count - (turn + 1)))) ≡ due
front arguments count turn rest due found more same is =
    ap (λ (f : Option (List ℕ × List ℕ)). before arguments (then_within f (arguments_within (count - (turn + 1))))) is
    ∙ ap (before arguments) (sym (stepped count turn rest more)) ∙ same

pub is_unclosed : (arguments : List (List ℕ)) (count turn : ℕ) (rest : List ℕ) (due : Arguments) → turn < count
    → before arguments (arguments_within (count - turn) rest) ≡ due → None ≡ argument_at is_of_argument rest → stopped Unclosed [] ≡ due
is_unclosed arguments count turn rest due more same is = front arguments count turn rest due None more same is

-- what comes after the argument and blanks
found_next : (arguments : List (List ℕ)) (count turn : ℕ) (rest argument after : List ℕ) (next : Next) (due : Arguments) → turn < count
    → before arguments (arguments_within (count - turn) rest) ≡ due → Some (argument, after) ≡ argument_at is_of_argument rest → next ≡ next_at (after_blanks after)
    → before arguments (then_next argument next (arguments_within (count - (turn + 1)))) ≡ due
found_next arguments count turn rest argument after next due more same is follows =
    ap (λ (x : Next). before arguments (then_next argument x (arguments_within (count - (turn + 1))))) follows
    ∙ front arguments count turn rest due (Some (argument, after)) more same is

pub goes_on : (arguments new : List (List ℕ)) (count turn : ℕ) (rest argument after bytes : List ℕ) (due : Arguments) → turn < count
    → before arguments (arguments_within (count - turn) rest) ≡ due → Some (argument, after) ≡ argument_at is_of_argument rest
    → comma bytes ≡ next_at (after_blanks after) → new ≡ arguments ++ argument ∷ []
    → before new (arguments_within (count - (turn + 1)) (after_blanks bytes)) ≡ due
goes_on arguments new count turn rest argument after bytes due more same is follows pushed =
    ap (λ (xs : List (List ℕ)). before xs (arguments_within (count - (turn + 1)) (after_blanks bytes))) pushed
    ∙ more_before arguments argument (arguments_within (count - (turn + 1)) (after_blanks bytes))
    ∙ found_next arguments count turn rest argument after (comma bytes) due more same is follows

pub is_given : (arguments new : List (List ℕ)) (count turn : ℕ) (rest argument after bytes : List ℕ) (due : Arguments) → turn < count
    → before arguments (arguments_within (count - turn) rest) ≡ due → Some (argument, after) ≡ argument_at is_of_argument rest
    → closed bytes ≡ next_at (after_blanks after) → new ≡ arguments ++ argument ∷ [] → given new bytes ≡ due
is_given arguments new count turn rest argument after bytes due more same is follows pushed =
    ap (λ (xs : List (List ℕ)). given xs bytes) pushed ∙ found_next arguments count turn rest argument after (closed bytes) due more same is follows

pub is_open : (arguments : List (List ℕ)) (count turn : ℕ) (rest argument after : List ℕ) (due : Arguments) → turn < count
    → before arguments (arguments_within (count - turn) rest) ≡ due → Some (argument, after) ≡ argument_at is_of_argument rest
    → at_end ≡ next_at (after_blanks after) → stopped Close [] ≡ due
is_open arguments count turn rest argument after due more same is follows =
    found_next arguments count turn rest argument after at_end due more same is follows

pub is_other : (arguments : List (List ℕ)) (count turn : ℕ) (rest argument after left : List ℕ) (due : Arguments) → turn < count
    → before arguments (arguments_within (count - turn) rest) ≡ due → Some (argument, after) ≡ argument_at is_of_argument rest
    → other left ≡ next_at (after_blanks after) → stopped CloseOrComma left ≡ due
is_other arguments count turn rest argument after left due more same is follows =
    found_next arguments count turn rest argument after (other left) due more same is follows

pub is_spent : (arguments : List (List ℕ)) (count turn : ℕ) (rest : List ℕ) (due : Arguments) → count ≤ turn
    → before arguments (arguments_within (count - turn) rest) ≡ due → stopped Close rest ≡ due
unfolding arguments_within
is_spent arguments count turn rest due few same =
    ap (λ (n : ℕ). before arguments (arguments_within n rest)) (let e : 0 ≡ count - turn = omega (arith, few) in e) ∙ same

-- ---- words

word_stepped : (count turn : ℕ) (b : ℕ) (bytes : List ℕ) → turn < count
    → words_within (count - turn) (b ∷ bytes) ≡ then_words (argument_at is_of_word (b ∷ bytes)) (words_within (count - (turn + 1)))
unfolding words_within
word_stepped count turn b bytes more = ap (λ (n : ℕ). words_within n (b ∷ bytes)) (let e : count - turn ≡ suc (count - (turn + 1)) = omega (arith, more) in e)

word_front : (words : List (List ℕ)) (count turn : ℕ) (rest : List ℕ) (due : Arguments) (found : Option (List ℕ × List ℕ)) → turn < count → 1 ≤ length rest
    → before words (words_within (count - turn) rest) ≡ due → found ≡ argument_at is_of_word rest
    → before words (then_words found (words_within (count - (turn + 1)))) ≡ due
word_front words count turn [] due found more some same is = absurd (omega (arith, some))
word_front words count turn (b ∷ bytes) due found more some same is =
    ap (λ (f : Option (List ℕ × List ℕ)). before words (then_words f (words_within (count - (turn + 1))))) is
    ∙ ap (before words) (sym (word_stepped count turn b bytes more)) ∙ same

pub begins_words : (words : List (List ℕ)) (count turn : ℕ) (bytes : List ℕ) → words ≡ [] → count - turn ≡ count
    → before words (words_within (count - turn) bytes) ≡ words_within count bytes
begins_words words count turn bytes none all =
    ap (λ (xs : List (List ℕ)). before xs (words_within (count - turn) bytes)) none ∙ none_before (words_within (count - turn) bytes)
    ∙ ap (λ (n : ℕ). words_within n bytes) all

pub word_unclosed : (words : List (List ℕ)) (count turn : ℕ) (rest : List ℕ) (due : Arguments) → turn < count → 1 ≤ length rest
    → before words (words_within (count - turn) rest) ≡ due → None ≡ argument_at is_of_word rest → stopped Unclosed [] ≡ due
word_unclosed words count turn rest due more some same is = word_front words count turn rest due None more some same is

pub word_taken : (words new : List (List ℕ)) (count turn : ℕ) (rest word after : List ℕ) (due : Arguments) → turn < count → 1 ≤ length rest
    → before words (words_within (count - turn) rest) ≡ due → Some (word, after) ≡ argument_at is_of_word rest → new ≡ words ++ word ∷ []
    → before new (words_within (count - (turn + 1)) (after_blanks after)) ≡ due
word_taken words new count turn rest word after due more some same is pushed =
    ap (λ (xs : List (List ℕ)). before xs (words_within (count - (turn + 1)) (after_blanks after))) pushed
    ∙ more_before words word (words_within (count - (turn + 1)) (after_blanks after))
    ∙ word_front words count turn rest due (Some (word, after)) more some same is

nothing_left : (most : ℕ) → words_within most [] ≡ given [] []
unfolding words_within
nothing_left zero = refl
nothing_left (suc most) = refl

pub words_end : (words : List (List ℕ)) (most : ℕ) (rest : List ℕ) (due : Arguments) → length rest ≡ 0 → before words (words_within most rest) ≡ due → given words [] ≡ due
words_end words most [] due none same =
    ap (λ (xs : List (List ℕ)). given xs []) (sym (append-nil words)) ∙ ap (before words) (sym (nothing_left most)) ∙ same
words_end words most (b ∷ bytes) due none same = absurd (omega (arith, none))

pub words_spent : (words : List (List ℕ)) (count turn : ℕ) (rest : List ℕ) (due : Arguments) → count ≤ turn → 1 ≤ length rest
    → before words (words_within (count - turn) rest) ≡ due → stopped Close rest ≡ due
unfolding words_within
words_spent words count turn [] due few some same = absurd (omega (arith, some))
words_spent words count turn (b ∷ bytes) due few some same =
    ap (λ (n : ℕ). before words (words_within n (b ∷ bytes))) (let e : 0 ≡ count - turn = omega (arith, few) in e) ∙ same
