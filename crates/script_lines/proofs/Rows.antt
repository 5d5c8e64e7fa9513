-- Worked rows, computed: what s3270 4.1 answers to these lines.
use Rattle.std.proofs.Common.{◌≡◌, ℕ, [], ◌∷◌, codes, refl}
use Rattle.script_lines.specs.declared.fault.SyntaxWhy.{SyntaxWhy}
use Rattle.script_lines.specs.declared.fault.SyntaxWhy.TheVariants.{NoName, BadName, Close, CloseOrComma, Unclosed}
use Rattle.script_lines.specs.Quoted.{unquoted_within}
use Rattle.script_lines.specs.Arguments.{arguments_within, words_within}
use Rattle.script_lines.specs.Actions.{Read, ends, fault, action, read_action}

abbrev at_fault : SyntaxWhy → ℕ → Read
at_fault why column = fault (record { why = why; column = column })

no_arguments : read_action (codes " Tab") ≡ action (codes "Tab") [] []
no_arguments = refl

empty_parentheses : read_action (codes "Tab ( ) Home") ≡ action (codes "Tab") [] (codes " Home")
empty_parentheses = refl

first_is_empty : read_action (codes "M(,1)") ≡ action (codes "M") ([] ∷ codes "1" ∷ []) []
unfolding arguments_within
first_is_empty = refl

words : read_action (codes "Q a, b") ≡ action (codes "Q") (codes "a," ∷ codes "b" ∷ []) []
unfolding words_within
words = refl

-- S("a" ,b)
quoted : read_action (0x53 ∷ 0x28 ∷ 0x22 ∷ 0x61 ∷ 0x22 ∷ codes " ,b)") ≡ action (codes "S") (codes "a" ∷ codes "b" ∷ []) []
unfolding arguments_within unquoted_within
quoted = refl

-- I("a\\"b): one backslash, the end, and then b
backslash_and_end : read_action (0x49 ∷ 0x28 ∷ 0x22 ∷ 0x61 ∷ 0x5C ∷ 0x5C ∷ 0x22 ∷ codes "b)") ≡ at_fault CloseOrComma 8
unfolding arguments_within unquoted_within
backslash_and_end = refl

unclosed : read_action (0x53 ∷ 0x28 ∷ 0x22 ∷ 0x61 ∷ []) ≡ at_fault Unclosed 5
unfolding arguments_within unquoted_within
unclosed = refl

comment : read_action (codes "  # Tab") ≡ ends
comment = refl

no_name : read_action (codes "()") ≡ at_fault NoName 1
no_name = refl

bad_name : read_action (codes "Tab)") ≡ at_fault BadName 4
bad_name = refl

no_close : read_action (codes "Tab(") ≡ at_fault Close 5
no_close = refl

no_comma : read_action (codes "S(a b)") ≡ at_fault CloseOrComma 5
unfolding arguments_within
no_comma = refl
