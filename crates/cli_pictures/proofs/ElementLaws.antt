-- How many texts each element of a drawing begins.
use Rattle.std.proofs.Common.{◌≡◌, ℕ, suc, ◌+◌, ◌*◌, ◌<◌, ◌^◌, Bool, true, false, List, [], ◌∷◌, ◌++◌, refl, ap, ◌∙◌, arith, append_assoc}
use Rattle.std.specs.Prelude.{◌==◌, codes, if◌then◌else◌}
use Rattle.std.specs.Fmt.{decimal}
use Rattle.cli_pictures.specs.Laws.{texts_in}
use Rattle.ds_codec.specs.Attribute.{is_intensified}
use Rattle.cli_pictures.specs.Svg.{left_of, top_of, escaped, class_of, text_element, line_element, root_line, style_lines, box_element, cursor_element}
use Rattle.cli_pictures.proofs.TagLaws.{are_bare, skips, decimal_bare}

pub skip_on : (a b rest : List ℕ) → are_bare a ≡ true → texts_in ((a ++ b) ++ rest) ≡ texts_in (b ++ rest)
skip_on a b rest bare = ap texts_in (append_assoc a b rest) ∙ skips a (b ++ rest) bare

pub number_on : (n : ℕ) (b rest : List ℕ) → n < 2 ^ 64 → texts_in ((decimal n ++ b) ++ rest) ≡ texts_in (b ++ rest)
number_on n b rest lt = skip_on (decimal n) b rest (decimal_bare n lt)

pub left_small : (cols p : ℕ) → p < 2 ^ 32 → left_of cols p < 2 ^ 60
left_small cols p lt = omega arith

pub top_small : (cols p : ℕ) → p < 2 ^ 32 → top_of cols p < 2 ^ 60
top_small cols p lt = omega arith

class_bare : (bright : Bool) → are_bare (if bright then codes " class=\"bright\"" else []) ≡ true
class_bare true = refl
class_bare false = refl

pub either_bare : (b : Bool) (x y : List ℕ) → are_bare x ≡ true → (b ≡ false → are_bare y ≡ true) → are_bare (if b then x else y) ≡ true
either_bare true x y one other = one
either_bare false x y one other = other refl

plain_bare : (c : ℕ) → (c == 0x3C) ≡ false → are_bare (c ∷ []) ≡ true
plain_bare c other = rw other refl

pub escaped_bare : (c : ℕ) → are_bare (escaped c) ≡ true
unfolding escaped
escaped_bare c =
    either_bare (c == 38) _ _ refl (λ one. either_bare (c == 60) _ _ refl (λ two. either_bare (c == 62) _ _ refl (λ three.
    either_bare (c == 34) _ _ refl (λ four. either_bare (c == 39) _ _ refl (λ five. plain_bare c two)))))

pub text_counts : (cols p bits c : ℕ) (rest : List ℕ) → p < 2 ^ 32 → texts_in (text_element cols p bits c ++ rest) ≡ suc (texts_in rest)
unfolding text_element
text_counts cols p bits c rest lt =
    ap suc (skip_on (class_of bits) _ rest (class_bare (is_intensified bits))
    ∙ number_on (left_of cols p) _ rest (omega (arith, left_small cols p lt)) ∙ number_on (top_of cols p + 15) _ rest (omega (arith, top_small cols p lt))
    ∙ skip_on (escaped c) _ rest (escaped_bare c))

pub line_skips : (cols p count : ℕ) (rest : List ℕ) → p < 2 ^ 32 → count < 2 ^ 32 → texts_in (line_element cols p count ++ rest) ≡ texts_in rest
unfolding line_element
line_skips cols p count rest lt few =
    number_on (left_of cols p) _ rest (omega (arith, left_small cols p lt)) ∙ number_on (top_of cols p + 18) _ rest (omega (arith, top_small cols p lt))
    ∙ number_on (left_of cols p + 10 * count) _ rest (omega (arith, left_small cols p lt)) ∙ number_on (top_of cols p + 18) _ rest (omega (arith, top_small cols p lt))

pub cursor_skips : (cols p : ℕ) (rest : List ℕ) → p < 2 ^ 32 → texts_in (cursor_element cols p ++ rest) ≡ texts_in rest
unfolding box_element
cursor_skips cols p rest lt =
    number_on (left_of cols p) _ rest (omega (arith, left_small cols p lt)) ∙ number_on (top_of cols p) _ rest (omega (arith, top_small cols p lt))

pub root_skips : (x y : ℕ) (rest : List ℕ) → x < 2 ^ 32 → y < 2 ^ 32 → texts_in (root_line x y ++ rest) ≡ texts_in rest
unfolding root_line
root_skips x y rest wide high =
    number_on x _ rest (omega arith) ∙ number_on y _ rest (omega arith) ∙ number_on x _ rest (omega arith) ∙ number_on y _ rest (omega arith)

pub style_skips : (rest : List ℕ) → texts_in (style_lines ++ rest) ≡ texts_in rest
unfolding style_lines
style_skips rest = refl
