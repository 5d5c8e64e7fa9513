-- A session's text, however it is cut.
use Rattle.std.proofs.Common.{ℕ, Bool, true, false, List, [], ◌∷◌, ◌++◌, ◌≡◌, ◌==◌, if◌then◌else◌, refl, sym, ◌∙◌, ap, subst, append_assoc}
use Rattle.std.specs.Prelude.{Option, Some, None}
use Rattle.script_checks.specs.Named.{Named}
use Rattle.tap_screens.specs.Watching.{Watching, byte_text, byte_after, watched_text, watching_after, watching_first}
use Rattle.tap_screens.specs.Taps.{IsAt, Takes, asked_of}

pub text_more : (watching : Watching) (before more : List ℕ)
    → watched_text watching (before ++ more) ≡ watched_text watching before ++ watched_text (watching_after watching before) more
text_more watching [] more = refl
text_more watching (byte ∷ before) more =
    ap (λ z. byte_text watching byte ++ z) (text_more (byte_after watching byte) before more) ∙ sym (append_assoc (byte_text watching byte) _ _)

pub after_more : (watching : Watching) (before more : List ℕ)
    → watching_after watching (before ++ more) ≡ watching_after (watching_after watching before) more
after_more watching [] more = refl
after_more watching (byte ∷ before) more = after_more (byte_after watching byte) before more

first_by : (test : Bool) (first one other : Watching)
    → watching_first one.layouts one.leaves ≡ watching_first first.layouts first.leaves
    → watching_first other.layouts other.leaves ≡ watching_first first.layouts first.leaves
    → watching_first (if test then one else other).layouts (if test then one else other).leaves ≡ watching_first first.layouts first.leaves
first_by true first one other a b = a
first_by false first one other a b = b

-- what is asked stays the same
pub asks_same : (watching : Watching) (text : List ℕ)
    → watching_first (watching_after watching text).layouts (watching_after watching text).leaves ≡ watching_first watching.layouts watching.leaves
asks_same watching [] = refl
asks_same watching (byte ∷ text) =
    asks_same (byte_after watching byte) text ∙ first_by (byte == 0x0A) watching _ _ refl refl

-- more of the text is taken and printed
pub at_more : (watching : Watching) (before printed more : List ℕ) → IsAt (Some watching) before printed
    → IsAt (Some (watching_after watching more)) (before ++ more) (printed ++ watched_text watching more)
at_more watching before printed more (is, prints) =
    let first = watching_first watching.layouts watching.leaves in
    let same = asks_same watching more in
    subst (λ z. (watching_after watching more ≡ watching_after z (before ++ more))
    × (printed ++ watched_text watching more ≡ watched_text z (before ++ more))) (sym same) (
      ap (λ z. watching_after z more) is ∙ sym (after_more first before more),
      ap (λ z. z ++ watched_text watching more) prints ∙ ap (λ z. watched_text first before ++ watched_text z more) is ∙ sym (text_more first before more),
    )

pub asked_same : (watching : Watching) (text : List ℕ) → asked_of (Some (watching_after watching text)) ≡ asked_of (Some watching)
asked_same watching text = ap (λ first. asked_of (Some first)) (asks_same watching text)

pub takes_at : (old : Option Watching) (told text : List ℕ) (new : Option Watching) (before printed : List ℕ)
    → Takes old told text new → IsAt old before printed → IsAt new (before ++ told) (printed ++ text)
takes_at None told text new before printed (is, after) at =
    subst (λ z. IsAt z (before ++ told) (printed ++ text)) (sym after) (ap (λ z. z ++ text) at ∙ ap (λ z. before ++ z) is)
takes_at (Some watching) told text new before printed (is, after) at =
    subst (λ z. IsAt z (before ++ told) (printed ++ text)) (sym after)
    (subst (λ z. IsAt (Some (watching_after watching told)) (before ++ told) (printed ++ z)) (sym is) (at_more watching before printed told at))

pub takes_asked : (old : Option Watching) (told text : List ℕ) (new : Option Watching) → Takes old told text new → asked_of new ≡ asked_of old
takes_asked None told text new (is, after) = ap asked_of after
takes_asked (Some watching) told text new (is, after) = ap asked_of after ∙ asked_same watching told

pub at_same : (watch : Option Watching) (told told' printed printed' : List ℕ) → told ≡ told' → printed ≡ printed'
    → IsAt watch told printed → IsAt watch told' printed'
at_same watch told told' printed printed' a b at = subst (λ z. IsAt watch z printed') a (subst (λ z. IsAt watch told z) b at)
