-- A text without the blanks at its end.
use Rattle.std.proofs.Common.{◌≡◌, ℕ, ◌+◌, Bool, true, false, not, List, [], length, take, get_or, Some, sym, ◌∙◌, ap}
use Rattle.ds_screen.specs.Ring.{greatest}
use Rattle.ds_screen.proofs.RunLaws.{greatest_hit, greatest_miss}
use Rattle.script_requests.specs.Addresses.{is_blank, is_used_at, up_to, without_end}

pub ends_here : (text : List ℕ) (d left : ℕ) (blank : Bool) → d + 1 ≡ left → greatest left (is_used_at text) ≡ greatest (length text) (is_used_at text)
    → blank ≡ is_blank (get_or text d 0) → blank ≡ false → take left text ≡ without_end text
ends_here text d left blank more misses test is =
    let hit : is_used_at text d ≡ true = ap not (sym test ∙ is) in
    let last : greatest (length text) (is_used_at text) ≡ Some d =
    sym misses ∙ ap (λ k. greatest k (is_used_at text)) (sym more) ∙ greatest_hit d (is_used_at text) hit in
    ap (λ k. take k text) (sym more) ∙ sym (ap (up_to text) last)

pub goes_back : (text : List ℕ) (d left : ℕ) (blank : Bool) → d + 1 ≡ left → greatest left (is_used_at text) ≡ greatest (length text) (is_used_at text)
    → blank ≡ is_blank (get_or text d 0) → blank ≡ true → greatest d (is_used_at text) ≡ greatest (length text) (is_used_at text)
goes_back text d left blank more misses test is =
    let miss : is_used_at text d ≡ false = ap not (sym test ∙ is) in
    sym (greatest_miss d (is_used_at text) miss) ∙ ap (λ k. greatest k (is_used_at text)) more ∙ misses

pub ends_before : (text : List ℕ) (left : ℕ) → left ≡ 0 → greatest left (is_used_at text) ≡ greatest (length text) (is_used_at text) → [] ≡ without_end text
unfolding greatest
ends_before text left none misses = ap (up_to text) (ap (λ k. greatest k (is_used_at text)) (sym none) ∙ misses)
