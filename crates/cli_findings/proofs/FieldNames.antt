-- The first form of a field's name that no entry has.
use Rattle.std.proofs.Common.{◌≡◌, ◌∙◌, ◌<◌, ◌≤◌, ◌+◌, ◌⊎◌, ℕ, true, false, List, length, ap, sym, inl, inr, arith}
use Rattle.std.specs.Prelude.{not, unwrap_or}
use Rattle.std.proofs.lemmas.List.{length-map}
use Rattle.ds_screen.proofs.RingLaws.{least_at, least_none}
use Rattle.scr_layout.specs.Entry.{Declared}
use Rattle.cli_findings.specs.FieldName.{field_form, is_taken, field_name}
use Rattle.cli_findings.specs.Help.{names_in}

-- the forms before the k-th one are taken
abbrev pub AreTaken : List (List ℕ) → ℕ → ℕ → Type 0
AreTaken names place k = (d : ℕ) → d < k → not (is_taken names (field_form place d)) ≡ false

pub first_free : (entries : List Declared) (place k : ℕ) → k < length entries → AreTaken (names_in entries) place k
    → is_taken (names_in entries) (field_form place k) ≡ false → field_form place k ≡ field_name (names_in entries) place
first_free entries place k few taken free =
    let names = names_in entries in
    let below : k < length names = rw (length-map entries (λ entry. entry.name)) few in
    sym (ap (λ number. field_form place (unwrap_or number (length names))) (least_at (length names) k (λ d. not (is_taken names (field_form place d))) below taken (ap not free)))

pub none_free : (entries : List Declared) (place k : ℕ) → (length entries ≤ k) → AreTaken (names_in entries) place k
    → field_form place (length entries) ≡ field_name (names_in entries) place
none_free entries place k past taken =
    let names = names_in entries in
    let many : length names ≡ length entries = length-map entries (λ entry. entry.name) in
    let all : AreTaken names place (length names) = λ d below. taken d (omega (arith, many, below, past)) in
    ap (field_form place) (sym many) ∙ sym (ap (λ number. field_form place (unwrap_or number (length names))) (least_none (length names) (λ d. not (is_taken names (field_form place d))) all))

last_or_before : (d k : ℕ) → d < k + 1 → (d < k) ⊎ (d ≡ k)
last_or_before d k below = grind arith

-- one more form is taken
pub taken_on : (names : List (List ℕ)) (place k : ℕ) → AreTaken names place k → is_taken names (field_form place k) ≡ true → AreTaken names place (k + 1)
taken_on names place k taken here d below =
    elim (last_or_before d k below) [
      | inl earlier ↦ taken d earlier
      | inr same ↦ rw same (ap not here)
    ]
