-- Lines that are text, or not.
use Rattle.std.specs.Prelude.{ℕ, ◌+◌, ◌/◌, ◌==◌, ◌||◌, not, nat_eq, Bool, List, [], ◌∷◌, count_by, take, slice_index, if◌then◌else◌}
use Rattle.std.specs.List.{starts_with}
use Rattle.std.specs.Str.{is_utf8}
use Rattle.std.specs.Str.Lossy.{utf8_valid_len}
use Rattle.cli_reasons.specs.declared.flaw.Flaw.{Flaw}
use Rattle.cli_reasons.specs.declared.flaw.Why.TheVariants.{NotUtf8, Utf16}
use Rattle.cli_reasons.specs.Flaw.{flaw_at}

abbrev pub begins_character : ℕ → Bool
begins_character byte = not (byte / 64 == 2)

-- the characters that begin in bytes of UTF-8
abbrev pub characters : List ℕ → ℕ
characters bytes = count_by begins_character bytes

-- a text in UTF-16 begins with its mark
abbrev pub is_utf16 : List ℕ → Bool
is_utf16 line = starts_with nat_eq line (0xFF ∷ 0xFE ∷ []) || starts_with nat_eq line (0xFE ∷ 0xFF ∷ [])

-- the first byte that is no UTF-8, behind so many that are
abbrev pub no_text_flaw : List ℕ → ℕ → Flaw
no_text_flaw line valid =
    if is_utf16 line then flaw_at 1 Utf16 else flaw_at (characters (take valid line) + 1) (NotUtf8 (slice_index line valid))

abbrev pub no_text : List ℕ → Flaw
no_text line = no_text_flaw line (utf8_valid_len line)

-- what is wrong with a line of text, or with one that is none
abbrev pub text_or : List ℕ → Flaw → Flaw
text_or line flaw = if is_utf8 line then flaw else no_text line
