-- Why a line of keys is refused, or one of strokes.
use Rattle.std.specs.Prelude.{ℕ, ◌||◌, nat_eq, Bool, List, codes, drop, if◌then◌else◌}
use Rattle.std.specs.List.{starts_with}
use Rattle.std.specs.Str.{bytes_eq}
use Rattle.cli_reasons.specs.declared.flaw.Flaw.{Flaw}
use Rattle.cli_reasons.specs.declared.flaw.Why.{Why}
use Rattle.cli_reasons.specs.declared.flaw.Why.TheVariants.{NoCode, NeedsStrokes, NoKey, NoStroke}
use Rattle.cli_reasons.specs.declared.key_line.Names.{Names}
use Rattle.cli_reasons.specs.declared.key_line.Names.TheVariants.{Keys, Strokes}
use Rattle.cli_reasons.specs.CharacterLine.{string_flaw}
use Rattle.cli_reasons.specs.Flaw.{flaw_at}
use Rattle.cli_reasons.specs.Text.{text_or}

-- `string`, alone or with characters
abbrev pub is_string : List ℕ → Bool
is_string line = bytes_eq line (codes "string") || starts_with nat_eq line (codes "string ")

-- a stroke, and no key
abbrev pub is_stroke : List ℕ → Bool
is_stroke word = bytes_eq word (codes "insert") || bytes_eq word (codes "dup") || bytes_eq word (codes "fieldmark") || is_string word

-- why a line of keys is refused that names none
abbrev pub no_key : List ℕ → Why
no_key line = if is_stroke line then NeedsStrokes else NoKey

-- a line that begins no key, or a string
abbrev pub other_flaw : Names → List ℕ → Flaw
other_flaw Keys line = flaw_at 1 (no_key line)
other_flaw Strokes line = if is_string line then string_flaw (drop 7 line) else flaw_at 1 NoStroke

abbrev pub key_text_flaw : Names → List ℕ → Flaw
key_text_flaw names line = if starts_with nat_eq line (codes "type ") then flaw_at 6 NoCode else other_flaw names line

abbrev pub key_flaw : Names → List ℕ → Flaw
key_flaw names line = text_or line (key_text_flaw names line)
