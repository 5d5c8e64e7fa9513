-- The sentence of a line that is refused.
use Rattle.std.specs.Prelude.{ℕ, List, [], ◌++◌, codes, Option, Some, None, if◌then◌else◌}
use Rattle.std.specs.Str.{is_utf8}
use Rattle.cli_reasons.specs.declared.flaw.Flaw.{Flaw}
use Rattle.cli_reasons.specs.declared.flaw.Why.{Why}
use Rattle.cli_reasons.specs.declared.flaw.Why.TheVariants.{NoKey, NoStroke, NoOrder, NeedsStrokes, OtherForm, TooLong}
use Rattle.cli_reasons.specs.declared.flaw.Limit.TheVariants.{Bytes}
use Rattle.cli_reasons.specs.declared.head.Place.{Place}
use Rattle.cli_reasons.specs.declared.head.Place.TheVariants.{Whole, Line, Column}
use Rattle.cli_reasons.specs.Flaw.{why_text}
use Rattle.cli_reasons.specs.Head.{head_text}
use Rattle.cli_reasons.specs.Nearest.{nearest}
use Rattle.cli_reasons.specs.OrderLine.{first_word, form_of}
use Rattle.cli_reasons.specs.Shown.{quoted}
use Rattle.cli_reasons.specs.Words.{key_words, stroke_words, order_words}

abbrev pub near_text : Option (List ℕ) → List ℕ
near_text None = []
near_text (Some word) = codes "; the nearest is " ++ quoted word

-- that a word is none of these, and the nearest of them
abbrev pub unknown_text : List ℕ → Why → List (List ℕ) → List ℕ
unknown_text word why words = quoted word ++ (why_text why ++ near_text (nearest word words))

abbrev pub form_text : Option (List ℕ) → List ℕ
form_text None = []
form_text (Some line) = line

-- that a line is written otherwise, and how
abbrev pub other_form_text : List ℕ → Why → List ℕ
other_form_text line why = (quoted line ++ why_text why) ++ form_text (form_of (first_word line))

-- why a line of text is refused
abbrev pub text_reason : Why → List ℕ → List ℕ
text_reason NoKey line = unknown_text line NoKey key_words
text_reason NoStroke line = unknown_text line NoStroke stroke_words
text_reason NoOrder line = unknown_text (first_word line) NoOrder order_words
text_reason NeedsStrokes line = quoted line ++ why_text NeedsStrokes
text_reason OtherForm line = other_form_text line OtherForm
text_reason why line = why_text why

-- only of a line that is text more is said than why
abbrev pub reason_text : Why → List ℕ → List ℕ
reason_text why line = if is_utf8 line then text_reason why line else why_text why

abbrev pub place_by : ℕ → ℕ → Why → Place
place_by number column (TooLong Bytes) = Whole
place_by number column (TooLong limit) = Line number
place_by number column why = Column number column

-- of a limit the column says nothing, and of all bytes the line neither
abbrev pub place_of : ℕ → Flaw → Place
place_of number flaw = place_by number flaw.column flaw.why

abbrev pub sentence : List ℕ → ℕ → Flaw → List ℕ → List ℕ
sentence name number flaw line = head_text name (place_of number flaw) ++ (reason_text flaw.why line ++ codes "\n")
