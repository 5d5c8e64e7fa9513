-- The sentences of answers that are refused, or that aren't those of a layout's screen.
use Rattle.std.specs.Prelude.{ℕ, ◌+◌, min, List, [], ◌∷◌, ◌++◌, codes, Result, Ok, Err, if◌then◌else◌}
use Rattle.ds_codec.specs.Geometry.{cells_of}
use Rattle.ds_inbound.specs.Answer.{Answer}
use Rattle.ds_inbound.specs.Reading.{read_of}
use Rattle.ds_inbound.specs.declared.refused.Refused.{Refused}
use Rattle.ds_inbound.specs.declared.refused.Why.{Why}
use Rattle.ds_inbound.specs.declared.refused.Why.TheVariants.{Empty, UnknownAid, Truncated, BadAddress, BadCharacter, Null}
use Rattle.scr_layout.specs.Layout.{Declaration}
use Rattle.scr_check.specs.Binding.{Pair, bound_of}
use Rattle.scr_check.specs.declared.binding.BindFault.{BindFault}
use Rattle.scr_check.specs.declared.binding.BindFault.TheVariants.{NotDeclared, Longer, Twice, Lead}
use Rattle.cli_commands.specs.declared.fault.Fault.{Fault}
use Rattle.cli_commands.specs.declared.input.sizes.SizeLine.TheVariants as size_line
use Rattle.cli_commands.specs.Records.{Records, records_in}
use Rattle.cli_commands.specs.TurnLines.{is_turn}
use Rattle.cli_reasons.specs.Head.{column_head, line_head}
use Rattle.cli_reasons.specs.Refusal.{byte_column}

-- ---- in words

abbrev pub answer_reason : Why → List ℕ
answer_reason Empty = codes "the answer has no byte"
answer_reason UnknownAid = codes "an answer begins with an attention identifier, as 7D, and this byte is none"
answer_reason Truncated = codes "bytes of the cursor's address, of a field's place or of a pair are missing"
answer_reason BadAddress = codes "the address begins with the bits 10, or is outside the screen"
answer_reason BadCharacter = codes "no character has this code"
answer_reason Null = codes "a null is never sent"

abbrev pub unbound_reason : BindFault → List ℕ
unbound_reason NotDeclared = codes "a field of the answer is at a place where the layout has no entry"
unbound_reason Longer = codes "a field of the answer has more characters than the layout declares"
unbound_reason Twice = codes "two fields of the answer are at one place"
unbound_reason Lead = codes "the answer has characters before the place of a field"

-- ---- one answer

-- of bytes that are refused the column is that of the byte at fault
abbrev pub refused_said : List ℕ → ℕ → List ℕ → Refused → List ℕ
refused_said name number line refused =
    column_head name number (byte_column line (min refused.at 32768)) ++ (answer_reason refused.why ++ codes "\n")

abbrev pub unbound_said : List ℕ → ℕ → BindFault → List ℕ
unbound_said name number fault = line_head name number ++ (unbound_reason fault ++ codes "\n")

-- nothing is said of an answer that is bound
abbrev pub bound_said : List ℕ → ℕ → Result (List Pair) BindFault → List ℕ
bound_said name number (Ok pairs) = []
bound_said name number (Err fault) = unbound_said name number fault

abbrev pub read_said : Declaration → List ℕ → ℕ → List ℕ → Result Answer Refused → List ℕ
read_said layout name number line (Ok answer) = bound_said name number (bound_of layout.entries answer)
read_said layout name number line (Err refused) = refused_said name number line refused

abbrev pub answer_said : Declaration → List ℕ → ℕ → List ℕ → List ℕ → List ℕ
answer_said layout name number line bytes =
    read_said layout name number line (read_of layout.geometry.mode (cells_of layout.size) bytes)

-- ---- lines

abbrev pub first_said : Declaration → List ℕ → ℕ → List ℕ → List (List ℕ) → List ℕ
first_said layout name number line [] = []
first_said layout name number line (bytes ∷ others) = answer_said layout name number line bytes

abbrev pub told_said : Declaration → List ℕ → ℕ → List ℕ → Result Records Fault → List ℕ
told_said layout name number line (Ok told) = first_said layout name number line told.records
told_said layout name number line (Err fault) = []

-- nothing is said of a line without an answer
abbrev pub line_said : Declaration → List ℕ → ℕ → List ℕ → List ℕ
line_said layout name number line = told_said layout name number line (records_in size_line.Refused line)

-- lines from one of this number on; a line `turn` ends the turn of a layout
abbrev pub answers_said : List ℕ → ℕ → List Declaration → List (List ℕ) → List ℕ
answers_said name number layouts [] = []
answers_said name number [] (line ∷ lines) = []
answers_said name number (layout ∷ layouts) (line ∷ lines) =
    if is_turn line then answers_said name (number + 1) layouts lines
    else line_said layout name number line ++ answers_said name (number + 1) (layout ∷ layouts) lines
