-- The answers of lines: data lines, a status line, and how the line ended.
use Rattle.std.specs.Prelude.{◌≡◌, ℕ, nat_lt, true, map, List, [], ◌∷◌, ◌++◌, codes, if◌then◌else◌}
use Rattle.std.specs.Fmt.{decimal}
use Rattle.script_lines.specs.declared.fault.SyntaxFault.{SyntaxFault}
use Rattle.script_lines.specs.declared.fault.SyntaxWhy.{SyntaxWhy}
use Rattle.script_lines.specs.declared.fault.SyntaxWhy.TheVariants.{NoName, BadName, Close, CloseOrComma, Unclosed}
use Rattle.script_screens.specs.declared.lines.Outcome.{Outcome}
use Rattle.script_screens.specs.declared.lines.Outcome.TheVariants.{Done, Failed}
use Rattle.script_screens.specs.Laws.{is_whole, are_whole}
use Rattle.script_screens.specs.Lines.{data_lines}

-- what is printed for a byte of a text that a script or a system gave: a control is `?`
abbrev pub printed_byte : ℕ → ℕ
printed_byte byte = if nat_lt byte 0x20 then 0x3F else byte

abbrev pub printed_text : List ℕ → List ℕ
printed_text text = map printed_byte text

-- what is printed for a byte of a logical unit's name, which a host gave: what is no printable character of ASCII is `?`
abbrev pub name_byte : ℕ → ℕ
name_byte byte = if nat_lt byte 0x7F then printed_byte byte else 0x3F

abbrev pub printed_name : List ℕ → List ℕ
printed_name name = map name_byte name

abbrev pub syntax_words : SyntaxWhy → List ℕ
syntax_words NoName = codes "Action name must begin with an alphanumeric character"
syntax_words BadName = codes "Syntax error in action name"
syntax_words Close = codes "Syntax error: \")\" expected"
syntax_words CloseOrComma = codes "Syntax error: \")\" or \",\" expected"
syntax_words Unclosed = codes "Syntax error: unclosed \""

abbrev pub syntax_text : SyntaxFault → List ℕ
syntax_text fault = syntax_words fault.why ++ (codes " at column " ++ decimal fault.column)

abbrev pub last_line : Outcome → List ℕ
last_line Done = codes "ok\n"
last_line Failed = codes "error\n"

-- data lines, of which none has a line's end within it
abbrev pub AreData : List ℕ → Type 0
AreData lines = (texts : List (List ℕ)) × (are_whole texts ≡ true) × (lines ≡ data_lines texts)

-- one answer: data lines, one status line, and `ok` or `error`
pub record IsAnswer (outcome : Outcome) (text : List ℕ) : Type 0 where
  pub data_part : List ℕ
  pub status : List ℕ
  pub are_data : AreData data_part
  pub is_line : is_whole status ≡ true
  pub whole : text ≡ data_part ++ (status ++ (codes "\n" ++ last_line outcome))

-- a text is of answers that ended so, one after the other
abbrev pub AreAnswers : List Outcome → List ℕ → Type 0
AreAnswers [] text = text ≡ []
AreAnswers (outcome ∷ outcomes) text =
    (first : List ℕ) × (rest : List ℕ) × (text ≡ first ++ rest) × IsAnswer outcome first × AreAnswers outcomes rest

-- the answers that were finished, those that were handed out already, and those that weren't
pub record Telling : Type 0 where
  pub outcomes : List Outcome
  pub gone : List ℕ
  pub lines : List ℕ

abbrev pub nothing_told : Telling
nothing_told = record { outcomes = []; gone = []; lines = [] }

-- all that was there was handed out
abbrev pub handed_lines : Telling → Telling
handed_lines telling = record telling { gone = telling.gone ++ telling.lines; lines = [] }
