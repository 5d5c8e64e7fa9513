-- What is refused, and steps of a reading, each of which gives a value or a refusal.
use Rattle.std.specs.Prelude.{ℕ, List, [], ◌++◌, codes, Option, Some, None, Result, Ok, Err}
use Rattle.std.specs.Fmt.{decimal}
use Rattle.bms_source.specs.declared.letter.Place.{Place}
use Rattle.bms_source.specs.declared.refusal.Why.{Why}
use Rattle.bms_source.specs.declared.refusal.Why.TheVariants.{NotText, Tab, LineTooLong, BadContinuation, BadMark, BadLabel, MissingLabel, UnknownOperation, Unended, Comma, AfterOperands, Column16, BadOperand, UnknownOperand, OperandTwice, Unsupported, BadValue, BadCharacter, Conflict, MissingOperand, OutOfOrder, NoFinal, NameTwice, PosOutside, PosTwice, TooLong, NoScreen, BadGroup, TooMuch, NoSuchMap, SeveralMaps}

-- why, with a word where one tells more, and where
pub record Told : Type 0 where
  pub why : Why
  pub word : List ℕ
  pub place : Option Place

abbrev pub place_at : ℕ → ℕ → Place
place_at line column = record { line = line; column = column }

abbrev pub told_at : Why → Place → Told
told_at why place = record { why = why; word = []; place = Some place }

abbrev pub told_with : Why → List ℕ → Place → Told
told_with why word place = record { why = why; word = word; place = Some place }

-- one step after another, up to the first refusal
infixl 10 ◌>>=◌
abbrev pub ◌>>=◌ : {A B : Type 0} → Result A Told → (A → Result B Told) → Result B Told
(Ok x) >>= f = f x
(Err e) >>= f = Err e

-- ---- as it is printed

abbrev pub why_words : Why → List ℕ
why_words NotText = codes "R1 NotText"
why_words Tab = codes "R2 Tab"
why_words LineTooLong = codes "R3 LineTooLong"
why_words BadContinuation = codes "R4 BadContinuation"
why_words BadMark = codes "R5 BadMark"
why_words BadLabel = codes "R6 BadLabel"
why_words MissingLabel = codes "R7 MissingLabel"
why_words UnknownOperation = codes "R8 UnknownOperation"
why_words Unended = codes "R9 Unended"
why_words Comma = codes "R10 Comma"
why_words AfterOperands = codes "R11 AfterOperands"
why_words Column16 = codes "R12 Column16"
why_words BadOperand = codes "R13 BadOperand"
why_words UnknownOperand = codes "R14 UnknownOperand"
why_words OperandTwice = codes "R15 OperandTwice"
why_words Unsupported = codes "R16 Unsupported"
why_words BadValue = codes "R17 BadValue"
why_words BadCharacter = codes "R18 BadCharacter"
why_words Conflict = codes "R19 Conflict"
why_words MissingOperand = codes "R20 MissingOperand"
why_words OutOfOrder = codes "R21 OutOfOrder"
why_words NoFinal = codes "R22 NoFinal"
why_words NameTwice = codes "R23 NameTwice"
why_words PosOutside = codes "R24 PosOutside"
why_words PosTwice = codes "R25 PosTwice"
why_words TooLong = codes "R26 TooLong"
why_words NoScreen = codes "R27 NoScreen"
why_words BadGroup = codes "R28 BadGroup"
why_words TooMuch = codes "R29 TooMuch"
why_words NoSuchMap = codes "R30 NoSuchMap"
why_words SeveralMaps = codes "R31 SeveralMaps"

abbrev pub place_words : Option Place → List ℕ
place_words None = []
place_words (Some place) = codes " at line " ++ (decimal place.line ++ (codes " column " ++ decimal place.column))
