-- The rules by which tools know what is told: a rule for each finding, and one for an input that is refused.
use Rattle.std.specs.Prelude.{ℕ, List, [], ◌∷◌, ◌++◌, codes, Option}
use Rattle.scr_check.specs.declared.finding.Finding.{Finding}
use Rattle.scr_check.specs.declared.finding.Finding.TheVariants as findings
use Rattle.cli_findings.specs.declared.found.Pen.{Pen}
use Rattle.cli_findings.specs.declared.found.Pen.TheVariants.{Ignored, Asked}
use Rattle.cli_findings.specs.declared.rule.Rule.{Rule}
use Rattle.cli_findings.specs.declared.rule.Rule.TheVariants.{RecordRefused, NoRecord, FirstNotErase, NotAWrite, KeyboardLocked, OtherSize, Unformatted, Undeclared, UndeclaredFixed, Missing, TooLong, OtherKind, EmptyModified, CursorDependent, InputRefused, Selectable}
use Rattle.cli_findings.specs.RuleRow.{row_of}

-- the rules in the order of their numbers, the one for inputs last
abbrev pub all_rules : List Rule
all_rules =
    RecordRefused ∷ NoRecord ∷ FirstNotErase ∷ NotAWrite ∷ KeyboardLocked ∷ OtherSize ∷ Unformatted ∷ Undeclared ∷ UndeclaredFixed ∷ Missing
    ∷ TooLong ∷ OtherKind ∷ EmptyModified ∷ CursorDependent ∷ InputRefused ∷ []

-- and that of the pen after them, where it is asked for
abbrev pub rules_for : Pen → List Rule
rules_for Ignored = all_rules
rules_for Asked = all_rules ++ Selectable ∷ []

abbrev pub rule_of : Finding → Rule
rule_of (findings.RecordRefused index refused) = RecordRefused
rule_of findings.NoRecord = NoRecord
rule_of findings.FirstNotErase = FirstNotErase
rule_of (findings.NotAWrite index) = NotAWrite
rule_of findings.KeyboardLocked = KeyboardLocked
rule_of (findings.OtherSize shown declared) = OtherSize
rule_of findings.Unformatted = Unformatted
rule_of (findings.Undeclared place demo) = Undeclared
rule_of (findings.UndeclaredFixed place demo) = UndeclaredFixed
rule_of (findings.Missing index) = Missing
rule_of (findings.TooLong found) = TooLong
rule_of (findings.OtherKind index) = OtherKind
rule_of (findings.EmptyModified place) = EmptyModified
rule_of (findings.CursorDependent index) = CursorDependent
rule_of (findings.Selectable place) = Selectable

-- ---- the parts of a rule's row

abbrev pub rule_index : Rule → ℕ
rule_index rule = (row_of rule).index

abbrev pub rule_id : Rule → List ℕ
rule_id rule = (row_of rule).id

abbrev pub rule_name : Rule → List ℕ
rule_name rule = (row_of rule).name

abbrev pub brief_of : Rule → List ℕ
brief_of rule = (row_of rule).brief

abbrev pub meaning_of : Rule → List ℕ
meaning_of rule = (row_of rule).meaning

abbrev pub mend_of : Rule → List ℕ
mend_of rule = (row_of rule).mend

abbrev pub change_of : Rule → Option (List ℕ)
change_of rule = (row_of rule).change

abbrev pub form_of : Rule → List ℕ
form_of rule = (row_of rule).form

-- what it means, and how it is mended
abbrev pub rule_help : Rule → List ℕ
rule_help rule = meaning_of rule ++ (codes " " ++ mend_of rule)
