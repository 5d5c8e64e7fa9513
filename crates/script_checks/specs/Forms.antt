-- What is told of screens, as a text, as lines of JSON, and as the XML of JUnit: what `suite` prints of its screens.
use Rattle.std.specs.Prelude.{ℕ, ◌+◌, ◌==◌, ◌||◌, Bool, true, false, nat_lt, min, List, [], ◌∷◌, ◌++◌, codes, map, if◌then◌else◌}
use Rattle.std.specs.Fmt.{decimal}
use Rattle.std.specs.List.{flat_map}
use Rattle.std.specs.Str.{is_utf8}
use Rattle.script_checks.specs.declared.form.ReportFormat.{ReportFormat}
use Rattle.script_checks.specs.declared.form.ReportFormat.TheVariants.{Text, Json, Junit}
use Rattle.script_checks.specs.declared.form.Totals.{Totals}
use Rattle.script_checks.specs.declared.told.Verdict.{Verdict}
use Rattle.script_checks.specs.declared.told.Verdict.TheVariants.{NoLayout, NotKept, Yes, No}
use Rattle.script_checks.specs.Lines.{clean, lines_after}
use Rattle.script_checks.specs.Told.{Told}

-- ---- a text

-- the screen's number, and what is said of it
abbrev pub screen_text : ℕ → List ℕ → List ℕ
screen_text number words = codes "screen " ++ (decimal number ++ (codes " " ++ words))

abbrev pub told_words : List ℕ → Verdict → List ℕ
told_words name NoLayout = codes "none"
told_words name NotKept = clean name ++ codes " input too long"
told_words name Yes = clean name ++ codes " yes"
told_words name No = clean name ++ codes " no"

abbrev pub told_texts : ℕ → Told → List (List ℕ)
told_texts number told = screen_text number (told_words told.name told.verdict) ∷ told.lines

-- ---- the others leave out screens that no layout matches

-- a name that isn't UTF-8 has `?` for each byte that isn't of ASCII
abbrev pub plain_byte : ℕ → ℕ
plain_byte byte = if nat_lt byte 0x20 || nat_lt 0x7E byte then 0x3F else byte

abbrev pub shown_name : List ℕ → List ℕ
shown_name name = if is_utf8 name then clean name else map plain_byte name

-- the lines below a screen
abbrev pub form_lines : Verdict → List (List ℕ) → List (List ℕ)
form_lines NoLayout lines = lines
form_lines NotKept lines = codes "input too long" ∷ []
form_lines Yes lines = lines
form_lines No lines = lines

abbrev pub case_name : ℕ → List ℕ → List ℕ
case_name number name = decimal number ++ (codes " " ++ shown_name name)

-- `1 finding`, `2 findings`
unfoldable pub counted : ℕ → List ℕ
counted count = decimal count ++ (if count == 1 then codes " finding" else codes " findings")

-- ---- JSON

-- a byte of a text between quotes
abbrev pub json_byte : ℕ → List ℕ
json_byte byte = if byte == 0x22 || byte == 0x5C then 0x5C ∷ byte ∷ [] else byte ∷ []

abbrev pub json_text : List ℕ → List ℕ
json_text text = flat_map json_byte text

unfoldable pub quoted : List ℕ → List ℕ
quoted text = codes "\"" ++ (json_text text ++ codes "\"")

-- texts with a comma between two of them
abbrev pub with_comma : Bool → List ℕ → List ℕ
with_comma false text = quoted text
with_comma true text = codes "," ++ quoted text

abbrev pub quoted_after : Bool → List (List ℕ) → List ℕ
quoted_after later [] = []
quoted_after later (text ∷ texts) = with_comma later text ++ quoted_after true texts

abbrev pub verdict_word : Verdict → List ℕ
verdict_word NoLayout = codes "none"
verdict_word NotKept = codes "refused"
verdict_word Yes = codes "yes"
verdict_word No = codes "no"

unfoldable pub numbered : List ℕ → ℕ → List ℕ
numbered label number = label ++ decimal number

-- how many findings there are, and the lines below the screen
unfoldable pub json_lines : Told → List ℕ
json_lines told = numbered (codes "{\"accepted\":[],\"findings\":") told.findings ++ (codes ",\"lines\":[" ++ quoted_after false (form_lines told.verdict told.lines))

unfoldable pub json_name : List ℕ → List ℕ
json_name name = codes "],\"screen\":" ++ quoted name

unfoldable pub json_verdict : Verdict → List ℕ
json_verdict verdict = codes ",\"verdict\":" ++ (quoted (verdict_word verdict) ++ codes "}\n")

-- the line of a screen
abbrev pub json_case : ℕ → Told → List ℕ
json_case number told = json_lines told ++ (json_name (case_name number told.name) ++ json_verdict told.verdict)

-- the line of the totals
unfoldable pub json_end : Totals → List ℕ
json_end t =
    numbered (codes "{\"accepted\":0,\"findings\":") t.findings ++ (numbered (codes ",\"no\":") t.no ++ (numbered (codes ",\"refused\":") t.refused
    ++ (numbered (codes ",\"screens\":") t.screens ++ (numbered (codes ",\"yes\":") t.yes ++ codes "}\n"))))

-- ---- XML

abbrev pub xml_byte : ℕ → List ℕ
xml_byte byte =
    if byte == 0x26 then codes "&amp;" else (if byte == 0x3C then codes "&lt;" else (if byte == 0x3E then codes "&gt;"
    else (if byte == 0x22 then codes "&quot;" else byte ∷ [])))

abbrev pub xml_text : List ℕ → List ℕ
xml_text text = flat_map xml_byte text

abbrev pub xml_line : List ℕ → List ℕ
xml_line line = xml_text line ++ codes "\n"

abbrev pub xml_lines : List (List ℕ) → List ℕ
xml_lines lines = flat_map xml_line lines

unfoldable pub failure_begin : ℕ → List ℕ
failure_begin findings = codes "<failure message=\"" ++ (counted findings ++ codes "\">")

unfoldable pub failed_part : Told → List ℕ
failed_part told = failure_begin told.findings ++ (xml_lines told.lines ++ codes "</failure>\n")

unfoldable pub refused_part : List ℕ
refused_part = codes "<error message=\"refused\">" ++ (xml_line (codes "input too long") ++ codes "</error>\n")

-- what stands against a screen
unfoldable pub told_part : Told → Verdict → List ℕ
told_part told NoLayout = []
told_part told NotKept = refused_part
told_part told Yes = []
told_part told No = failed_part told

unfoldable pub case_begin : List ℕ → List ℕ
case_begin name = codes "<testcase classname=\"screens\" name=\"" ++ (xml_text name ++ codes "\">\n")

abbrev pub junit_case : ℕ → Told → List ℕ
junit_case number told = case_begin (case_name number told.name) ++ (told_part told told.verdict ++ codes "</testcase>\n")

unfoldable pub head : List ℕ
head = codes "<?xml version=\"1.0\" encoding=\"UTF-8\"?>\n<testsuites>\n<testsuite name=\"term3270 script\""

unfoldable pub junit_begin : Totals → List ℕ
junit_begin t =
    head ++ (numbered (codes " tests=\"") t.screens ++ (numbered (codes "\" failures=\"") t.no ++ (numbered (codes "\" errors=\"") t.refused ++ codes "\">\n")))

abbrev pub junit_end : List ℕ
junit_end = codes "</testsuite>\n</testsuites>\n"

-- ---- a report

abbrev pub most : ℕ → ℕ → ℕ
most count more = min (count + more) 18446744073709551615

abbrev pub no_totals : Totals
no_totals = record { screens = 0; yes = 0; no = 0; refused = 0; findings = 0 }

-- screens that no layout matches aren't counted
abbrev pub counted_in : Totals → Told → Verdict → Totals
counted_in t told NoLayout = t
counted_in t told NotKept = record t { screens = most t.screens 1; refused = most t.refused 1 }
counted_in t told Yes = record t { screens = most t.screens 1; yes = most t.yes 1 }
counted_in t told No = record t { screens = most t.screens 1; no = most t.no 1; findings = most t.findings told.findings }

abbrev pub unless_none : Verdict → List ℕ → List ℕ
unless_none NoLayout text = []
unless_none NotKept text = text
unless_none Yes text = text
unless_none No text = text

-- what is added to the report at once
abbrev pub due_at_once : ReportFormat → ℕ → Told → List ℕ
due_at_once Text number told = lines_after [] (told_texts number told)
due_at_once Json number told = unless_none told.verdict (json_case number told)
due_at_once Junit number told = []

-- what is kept for its end
abbrev pub due_later : ReportFormat → ℕ → Told → List ℕ
due_later Text number told = []
due_later Json number told = []
due_later Junit number told = unless_none told.verdict (junit_case number told)

abbrev pub due_at_the_end : ReportFormat → Totals → List ℕ → List ℕ
due_at_the_end Text t cases = []
due_at_the_end Json t cases = json_end t
due_at_the_end Junit t cases = junit_begin t ++ (cases ++ junit_end)
