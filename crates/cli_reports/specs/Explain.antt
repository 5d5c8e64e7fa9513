-- What is told under a finding: where it is on the screen, what it means, and what mends it.
use Rattle.std.specs.Prelude.{ℕ, List, [], ◌++◌, codes, Option, Some, None}
use Rattle.std.specs.Fmt.{decimal}
use Rattle.ds_codec.specs.declared.size.Size.{Size}
use Rattle.ds_screen.specs.Picture.{Picture}
use Rattle.ds_screen.specs.Fields.{fields_of}
use Rattle.scr_layout.specs.Layout.{Declaration}
use Rattle.scr_check.specs.declared.finding.Finding.{Finding}
use Rattle.scr_check.specs.declared.traced.Traced.{Traced}
use Rattle.scr_check.specs.FindingText.{finding_text}
use Rattle.cli_findings.specs.Facts.{place_of, row_at, column_at}
use Rattle.cli_findings.specs.Help.{help_of}
use Rattle.cli_findings.specs.Rule.{rule_of, meaning_of}
use Rattle.cli_reports.specs.Add.{added}
use Rattle.cli_reports.specs.Extent.{length_in, length_words}
use Rattle.cli_reports.specs.Label.{label_words}

unfoldable pub spot_words : ℕ → ℕ → List ℕ
spot_words row column = codes "  at row " ++ (decimal row ++ (codes ", column " ++ decimal column))

-- how many cells the field has that begins at a place of the screen, and the text before it on its row
abbrev pub screen_words : Option Picture → ℕ → List ℕ
screen_words None place = []
screen_words (Some v) place = length_words (length_in place (fields_of v.cells)) ++ label_words v place

abbrev pub place_line : Size → Option Picture → Option ℕ → List ℕ
place_line size opened None = []
place_line size opened (Some place) = spot_words (row_at size place) (column_at size place) ++ (screen_words opened place ++ codes "\n")

abbrev pub means_line : List ℕ → List ℕ
means_line meaning = codes "  means: " ++ (meaning ++ codes "\n")

abbrev pub mend_line : Option (List ℕ) → List ℕ
mend_line None = []
mend_line (Some help) = codes "  mend: " ++ (help ++ codes "\n")

abbrev pub added_on : Declaration → Option Picture → Finding → List ℕ
added_on layout None finding = []
added_on layout (Some v) finding = added layout v finding

-- the lines under a finding, of records that leave this picture
abbrev pub explanation : Declaration → Option Picture → Traced → List ℕ
explanation layout opened traced =
    place_line layout.size opened (place_of layout.entries traced.finding)
    ++ (means_line (meaning_of (rule_of traced.finding)) ++ (mend_line (help_of layout traced) ++ added_on layout opened traced.finding))

-- the line of a finding, and those under it
abbrev pub explained_lines : Declaration → Option Picture → Traced → List ℕ
explained_lines layout opened traced = finding_text layout.entries traced.finding ++ (codes "\n" ++ explanation layout opened traced)
