-- What the words of `script` ask for.
use Rattle.std.specs.Prelude.{◌≡◌, List, Option, Some, codes}
use Rattle.clap.specs.Words.{Row, first_of}
use Rattle.script_screens.specs.declared.code_page.CodePage.{CodePage}
use Rattle.script_screens.specs.declared.code_page.CodePage.TheVariants.{Bracket, CodePage037}
use Rattle.script_checks.specs.declared.form.ReportFormat.{ReportFormat}
use Rattle.script_checks.specs.declared.form.ReportFormat.TheVariants.{Text, Json, Junit}
use Rattle.cli_words.specs.declared.script.ScriptAsked.{ScriptAsked}
use Rattle.cli_words.specs.Values.{IsPath, IsText}

abbrev pub IsCodePage : List Row → CodePage → Type 0
IsCodePage rows page = (first_of (codes "code-page") rows ≡ Some (codes "bracket") → page ≡ Bracket)
    × (first_of (codes "code-page") rows ≡ Some (codes "037") → page ≡ CodePage037)

abbrev pub IsReportFormat : List Row → ReportFormat → Type 0
IsReportFormat rows format = (first_of (codes "report-format") rows ≡ Some (codes "json") → format ≡ Json)
    × (first_of (codes "report-format") rows ≡ Some (codes "junit") → format ≡ Junit)
    × (first_of (codes "report-format") rows ≡ Some (codes "text") → format ≡ Text)

abbrev pub IsScript : List Row → ScriptAsked → Type 0
IsScript rows asked = IsPath (codes "HOST") rows asked.host × IsText (codes "device") rows asked.device × IsCodePage rows asked.code_page
    × IsPath (codes "layouts") rows asked.layouts × IsPath (codes "report") rows asked.report × IsReportFormat rows asked.report_format
