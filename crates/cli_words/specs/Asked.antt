-- What the parsed words of a command line ask for.
use Rattle.std.specs.Prelude.{◌⊎◌, ◌≡◌, ◌<◌, ◌||◌, ℕ, Bool, true, false, List, Option, Some, None, is_some, option_map, codes}
use Rattle.std.specs.Borrow.{Bor}
use Rattle.std.specs.Fmt.{decimal}
use Rattle.bms_map.specs.declared.record.Control.{Control}
use Rattle.clap.specs.Words.{Row, Text, first_of, one_of}
use Rattle.cli_maps.specs.declared.asked.Form.{Form as MapForm}
use Rattle.cli_maps.specs.declared.asked.Form.TheVariants as map_forms
use Rattle.cli_maps.specs.declared.asked.Rendering.{Rendering}
use Rattle.cli_maps.specs.declared.asked.Rendering.TheVariants as renderings
use Rattle.cli_binds.specs.declared.fields.Form.{Form}
use Rattle.cli_binds.specs.declared.fields.Form.TheVariants as forms
use Rattle.cli_commands.specs.declared.output.demo.Demos.{Demos}
use Rattle.cli_commands.specs.declared.output.demo.Demos.TheVariants.{Printed, Omitted}
use Rattle.cli_words.specs.declared.asked.When.{When}
use Rattle.cli_words.specs.declared.asked.When.TheVariants.{Auto, Always, Never}
use Rattle.cli_words.specs.declared.asked.KeyLines.{KeyLines}
use Rattle.cli_words.specs.Many.{AreMany, HasManyWords}
use Rattle.cli_words.specs.declared.asked.KeyLines.TheVariants as key_lines
use Rattle.cli_words.specs.declared.asked.ReportForm.{ReportForm}
use Rattle.cli_words.specs.declared.asked.ReportForm.TheVariants.{Json, Sarif}
use Rattle.cli_words.specs.declared.asked.Asked.{Asked}
use Rattle.cli_words.specs.declared.asked.Asked.TheVariants.{Show, Draw, Annotate, Undrawn, Check, Report, Explain, Talk, ReportTalk, LogTalk, Press, Strike, Convert, ConvertCharacters, ConvertBack, ConvertBackCharacters, Draft, DraftTurns, Bind, BindTurns, Records, OneSided, Buffers, OneScreen, Serve, ServeMany, Attach, AttachTolerant, Script, Tap, Map, CheckMap, RenderMap, Suite, NoLayout}
use Rattle.cli_findings.specs.declared.found.Pen.{Pen}
use Rattle.cli_findings.specs.declared.found.Pen.TheVariants as pens
use Rattle.cli_pictures.specs.declared.annotated.Annotated.{Annotated}
use Rattle.cli_pictures.specs.declared.annotated.Annotated.TheVariants as annotated
use Rattle.cli_pictures.specs.declared.drawing.Drawing.TheVariants as drawings
use Rattle.cli_reports.specs.declared.talk.TalkForm.TheVariants as talks
use Rattle.cli_traces.specs.declared.asked.Asked.{Asked as Traced}
use Rattle.cli_buffers.specs.declared.sizes.SizesLine.{SizesLine}
use Rattle.cli_buffers.specs.declared.sizes.SizesLine.TheVariants as sizes
use Rattle.cli_suites.specs.declared.report.Form.{Form as SuiteForm}
use Rattle.cli_suites.specs.declared.report.Form.TheVariants as suite_forms
use Rattle.cli_traces.specs.declared.asked.Source.{Source}
use Rattle.cli_traces.specs.declared.asked.Source.TheVariants.{Trace, Stream}
use Rattle.cli_traces.specs.declared.turn.Turns.{Turns}
use Rattle.cli_traces.specs.declared.turn.Turns.TheVariants.{Unmarked, Marked, UpTo}
use Rattle.cli_traces.specs.Following.{is_one_sided}
use Rattle.cli_words.specs.Values.{IsText, IsPath, IsNumber}
use Rattle.cli_words.specs.Script.{IsScript}
use Rattle.cli_words.specs.Tap.{IsTap}
use Rattle.tn_traces.specs.declared.line.Side.{Side}
use Rattle.tn_traces.specs.declared.line.Side.TheVariants.{Host, Terminal}

-- an option was given, or wasn't
abbrev pub IsOption : Text → List Row → Bool → Type 0
IsOption option rows given = (one_of option rows ≡ Some (codes "true") → given ≡ true)
    × (one_of option rows ≡ Some (codes "false") → given ≡ false)
    × (one_of option rows ≡ None → given ≡ false)

abbrev pub AreDemos : List Row → Demos → Type 0
AreDemos rows Printed = IsOption (codes "demo") rows true
AreDemos rows Omitted = IsOption (codes "demo") rows false

abbrev pub IsPen : List Row → Pen → Type 0
IsPen rows pens.Asked = IsOption (codes "pen") rows true
IsPen rows pens.Ignored = IsOption (codes "pen") rows false

abbrev pub IsWhen : List Row → When → Type 0
IsWhen rows color = (first_of (codes "color") rows ≡ Some (codes "auto") → color ≡ Auto)
    × (first_of (codes "color") rows ≡ Some (codes "always") → color ≡ Always)
    × (first_of (codes "color") rows ≡ Some (codes "never") → color ≡ Never)

abbrev pub IsPlainShow : List Row → Asked → Type 0
IsPlainShow rows (Show color) = IsWhen rows color
IsPlainShow rows _ = ⊥

-- the screen, in the form that is named
abbrev pub IsDrawn : List Row → Asked → Type 0
IsDrawn rows asked = (first_of (codes "format") rows ≡ Some (codes "text") → IsPlainShow rows asked)
    × (first_of (codes "format") rows ≡ Some (codes "svg") → asked ≡ Draw drawings.Svg)
    × (first_of (codes "format") rows ≡ Some (codes "html") → asked ≡ Draw drawings.Html)
    × (first_of (codes "format") rows ≡ Some (codes "json") → asked ≡ Draw drawings.Json)
    × (first_of (codes "format") rows ≡ Some (codes "screen") → asked ≡ Draw drawings.Rows)

abbrev pub IsAnnotated : List Row → Annotated → Asked → Type 0
IsAnnotated rows form (Annotate layout given) = IsText (codes "layout") rows layout × (given ≡ form)
IsAnnotated rows form _ = ⊥

-- the screen with a layout, in the forms that draw it; in the others that is a fault of the command line
abbrev pub IsWithLayout : List Row → Asked → Type 0
IsWithLayout rows asked = (first_of (codes "format") rows ≡ Some (codes "svg") → IsAnnotated rows annotated.Svg asked)
    × (first_of (codes "format") rows ≡ Some (codes "html") → IsAnnotated rows annotated.Html asked)
    × (first_of (codes "format") rows ≡ Some (codes "text") → asked ≡ Undrawn)
    × (first_of (codes "format") rows ≡ Some (codes "json") → asked ≡ Undrawn)
    × (first_of (codes "format") rows ≡ Some (codes "screen") → asked ≡ Undrawn)

-- with lines under each finding where they are asked for, else with what keys send where that is
abbrev pub IsTextCheck : List Row → Asked → Type 0
IsTextCheck rows (Check layout records demos pen) =
    IsText (codes "LAYOUT") rows layout × IsPath (codes "records") rows records × AreDemos rows demos × IsPen rows pen
    × IsOption (codes "explain") rows false
IsTextCheck rows (Explain layout records pen) =
    IsText (codes "LAYOUT") rows layout × IsPath (codes "records") rows records × IsPen rows pen × IsOption (codes "explain") rows true
IsTextCheck rows _ = ⊥

abbrev pub IsReport : List Row → ReportForm → Asked → Type 0
IsReport rows due (Report layout records form pen) =
    IsText (codes "LAYOUT") rows layout × IsPath (codes "records") rows records × (form ≡ due) × IsPen rows pen
IsReport rows due _ = ⊥

-- what SEND MAP adds
abbrev pub AreControls : List Row → Control → Type 0
AreControls rows control = IsOption (codes "freekb") rows control.free_keyboard × IsOption (codes "frset") rows control.reset_modified

abbrev pub IsMapForm : List Row → MapForm → Type 0
IsMapForm rows map_forms.Layout = IsOption (codes "layout") rows true
IsMapForm rows map_forms.Records = IsOption (codes "layout") rows false

abbrev pub IsMap : List Row → Asked → Type 0
IsMap rows (Map source name control form) =
    IsText (codes "FILE") rows source × IsPath (codes "map") rows name × AreControls rows control × IsMapForm rows form
IsMap rows _ = ⊥

-- a form that tools read, or text
abbrev pub IsReportForm : List Row → Option ReportForm → Type 0
IsReportForm rows form = (first_of (codes "format") rows ≡ Some (codes "text") → form ≡ None)
    × (first_of (codes "format") rows ≡ Some (codes "json") → form ≡ Some Json)
    × (first_of (codes "format") rows ≡ Some (codes "sarif") → form ≡ Some Sarif)

-- the verdict on maps
abbrev pub IsMapCheck : List Row → Asked → Type 0
IsMapCheck rows (CheckMap source name control form) =
    IsText (codes "map") rows source × IsPath (codes "map-name") rows name × AreControls rows control × IsReportForm rows form
IsMapCheck rows _ = ⊥

abbrev pub IsRendering : List Row → Rendering → Type 0
IsRendering rows rendering = (first_of (codes "format") rows ≡ Some (codes "text") → rendering ≡ renderings.Text)
    × (first_of (codes "format") rows ≡ Some (codes "svg") → rendering ≡ renderings.Svg)
    × (first_of (codes "format") rows ≡ Some (codes "html") → rendering ≡ renderings.Html)
    × (first_of (codes "format") rows ≡ Some (codes "json") → rendering ≡ renderings.Json)
    × (first_of (codes "format") rows ≡ Some (codes "screen") → rendering ≡ renderings.Rows)

-- a map's screen, in the form that is named
abbrev pub IsShownMap : List Row → Asked → Type 0
IsShownMap rows (RenderMap source name control rendering) =
    IsText (codes "map") rows source × IsPath (codes "map-name") rows name × AreControls rows control × IsRendering rows rendering
IsShownMap rows _ = ⊥

-- a layout that is drafted from a map's screen
abbrev pub IsDraftedMap : List Row → Asked → Type 0
IsDraftedMap rows (RenderMap source name control rendering) =
    IsText (codes "map") rows source × IsPath (codes "map-name") rows name × AreControls rows control × (rendering ≡ renderings.Draft)
IsDraftedMap rows _ = ⊥

-- a map's, or the screen with a layout, or alone
abbrev pub IsShow : List Row → Asked → Type 0
IsShow rows asked = (is_some (first_of (codes "map") rows) ≡ true → IsShownMap rows asked)
    × (is_some (first_of (codes "map") rows) ≡ false → is_some (first_of (codes "layout") rows) ≡ false → IsDrawn rows asked)
    × (is_some (first_of (codes "map") rows) ≡ false → is_some (first_of (codes "layout") rows) ≡ true → IsWithLayout rows asked)

-- a layout, or one for each turn
abbrev pub IsDrafted : List Row → Asked → Type 0
IsDrafted rows Draft = IsOption (codes "turns") rows false
IsDrafted rows (DraftTurns folder) = IsOption (codes "turns") rows true × IsPath (codes "out") rows folder
IsDrafted rows _ = ⊥

abbrev pub IsDraft : List Row → Asked → Type 0
IsDraft rows asked = (is_some (first_of (codes "map") rows) ≡ true → IsDraftedMap rows asked)
    × (is_some (first_of (codes "map") rows) ≡ false → IsDrafted rows asked)

-- the verdict with a layout, in the form that is named
abbrev pub IsLayoutCheck : List Row → Asked → Type 0
IsLayoutCheck rows asked = (first_of (codes "format") rows ≡ Some (codes "text") → IsTextCheck rows asked)
    × (first_of (codes "format") rows ≡ Some (codes "json") → IsReport rows Json asked)
    × (first_of (codes "format") rows ≡ Some (codes "sarif") → IsReport rows Sarif asked)

-- the verdict, on maps or with a layout
abbrev pub IsCheck : List Row → Asked → Type 0
IsCheck rows asked = (is_some (first_of (codes "map") rows) ≡ true → IsMapCheck rows asked)
    × (is_some (first_of (codes "map") rows) ≡ false → is_some (first_of (codes "LAYOUT") rows) ≡ true → IsLayoutCheck rows asked)
    × (is_some (first_of (codes "map") rows) ≡ false → is_some (first_of (codes "LAYOUT") rows) ≡ false → asked ≡ NoLayout)

abbrev pub IsTextTalk : List Row → Asked → Type 0
IsTextTalk rows Talk = IsOption (codes "explain") rows false
IsTextTalk rows (ReportTalk form) = (form ≡ talks.Explained) × IsOption (codes "explain") rows true
IsTextTalk rows _ = ⊥

-- a dialogue, in the form that is named
abbrev pub IsTalk : List Row → Asked → Type 0
IsTalk rows asked = (first_of (codes "format") rows ≡ Some (codes "text") → IsTextTalk rows asked)
    × (first_of (codes "format") rows ≡ Some (codes "json") → asked ≡ ReportTalk talks.Json)
    × (first_of (codes "format") rows ≡ Some (codes "sarif") → asked ≡ LogTalk)

abbrev pub IsSuiteForm : List Row → SuiteForm → Type 0
IsSuiteForm rows form = (first_of (codes "format") rows ≡ Some (codes "text") → form ≡ suite_forms.Text)
    × (first_of (codes "format") rows ≡ Some (codes "json") → form ≡ suite_forms.Json)
    × (first_of (codes "format") rows ≡ Some (codes "junit") → form ≡ suite_forms.Junit)
    × (first_of (codes "format") rows ≡ Some (codes "sarif") → form ≡ suite_forms.Sarif)

-- a manifest or a folder, and the one screen that is asked for
abbrev pub IsSuite : List Row → Asked → Type 0
IsSuite rows (Suite path only form) = IsText (codes "SUITE") rows path × IsPath (codes "only") rows only × IsSuiteForm rows form
IsSuite rows _ = ⊥

abbrev pub IsPress : List Row → Asked → Type 0
IsPress rows (Press keys) = IsText (codes "KEYS") rows keys × IsOption (codes "strokes") rows false
IsPress rows (Strike strokes) = IsText (codes "KEYS") rows strokes × IsOption (codes "strokes") rows true
IsPress rows _ = ⊥

abbrev pub IsConvert : List Row → Asked → Type 0
IsConvert rows Convert = IsOption (codes "back") rows false × IsOption (codes "chars") rows false
IsConvert rows ConvertCharacters = IsOption (codes "back") rows false × IsOption (codes "chars") rows true
IsConvert rows ConvertBack = IsOption (codes "back") rows true × IsOption (codes "chars") rows false
IsConvert rows ConvertBackCharacters = IsOption (codes "back") rows true × IsOption (codes "chars") rows true
IsConvert rows _ = ⊥

abbrev pub IsForm : List Row → Form → Type 0
IsForm rows forms.Text = IsOption (codes "text") rows true
IsForm rows forms.Hexadecimal = IsOption (codes "text") rows false

abbrev pub IsBind : List Row → Asked → Type 0
IsBind rows (Bind layout form) = IsText (codes "LAYOUT") rows layout × IsForm rows form × IsOption (codes "turns") rows false
IsBind rows (BindTurns form) = IsForm rows form × IsOption (codes "turns") rows true
IsBind rows _ = ⊥

-- where the lines come from, by its name
abbrev pub IsSource : List Row → Source → Type 0
IsSource rows source = (first_of (codes "from") rows ≡ Some (codes "stream") → source ≡ Stream)
    × (first_of (codes "from") rows ≡ Some (codes "trace") → source ≡ Trace)

abbrev pub IsSide : List Row → Side → Type 0
IsSide rows Terminal = IsOption (codes "answers") rows true
IsSide rows Host = IsOption (codes "answers") rows false

-- which turns are printed, and how
abbrev pub AreTurns : List Row → Turns → Type 0
AreTurns rows Marked = IsOption (codes "turns") rows true
AreTurns rows (UpTo turn) = IsOption (codes "turns") rows false × (is_some (first_of (codes "turn") rows) ≡ true) × IsNumber (codes "turn") rows turn
AreTurns rows Unmarked = IsOption (codes "turns") rows false × (is_some (first_of (codes "turn") rows) ≡ false)

-- what is asked of a trace or a stream
abbrev pub AreTraced : List Row → Traced → Type 0
AreTraced rows traced = IsSource rows traced.source × IsSide rows traced.side × AreTurns rows traced.turns
    × IsOption (codes "all") rows traced.all × IsOption (codes "size") rows traced.size

-- turns are asked of a trace alone
abbrev pub IsTraced : List Row → Asked → Type 0
IsTraced rows (Records traced) = AreTraced rows traced × (is_one_sided traced ≡ false)
IsTraced rows OneSided = (traced : Traced) × AreTraced rows traced × (is_one_sided traced ≡ true)
IsTraced rows _ = ⊥

abbrev pub AreSizes : List Row → SizesLine → Type 0
AreSizes rows sizes.Told = IsOption (codes "size") rows true
AreSizes rows sizes.Omitted = IsOption (codes "size") rows false

-- what only traces and streams have is asked
abbrev pub AreTracedWords : List Row → Type 0
AreTracedWords rows =
    IsOption (codes "answers") rows true ⊎ (IsOption (codes "turns") rows true
    ⊎ (IsOption (codes "all") rows true ⊎ (is_some (first_of (codes "turn") rows) ≡ true)))

abbrev pub AreNoTracedWords : List Row → Type 0
AreNoTracedWords rows =
    IsOption (codes "answers") rows false × IsOption (codes "turns") rows false × IsOption (codes "all") rows false
    × (is_some (first_of (codes "turn") rows) ≡ false)

abbrev pub AreBuffers : List Row → Asked → Type 0
AreBuffers rows (Buffers told) = AreSizes rows told × AreNoTracedWords rows
AreBuffers rows OneScreen = AreTracedWords rows
AreBuffers rows _ = ⊥

-- a trace, a stream, or a terminal's buffer
abbrev pub IsRecords : List Row → Asked → Type 0
IsRecords rows asked = (first_of (codes "from") rows ≡ Some (codes "trace") → IsTraced rows asked)
    × (first_of (codes "from") rows ≡ Some (codes "stream") → IsTraced rows asked)
    × (first_of (codes "from") rows ≡ Some (codes "buffer") → AreBuffers rows asked)

-- terminals one after the other, where none of those options is there
abbrev pub IsServe : List Row → Asked → Type 0
IsServe rows (Serve layout address port count) =
    IsText (codes "LAYOUT") rows layout × IsText (codes "listen") rows address × IsNumber (codes "port") rows port × IsNumber (codes "count") rows count
    × HasManyWords rows false × ¬ (count ≡ 0)
IsServe rows (ServeMany layout address port many) =
    IsText (codes "LAYOUT") rows layout × IsText (codes "listen") rows address × IsNumber (codes "port") rows port × AreMany rows many
    × ((has : Bool) → HasManyWords rows has → (has ≡ true) ⊎ (many.count ≡ 0))
IsServe rows _ = ⊥

abbrev pub AreKeyLines : List Row → KeyLines → Type 0
AreKeyLines rows key_lines.Strokes = IsOption (codes "strokes") rows true
AreKeyLines rows key_lines.Keys = IsOption (codes "strokes") rows false

abbrev pub IsAttach : List Row → Asked → Type 0
IsAttach rows (Attach host keys lines port device) =
    IsText (codes "HOST") rows host × IsText (codes "KEYS") rows keys × AreKeyLines rows lines × IsNumber (codes "port") rows port
    × IsText (codes "device") rows device × IsOption (codes "tolerant") rows false
IsAttach rows (AttachTolerant host keys lines port device expect timeout) =
    IsText (codes "HOST") rows host × IsText (codes "KEYS") rows keys × AreKeyLines rows lines × IsNumber (codes "port") rows port
    × IsText (codes "device") rows device × IsOption (codes "tolerant") rows true × IsNumber (codes "expect") rows expect
    × IsNumber (codes "timeout") rows timeout
IsAttach rows _ = ⊥

abbrev pub AsksScript : List Row → Asked → Type 0
AsksScript rows (Script asked) = IsScript rows asked
AsksScript rows _ = ⊥

abbrev pub AsksTap : List Row → Asked → Type 0
AsksTap rows (Tap asked) = IsTap rows asked
AsksTap rows _ = ⊥

-- the command that is named, with its paths, places and options; the default command is show
pub record AsksFor (name : Text) (rows : List Row) (asked : Asked) : Type 0 where
  pub show : name ≡ codes "show" → IsShow rows asked
  pub check : name ≡ codes "check" → IsCheck rows asked
  pub talk : name ≡ codes "talk" → IsTalk rows asked
  pub press : name ≡ codes "press" → IsPress rows asked
  pub convert : name ≡ codes "convert" → IsConvert rows asked
  pub draft : name ≡ codes "draft" → IsDraft rows asked
  pub bind : name ≡ codes "bind" → IsBind rows asked
  pub records : name ≡ codes "records" → IsRecords rows asked
  pub serve : name ≡ codes "serve" → IsServe rows asked
  pub attach : name ≡ codes "attach" → IsAttach rows asked
  pub script : name ≡ codes "script" → AsksScript rows asked
  pub tap : name ≡ codes "tap" → AsksTap rows asked
  pub map : name ≡ codes "map" → IsMap rows asked
  pub suite : name ≡ codes "suite" → IsSuite rows asked

abbrev pub Asks : Option (Text × List Row) → Asked → Type 0
Asks None asked = asked ≡ Show Auto
Asks (Some command) asked = AsksFor command.0 command.1 asked
