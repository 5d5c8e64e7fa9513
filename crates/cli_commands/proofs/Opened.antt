-- Where the records open a picture it is shown; where something stands against them that has no demo.
use Rattle.std.proofs.Common.{◌≡◌, ℕ, ◌+◌, Bool, true, false, List, [], ◌∷◌, ◌++◌, not, ◌&&◌, ◌==◌, refl, ap, sym, ◌∙◌}
use Rattle.std.specs.Prelude.{codes, Option, Some, None, Result, Ok, Err, if◌then◌else◌}
use Rattle.ds_codec.specs.declared.size.Size.{Size}
use Rattle.ds_codec.specs.declared.refused.Refused as read
use Rattle.ds_codec.specs.Record.{Message}
use Rattle.ds_codec.specs.Reading.{read_of, ◌>>=◌}
use Rattle.ds_screen.specs.declared.refused.Refused as shown
use Rattle.ds_screen.specs.Picture.{Picture}
use Rattle.ds_screen.specs.Fields.{fields_of}
use Rattle.ds_screen.specs.Records.{new_picture, shown_of}
use Rattle.ds_codec.specs.Same.{same_size}
use Rattle.scr_layout.specs.Entry.{Declared}
use Rattle.scr_layout.specs.Layout.{Declaration}
use Rattle.scr_check.specs.declared.finding.Demo.{Demo}
use Rattle.scr_check.specs.declared.finding.Finding.{Finding}
use Rattle.scr_check.specs.declared.finding.Finding.TheVariants.{FirstNotErase, NotAWrite, KeyboardLocked, OtherSize, Unformatted}
use Rattle.scr_check.specs.Opening.{erases, writes, unless_found, applied, taken, taken_from, is_free, is_none_of, ready, opening_of}
use Rattle.scr_check.specs.Findings.{findings_of, told, answer_of}
use Rattle.scr_check.specs.FindingText.{demo_of, finding_text}
use Rattle.scr_check.specs.Pen.{selectable_of, told_with_pen, answer_with_pen}
use Rattle.cli_commands.specs.DemoLines.{sends_on, asked, finding_lines, shown_on}
use Rattle.cli_commands.specs.declared.status.Status.TheVariants.{Findings}
use Rattle.cli_commands.specs.Printed.{printed}
use Rattle.ds_terminal.specs.Runs.{RefusedRecord, shown_as, then_others, all_shown}
use Rattle.ds_terminal.specs.Taking.{applying}
use Rattle.cli_commands.specs.declared.output.demo.Demos.{Demos}
use Rattle.cli_commands.specs.declared.output.demo.Demos.TheVariants.{Omitted, Printed}
use Rattle.cli_commands.specs.Check.{printed_verdict, printed_answer}
use Rattle.cli_commands.specs.PenCheck.{printed_pen_answer}

-- the picture is shown, or the finding has no demo
abbrev Fits : Result Picture Finding → Result Picture RefusedRecord → Type 0
Fits (Ok v) shown = shown ≡ Ok v
Fits (Err finding) shown = demo_of finding ≡ None

-- what the others lead to
abbrev FitAll : ℕ → List (List ℕ) → Type 0
FitAll index others = (next : Picture) → Fits (taken_from (index + 1) next others) (all_shown (index + 1) next others)

by_command : (index : ℕ) (others : List (List ℕ)) (first writing : Bool) (result : Result Picture shown.Refused) → FitAll index others
    → Fits (unless_found (if first then Some FirstNotErase else (if writing then None else Some (NotAWrite index))) (applied index result) >>= λ next. taken_from (index + 1) next others)
    (then_others index (applying result) (λ next. all_shown (index + 1) next others))
by_command index others true writing result fit = refl
by_command index others false false result fit = refl
by_command index others false true (Ok next) fit = fit next
by_command index others false true (Err refused) fit = refl

by_message : (index : ℕ) (v : Picture) (others : List (List ℕ)) (message : Result Message read.Refused) → FitAll index others
    → Fits (taken index v message >>= λ next. taken_from (index + 1) next others) (then_others index (shown_as v message) (λ next. all_shown (index + 1) next others))
by_message index v others (Err refused) fit = refl
by_message index v others (Ok message) fit =
    by_command index others ((index == 0) && not (erases message.command)) (writes message.command) (shown_of v message.command message.orders) fit

taken_fits : (index : ℕ) (v : Picture) (records : List (List ℕ)) → Fits (taken_from index v records) (all_shown index v records)
taken_fits index v [] = refl
taken_fits index v (bytes ∷ others) = by_message index v others (read_of v.geometry.mode bytes) (λ next. taken_fits (index + 1) next others)

by_ready : (free same none : Bool) (size : Size) (v : Picture) (shown : Result Picture RefusedRecord) → shown ≡ Ok v
    → Fits (if not free then Err KeyboardLocked else (if not same then Err (OtherSize v.size size) else (if none then Err Unformatted else Ok v))) shown
by_ready false same none size v shown is = refl
by_ready true false none size v shown is = refl
by_ready true true true size v shown is = refl
by_ready true true false size v shown is = is

ready_fits : (size : Size) (opened : Result Picture Finding) (shown : Result Picture RefusedRecord) → Fits opened shown → Fits (opened >>= ready size) shown
ready_fits size (Err finding) shown fits = fits
ready_fits size (Ok v) shown fits = by_ready (is_free v.lock) (same_size v.size size) (is_none_of (fields_of v.cells)) size v shown fits

opening_fits : (layout : Declaration) (records : List (List ℕ)) → Fits (opening_of layout records) (shown_on layout records)
opening_fits layout [] = refl
opening_fits layout (bytes ∷ others) =
    ready_fits layout.size (taken_from 0 (new_picture layout.geometry) (bytes ∷ others)) (shown_on layout (bytes ∷ others))
    (taken_fits 0 (new_picture layout.geometry) (bytes ∷ others))

-- ---- so the lines of the findings are the same

asked_same : (demos : Demos) (v : Picture) (shown : Result Picture RefusedRecord) → shown ≡ Ok v → asked demos shown ≡ asked {E = Finding} demos (Ok v)
asked_same Omitted v shown is = refl
asked_same Printed v shown is = ap (asked Printed) is

no_sends : (opened : Option Picture) (demo : Option Demo) → demo ≡ None → sends_on opened demo ≡ []
no_sends opened demo none = ap (sends_on opened) none

one_finding : (entries : List Declared) (opened other : Option Picture) (finding : Finding) → demo_of finding ≡ None
    → finding_lines entries opened finding ≡ finding_lines entries other finding
one_finding entries opened other finding none =
    ap (λ (line : List ℕ). (finding_text entries finding ++ codes "\n") ++ line) (no_sends opened (demo_of finding) none ∙ sym (no_sends other (demo_of finding) none))

by_opening : (demos : Demos) (layout : Declaration) (opened : Result Picture Finding) (shown : Result Picture RefusedRecord) → Fits opened shown
    → printed_verdict (finding_lines layout.entries (asked demos shown)) (told layout opened) ≡ printed_verdict (finding_lines layout.entries (asked demos opened)) (told layout opened)
by_opening demos layout (Ok v) shown is =
    ap (λ (from : Option Picture). printed_verdict (finding_lines layout.entries from) (findings_of layout v)) (asked_same demos v shown is)
by_opening demos layout (Err finding) shown none =
    ap (λ (line : List ℕ). printed (line ++ []) Findings) (one_finding layout.entries (asked demos shown) (asked {E = Finding} demos (Err finding)) finding none)

pub from_shown : (demos : Demos) (layout : Declaration) (records : List (List ℕ))
    → printed_verdict (finding_lines layout.entries (asked demos (shown_on layout records))) (answer_of layout records) ≡ printed_answer demos layout records
from_shown demos layout records = by_opening demos layout (opening_of layout records) (shown_on layout records) (opening_fits layout records)

-- the same with the fields that may not be selected
with_pen : (demos : Demos) (layout : Declaration) (opened : Result Picture Finding) (shown : Result Picture RefusedRecord) → Fits opened shown
    → printed_verdict (finding_lines layout.entries (asked demos shown)) (told_with_pen layout opened) ≡ printed_verdict (finding_lines layout.entries (asked demos opened)) (told_with_pen layout opened)
with_pen demos layout (Ok v) shown is =
    ap (λ (from : Option Picture). printed_verdict (finding_lines layout.entries from) (findings_of layout v ++ selectable_of v.cells)) (asked_same demos v shown is)
with_pen demos layout (Err finding) shown none =
    ap (λ (line : List ℕ). printed (line ++ []) Findings) (one_finding layout.entries (asked demos shown) (asked {E = Finding} demos (Err finding)) finding none)

pub pen_from_shown : (demos : Demos) (layout : Declaration) (records : List (List ℕ))
    → printed_verdict (finding_lines layout.entries (asked demos (shown_on layout records))) (answer_with_pen layout records) ≡ printed_pen_answer demos layout records
pen_from_shown demos layout records = with_pen demos layout (opening_of layout records) (shown_on layout records) (opening_fits layout records)
