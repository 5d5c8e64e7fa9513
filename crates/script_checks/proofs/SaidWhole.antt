-- What Check says, and what is reported, has no line's end.
use Rattle.std.proofs.Common.{◌≡◌, ℕ, Bool, true, false, cond, List, [], ◌∷◌, ◌++◌, map, codes, Option, Some, None, refl, subst, inl, inr}
use Rattle.std.specs.Prelude.{Result, Ok, Err}
use Rattle.std.specs.Fmt.{decimal}
use Rattle.ds_codec.specs.Geometry.{Sizes}
use Rattle.ds_screen.specs.Picture.{Picture}
use Rattle.scr_layout.specs.Entry.{Declared}
use Rattle.scr_layout.specs.Layout.{Declaration, IsLayout}
use Rattle.scr_check.specs.FindingText.{finding_text}
use Rattle.scr_check.specs.Walk.{Stop}
use Rattle.cli_commands.specs.declared.fault.Fault.{Fault}
use Rattle.cli_commands.specs.LayoutText.{layout_in}
use Rattle.ds_codec.specs.Same.{same_sizes}
use Rattle.script_screens.specs.Laws.{are_whole}
use Rattle.tn_session.specs.Kept.{Kept}
use Rattle.script_checks.specs.declared.read.LayoutRefusal.{LayoutRefusal}
use Rattle.script_checks.specs.declared.read.LayoutRefusal.TheVariants.{Refused, OtherSizes}
use Rattle.script_checks.specs.Laws.{ChecksAreLines, ReportsAreLines, AreLayouts}
use Rattle.script_checks.specs.Lines.{clean}
use Rattle.script_checks.specs.Named.{Named, chosen, IsAmong, Chooses}
use Rattle.script_checks.specs.Read.{fitting_said, refusal_text}
use Rattle.script_checks.specs.Forms.{screen_text, told_words, told_texts}
use Rattle.script_checks.specs.Told.{Told, stop_told, kept_told, chosen_told, told_of}
use Rattle.script_checks.specs.declared.told.Verdict.{Verdict}
use Rattle.script_checks.specs.declared.told.Verdict.TheVariants.{NoLayout, NotKept, Yes, No}
use Rattle.script_checks.specs.Said.{turn_texts, stop_texts, verdict_said, kept_said, layout_said}
use Rattle.script_checks.specs.Turns.{are_several, stop_of}
use Rattle.script_checks.proofs.BestLaws.{is_found}
use Rattle.script_checks.proofs.FaultTexts.{NamesAreWhole, finding_line, names_of_layout, refusal_line}
use Rattle.script_checks.proofs.Promised.{read_is_layout}
use Rattle.script_checks.proofs.Whole.{Whole, lit, num, plus, cleaned, one_text, more_texts, all_texts}

-- ---- a verdict

turn_whole : (several : Bool) (turn : ℕ) (texts : List (List ℕ)) → are_whole texts ≡ true → are_whole (turn_texts several turn ++ texts) ≡ true
turn_whole false turn texts whole = whole
turn_whole true turn texts whole = more_texts (codes "turn " ++ decimal turn) texts (plus (lit (codes "turn ") refl) (num turn)).whole whole

stop_whole : (entries : List Declared) (several : Bool) (stop : Stop) → NamesAreWhole entries → are_whole (stop_texts entries several stop) ≡ true
stop_whole entries several stop names =
    turn_whole several stop.turn (map (finding_text entries) stop.findings) (all_texts (finding_text entries) stop.findings (λ finding. (finding_line entries finding names).whole))

verdict_whole : (entries : List Declared) (several : Bool) (stop : Option Stop) → NamesAreWhole entries → are_whole (verdict_said entries several stop).texts ≡ true
verdict_whole entries several None names = refl
verdict_whole entries several (Some stop) names = stop_whole entries several stop names

-- ---- Check

kept_whole : (turns : Option (List Kept)) (layout : Declaration) → IsLayout layout → are_whole (kept_said layout turns).texts ≡ true
kept_whole None layout law = refl
kept_whole (Some kept) layout law = verdict_whole layout.entries (are_several kept) (stop_of layout kept) (names_of_layout layout law)

refused_whole : (turns : Option (List Kept)) (refusal : LayoutRefusal) → are_whole (layout_said turns (Err refusal)).texts ≡ true
refused_whole turns refusal = one_text (codes "Check(): " ++ refusal_text refusal) (plus (lit (codes "Check(): ") refl) (refusal_line refusal)).whole

fits_whole : (test : Bool) (turns : Option (List Kept)) (layout : Declaration) → IsLayout layout → are_whole (layout_said turns (cond test (Ok layout) (Err OtherSizes))).texts ≡ true
fits_whole true turns layout law = kept_whole turns layout law
fits_whole false turns layout law = refused_whole turns OtherSizes

text_whole : (r : Result Declaration Fault) (turns : Option (List Kept)) (geometry : Sizes) (text : List ℕ) → layout_in text ≡ r
    → are_whole (layout_said turns (fitting_said geometry r)).texts ≡ true
text_whole (Ok layout) turns geometry text is = fits_whole (same_sizes layout.geometry geometry) turns layout (read_is_layout text layout is)
text_whole (Err fault) turns geometry text is = refused_whole turns (Refused fault)

pub checks_are_lines : ChecksAreLines
checks_are_lines turns geometry path (Ok text) = text_whole (layout_in text) turns geometry text refl
checks_are_lines turns geometry path (Err cause) =
    one_text (codes "Check(): " ++ (clean path ++ (codes ": " ++ clean cause)))
    (plus (lit (codes "Check(): ") refl) (plus (cleaned path) (plus (lit (codes ": ") refl) (cleaned cause)))).whole

-- ---- reports

screen_line : (number : ℕ) {words : List ℕ} → Whole words → Whole (screen_text number words)
screen_line number words = plus (lit (codes "screen ") refl) (plus (num number) (plus (lit (codes " ") refl) words))

words_line : (name : List ℕ) (verdict : Verdict) → Whole (told_words name verdict)
words_line name NoLayout = lit (codes "none") refl
words_line name NotKept = plus (cleaned name) (lit (codes " input too long") refl)
words_line name Yes = plus (cleaned name) (lit (codes " yes") refl)
words_line name No = plus (cleaned name) (lit (codes " no") refl)

texts_whole : (number : ℕ) (told : Told) → are_whole told.lines ≡ true → are_whole (told_texts number told) ≡ true
texts_whole number told whole = more_texts (screen_text number (told_words told.name told.verdict)) told.lines (screen_line number (words_line told.name told.verdict)).whole whole

stop_lines_whole : (one : Named) (several : Bool) (stop : Option Stop) → IsLayout one.layout → are_whole (stop_told one several stop).lines ≡ true
stop_lines_whole one several None law = refl
stop_lines_whole one several (Some stop) law = stop_whole one.layout.entries several stop (names_of_layout one.layout law)

kept_lines_whole : (one : Named) (turns : Option (List Kept)) → IsLayout one.layout → are_whole (kept_told one turns).lines ≡ true
kept_lines_whole one None law = refl
kept_lines_whole one (Some kept) law = stop_lines_whole one (are_several kept) (stop_of one.layout kept) law

layout_among : (all : List Named) (one : Named) → AreLayouts all → IsAmong one all → IsLayout one.layout
layout_among [] one laws among = absurd among
layout_among (first ∷ all) one laws (inl same) = subst (λ (n : Named). IsLayout n.layout) same laws.0
layout_among (first ∷ all) one laws (inr among) = layout_among all one laws.1 among

choice_whole : (v : Picture) (all : List Named) (choice : Option Named) (turns : Option (List Kept)) → AreLayouts all → Chooses v all choice
    → are_whole (chosen_told choice turns).lines ≡ true
choice_whole v all None turns laws chooses = refl
choice_whole v all (Some one) turns laws chooses = kept_lines_whole one turns (layout_among all one laws chooses.among)

pub reports_are_lines : ReportsAreLines
reports_are_lines layouts v turns number laws =
    texts_whole number (told_of layouts v turns) (choice_whole v layouts.all (chosen v layouts.all) turns laws (is_found v layouts.all))
