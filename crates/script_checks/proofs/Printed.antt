-- The texts of Check as `check` and `talk` print them.
use Rattle.std.proofs.Common.{◌≡◌, ℕ, false, List, [], ◌∷◌, ◌++◌, map, codes, Option, Some, None, refl, sym, ◌∙◌, ap, append-nil, append_assoc}
use Rattle.std.specs.Prelude.{Result, Ok, Err}
use Rattle.std.specs.Fmt.{decimal}
use Rattle.std.specs.List.{flat_map}
use Rattle.std.proofs.lemmas.List.Concat.{flat_map-cons}
use Rattle.ds_screen.specs.Picture.{Picture}
use Rattle.scr_layout.specs.Entry.{Declared}
use Rattle.scr_layout.specs.Layout.{Declaration}
use Rattle.scr_check.specs.declared.finding.Demo.{Demo}
use Rattle.scr_check.specs.declared.finding.Finding.{Finding}
use Rattle.scr_check.specs.FindingText.{demo_of, finding_text}
use Rattle.scr_check.specs.Findings.{answer_of}
use Rattle.scr_check.specs.Opening.{opening_of}
use Rattle.scr_check.specs.Walk.{walk_of, stops_or, goes_on, walk_from}
use Rattle.cli_commands.specs.Check.{printed_verdict}
use Rattle.cli_commands.specs.DemoLines.{finding_lines, sends_on}
use Rattle.cli_commands.specs.Talk.{turn_lines}
use Rattle.script_checks.specs.Laws.{SaysWhatCheckPrints, SaysWhatTalkPrints}
use Rattle.script_checks.specs.Lines.{line_after, lines_after}
use Rattle.script_checks.specs.Said.{verdict_said}
use Rattle.script_checks.specs.Turns.{rounds_with, stop_of}
use Rattle.script_checks.proofs.Promised.{bytes_of, only_turn}

no_demo : (demo : Option Demo) → sends_on None demo ≡ []
no_demo None = refl
no_demo (Some demo) = refl

finding_line : (entries : List Declared) (finding : Finding) → finding_lines entries None finding ≡ line_after [] (finding_text entries finding)
finding_line entries finding =
    ap (λ more. (finding_text entries finding ++ codes "\n") ++ more) (no_demo (demo_of finding)) ∙ append-nil (finding_text entries finding ++ codes "\n")

lines_same : (entries : List Declared) (findings : List Finding) → lines_after [] (map (finding_text entries) findings) ≡ flat_map (finding_lines entries None) findings
lines_same entries [] = refl
lines_same entries (finding ∷ findings) =
    flat_map-cons (line_after []) (finding_text entries finding) (map (finding_text entries) findings)
    ∙ ap (λ text. text ++ lines_after [] (map (finding_text entries) findings)) (sym (finding_line entries finding))
    ∙ ap (λ text. finding_lines entries None finding ++ text) (lines_same entries findings)
    ∙ sym (flat_map-cons (finding_lines entries None) finding findings)

-- ---- one turn

verdict_lines : (entries : List Declared) (findings : List Finding)
    → lines_after [] (verdict_said entries false (stops_or 0 findings None)).texts ≡ (printed_verdict (finding_lines entries None) findings).text
verdict_lines entries [] = refl
verdict_lines entries (finding ∷ findings) = lines_same entries (finding ∷ findings)

-- a walk of one round ends with it
one_round : (layout : Declaration) (records : List (List ℕ)) → walk_of (rounds_with layout (records ∷ [])) ≡ stops_or 0 (answer_of layout records) None
unfolding walk_of walk_from
one_round layout records = by (opening_of layout records)
  where
    by : (r : Result Picture Finding) → stops_or 0 (answer_of layout records) (goes_on (λ v. None) r) ≡ stops_or 0 (answer_of layout records) None
    by (Ok v) = refl
    by (Err finding) = refl

pub says_what_check_prints : SaysWhatCheckPrints
says_what_check_prints layout kept single =
    let records : List (List ℕ) = map bytes_of kept in
    let stops : stop_of layout kept ≡ stops_or 0 (answer_of layout records) None = ap (λ turns. walk_of (rounds_with layout turns)) (only_turn kept single) ∙ one_round layout records in
    ap (λ several. lines_after [] (verdict_said layout.entries several (stop_of layout kept)).texts) single
    ∙ ap (λ stop. lines_after [] (verdict_said layout.entries false stop).texts) stops
    ∙ verdict_lines layout.entries (answer_of layout records)

-- ---- several

pub says_what_talk_prints : SaysWhatTalkPrints
says_what_talk_prints layouts layout stop is =
    let turn : List ℕ = codes "turn " ++ decimal stop.turn in
    let lines : List ℕ = lines_after [] (map (finding_text layout.entries) stop.findings) in
    flat_map-cons (line_after []) turn (map (finding_text layout.entries) stop.findings)
    ∙ append_assoc turn (codes "\n") lines
    ∙ append_assoc (codes "turn ") (decimal stop.turn) (codes "\n" ++ lines)
    ∙ ap (λ rest. codes "turn " ++ (decimal stop.turn ++ (codes "\n" ++ rest))) (lines_same layout.entries stop.findings ∙ sym (ap (λ found. turn_lines found stop.findings) is))
