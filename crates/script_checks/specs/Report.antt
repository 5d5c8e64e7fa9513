-- What is reported of the screens of a session, each once.
use Rattle.std.specs.Prelude.{ℕ, ◌+◌, ◌-◌, Bool, true, false, not, ◌&&◌, ◌||◌, nat_le, nat_lt, min, List, [], ◌∷◌, ◌++◌, length, Option, Some, None, if◌then◌else◌}
use Rattle.std.specs.List.{list_any}
use Rattle.std.specs.Str.{bytes_eq}
use Rattle.ds_screen.specs.Picture.{Picture}
use Rattle.tn_session.specs.Kept.{Kept}
use Rattle.script_checks.specs.declared.form.ReportFormat.{ReportFormat}
use Rattle.script_checks.specs.declared.form.Totals.{Totals}
use Rattle.script_checks.specs.declared.told.Verdict.{Verdict}
use Rattle.script_checks.specs.declared.told.Verdict.TheVariants.{NoLayout, NotKept, Yes, No}
use Rattle.script_checks.specs.Forms.{no_totals, counted_in, due_at_once, due_later}
use Rattle.script_checks.specs.Named.{Listed}
use Rattle.script_checks.specs.Told.{Told, told_of}

-- what a judge keeps: the turns of screens that it knows again, and for how many bytes more it has room; how many screens it
-- judged, and whether something stands against one
pub record Judging : Type 0 where
  pub layouts : Listed
  pub known : List (List Kept)
  pub room : ℕ
  pub screens : ℕ
  pub has_findings : Bool
  pub format : ReportFormat
  pub totals : Totals
  pub cases : List ℕ

abbrev pub nothing_judged : Listed → ReportFormat → Judging
nothing_judged layouts format =
    record { layouts = layouts; known = []; room = 8388608; screens = 0; has_findings = false; format = format; totals = no_totals; cases = [] }

abbrev pub are_both : Bool → Bool → Bool
are_both true other = other
are_both false other = not other

abbrev pub is_same : Kept → Kept → Bool
is_same one other = are_both one.begins_turn other.begins_turn && bytes_eq one.bytes other.bytes

-- the same records, parted into the same turns
abbrev pub are_same : List Kept → List Kept → Bool
are_same [] [] = true
are_same [] (other ∷ others) = false
are_same (one ∷ kept) [] = false
are_same (one ∷ kept) (other ∷ others) = is_same one other && are_same kept others

abbrev pub is_known : List (List Kept) → Option (List Kept) → Bool
is_known known None = false
is_known known (Some kept) = list_any (are_same kept) known

-- the room that the bytes of the records leave, if there is enough
abbrev pub room_after : ℕ → List Kept → Option ℕ
room_after room [] = Some room
room_after room (kept ∷ others) = if nat_le (length kept.bytes) room then room_after (room - length kept.bytes) others else None

abbrev pub with_known : Judging → List Kept → Option ℕ → Judging
with_known judging kept None = judging
with_known judging kept (Some room) = record judging { known = judging.known ++ kept ∷ []; room = room }

-- up to 1,000 screens and 8,388,608 bytes are known again
abbrev pub room_for : Judging → List Kept → Option ℕ
room_for judging kept = if nat_lt (length judging.known) 1000 then room_after judging.room kept else None

abbrev pub knowing : Judging → Option (List Kept) → Judging
knowing judging None = judging
knowing judging (Some kept) = with_known judging kept (room_for judging kept)

-- numbers end at 18,446,744,073,709,551,615
abbrev pub next_number : ℕ → ℕ
next_number number = min (number + 1) 18446744073709551615

abbrev pub is_no : Verdict → Bool
is_no NoLayout = false
is_no NotKept = false
is_no Yes = false
is_no No = true

-- the judge after one screen more, of which this is told
abbrev pub told_to : Judging → Told → Judging
told_to judging told = record judging {
  screens = next_number judging.screens;
  has_findings = judging.has_findings || is_no told.verdict;
  totals = counted_in judging.totals told told.verdict;
  cases = judging.cases ++ due_later judging.format (next_number judging.screens) told;
}

-- a screen whose turns are known is not judged again
abbrev pub report_due : Judging → Picture → Option (List Kept) → List ℕ
report_due judging v turns =
    if is_known judging.known turns then [] else due_at_once judging.format (next_number judging.screens) (told_of judging.layouts v turns)

abbrev pub judging_after : Judging → Picture → Option (List Kept) → Judging
judging_after judging v turns =
    if is_known judging.known turns then judging else knowing (told_to judging (told_of judging.layouts v turns)) turns
