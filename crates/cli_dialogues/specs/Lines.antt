-- The lines of a terminal that was led through screens.
use Rattle.std.specs.Prelude.{ℕ, ◌≡◌, true, false, List, ◌++◌, Option, Some, None, Result, Ok, Err}
use Rattle.std.specs.List.{flat_map}
use Rattle.cli_commands.specs.declared.status.Status.{Status}
use Rattle.cli_commands.specs.declared.status.Status.TheVariants.{NoMemory, Failed as HasFailed}
use Rattle.session_hub.specs.declared.hub.Ended.{Ended}
use Rattle.cli_sessions.specs.Printing.{Printing}
use Rattle.tn_dialogue.specs.Dialogue.{Running}
use Rattle.tn_dialogue.specs.DialogueTalk.{answers_in, fault_in, is_done}
use Rattle.tn_session.specs.Talk.{Talk}
use Rattle.cli_hosts.specs.declared.settling.Settled.{Settled}
use Rattle.cli_hosts.specs.Writing.{Writes}
use Rattle.cli_dialogues.specs.declared.last.Last.{Last}
use Rattle.cli_dialogues.specs.Answers.{answered_lines}
use Rattle.cli_dialogues.specs.Applications.{Offered}
use Rattle.cli_dialogues.specs.Lasts.{last_of, last_line, settled_by}

-- its answers in turn, and then what ended it
abbrev pub dialogue_lines : Offered → ℕ → List (ℕ × List ℕ) → Last → List ℕ
dialogue_lines offered number answers last = flat_map (answered_lines offered number) answers ++ last_line number last

abbrev pub last_ended : Ended (Talk Running) → Last
last_ended ended = last_of (fault_in ended.session) (is_done ended.session) ended.end

abbrev pub ended_lines : Offered → Ended (Talk Running) → List ℕ
ended_lines offered ended = dialogue_lines offered ended.number (answers_in ended.session) (last_ended ended)

-- the lines of a terminal that ended were written; or memory was refused for them, and none is; or a write failed
abbrev pub PrintsDialogue : Offered → Ended (Talk Running) → Printing → Printing → Result Settled Status → Type 0
PrintsDialogue offered ended old new (Ok settled) = Writes old new (ended_lines offered ended) true × (settled ≡ settled_by (last_ended ended))
PrintsDialogue offered ended old new (Err NoMemory) = new ≡ old
PrintsDialogue offered ended old new (Err HasFailed) = Writes old new (ended_lines offered ended) false
PrintsDialogue offered ended old new (Err status) = ⊥

-- nothing is written of a terminal that is not there, or goes on
abbrev pub SettlesDialogue : Offered → Option (Ended (Talk Running)) → Printing → Printing → Result (Option Settled) Status → Type 0
SettlesDialogue offered None old new result = (result ≡ Ok None) × (new ≡ old)
SettlesDialogue offered (Some ended) old new (Ok (Some settled)) = PrintsDialogue offered ended old new (Ok settled)
SettlesDialogue offered (Some ended) old new (Ok None) = ⊥
SettlesDialogue offered (Some ended) old new (Err status) = PrintsDialogue offered ended old new (Err status)

-- what may be printed of the terminal of a number, where this became of it
abbrev pub IsToldDialogue : Offered → ℕ → Settled → List ℕ → Type 0
IsToldDialogue offered number settled text =
    (answers : List (ℕ × List ℕ)) × (last : Last) × (text ≡ dialogue_lines offered number answers last) × (settled ≡ settled_by last)
