-- What is told of one terminal, as any hosts tell it.
use Rattle.std.proofs.Common.{◌≡◌, Option, Some, None, Result, Ok, Err, refl, sym, subst}
use Rattle.cli_commands.specs.declared.status.Status.{Status}
use Rattle.cli_commands.specs.declared.status.Status.TheVariants.{Done, Findings, BadInput, Failed, NoMemory}
use Rattle.cli_sessions.specs.Printing.{Printing}
use Rattle.session_hub.specs.declared.hub.Ended.{Ended}
use Rattle.tn_session.specs.Talk.{Talk}
use Rattle.tn_dialogue.specs.Dialogue.{Running}
use Rattle.tn_dialogue.specs.DialogueTalk.{answers_in}
use Rattle.cli_hosts.specs.declared.settling.Settled.{Settled}
use Rattle.cli_hosts.specs.Hosts.{TellsOne, SettlesOne}
use Rattle.cli_dialogues.specs.Applications.{Offered}
use Rattle.cli_dialogues.specs.Lasts.{settled_by}
use Rattle.cli_dialogues.specs.Lines.{IsToldDialogue, SettlesDialogue, ended_lines, last_ended}

pub tells_one : (offered : Offered) (ended : Option (Ended (Talk Running))) (old new : Printing) (result : Result (Option Settled) Status)
    → SettlesDialogue offered ended old new result → TellsOne (IsToldDialogue offered) old new result
tells_one offered None old new result (is, same) = subst (TellsOne (IsToldDialogue offered) old new) (sym is) same
tells_one offered (Some ended) old new (Ok (Some settled)) (written, is) =
    (ended.number, ended_lines offered ended, (answers_in ended.session, last_ended ended, refl, is), written)
tells_one offered (Some ended) old new (Ok None) printed = absurd printed
tells_one offered (Some ended) old new (Err NoMemory) same = same
tells_one offered (Some ended) old new (Err Failed) part =
    (ended.number, settled_by (last_ended ended), ended_lines offered ended, (answers_in ended.session, last_ended ended, refl, refl), part)
tells_one offered (Some ended) old new (Err Done) printed = absurd printed
tells_one offered (Some ended) old new (Err Findings) printed = absurd printed
tells_one offered (Some ended) old new (Err BadInput) printed = absurd printed

pub settles_one : (offered : Offered) (ended : Option (Ended (Talk Running))) (old new : Printing) (result : Result (Option Settled) Status)
    → SettlesDialogue offered ended old new result → SettlesOne ended result
settles_one offered None old new result (is, same) = is
settles_one offered (Some ended) old new (Ok (Some settled)) printed = tt
settles_one offered (Some ended) old new (Ok None) printed = printed
settles_one offered (Some ended) old new (Err status) printed = tt
