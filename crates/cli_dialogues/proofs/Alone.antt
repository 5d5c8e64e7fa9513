-- What a hub's session takes in turn is what a session of its own takes.
use Rattle.std.proofs.Common.{◌≡◌, ℕ, List, [], ◌∷◌, ◌++◌, Some, true, refl, sym, ap, ◌∙◌, subst}
use Rattle.ds_codec.specs.Geometry.{Sizes}
use Rattle.session_hub.specs.Alone.{TakesInTurn, IsItsOwn, SessionsAreTheirOwn}
use Rattle.session_hub.specs.Seats.{Seated}
use Rattle.tn_session.specs.OneLog.{Standing}
use Rattle.tn_session.specs.Pieces.{TakesAll, whole_of, CutsAgree}
use Rattle.tn_session.specs.Talk.{Talk, stands}
use Rattle.tn_dialogue.specs.Dialogue.{Running, dialogue_act, dialogue_start}
use Rattle.tn_dialogue.specs.DialogueTalk.{dialogue_talk}
use Rattle.cli_dialogues.specs.Dialogues.{DialogueTakes}
use Rattle.cli_dialogues.specs.Alone.{IsDialogueAlone, DialoguesAreAlone, HostedDialoguesAgree}

takes_all : (old : Talk Running) (pieces : List (List ℕ)) (given : List ℕ) (new : Talk Running) → TakesInTurn DialogueTakes old pieces given new → TakesAll dialogue_act old pieces given new
takes_all old [] given new (none, same) = (none, same)
takes_all old (piece ∷ pieces) given new (came, first, mid, rest, takes, then_on, is) =
    (takes.result, first, mid, rest, takes.took, takes_all mid pieces rest new then_on, is)

pub dialogues_alone : SessionsAreTheirOwn DialogueTakes → DialoguesAreAlone
dialogues_alone law limits owns old new s led =
    let own = law limits owns old new s led in
    record {
      pieces = own.pieces;
      rest = own.rest;
      given = own.given;
      gone = own.gone;
      front = own.front;
      taken = takes_all old.session own.pieces own.given new.session own.taken;
      due = own.due;
    }

pub dialogues_agree : CutsAgree Running → HostedDialoguesAgree
dialogues_agree law screens first sizes pieces others given more new other standing late takes then_takes same is was =
    law dialogue_act (dialogue_start screens first sizes) pieces others given more standing late same
    (subst (λ t. TakesAll dialogue_act (dialogue_talk screens first sizes) pieces given t) is (takes_all (dialogue_talk screens first sizes) pieces given new takes))
    (subst (λ t. TakesAll dialogue_act (dialogue_talk screens first sizes) others more t) was (takes_all (dialogue_talk screens first sizes) others more other then_takes))
