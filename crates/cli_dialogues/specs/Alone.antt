-- The session of a terminal among others is what a session of its own is.
use Rattle.std.specs.Prelude.{ℕ, ◌≡◌, true, List, ◌++◌, Some}
use Rattle.session_hub.specs.declared.seat.Limits.{Limits}
use Rattle.session_hub.specs.Alone.{TakesInTurn, all_stay, pieces_in}
use Rattle.session_hub.specs.Hubs.{Own, LedAlone}
use Rattle.session_hub.specs.Seats.{Seated}
use Rattle.tn_session.specs.OneLog.{Standing}
use Rattle.tn_session.specs.Pieces.{TakesAll, whole_of}
use Rattle.tn_session.specs.Talk.{Talk, stands}
use Rattle.ds_codec.specs.Geometry.{Sizes}
use Rattle.tn_dialogue.specs.declared.screen.Screen.{Screen}
use Rattle.tn_dialogue.specs.Dialogue.{Running, dialogue_act}
use Rattle.tn_dialogue.specs.DialogueTalk.{dialogue_talk}
use Rattle.cli_dialogues.specs.Dialogues.{DialogueTakes}

-- Its session was given a front of the pieces that came, by calls, as a session of its own is; and what went out, and then what is
-- due, are what was due and what the session gave.
pub record IsDialogueAlone (came : List (List ℕ)) (old new : Seated (Talk Running)) : Type 0 where
  pub pieces : List (List ℕ)
  pub rest : List (List ℕ)
  pub given : List ℕ
  pub gone : List ℕ
  pub front : came ≡ pieces ++ rest
  pub taken : TakesAll dialogue_act old.session pieces given new.session
  pub due : old.due ++ given ≡ gone ++ new.due

abbrev pub DialoguesAreAlone : Type 0
DialoguesAreAlone =
    (limits : Limits) (owns : List (Own (Talk Running))) (old new : Seated (Talk Running))
    → all_stay owns ≡ true → LedAlone DialogueTakes limits owns (Some old) (Some new) → IsDialogueAlone (pieces_in owns) old new

-- two sessions that began alike and were given the same bytes, cut in any two ways
abbrev pub HostedDialoguesAgree : Type 0
HostedDialoguesAgree =
    (screens : List Screen) (first : ℕ) (sizes : Sizes) (pieces others : List (List ℕ)) (given more : List ℕ) (new other : Talk Running) (standing late : Standing Running)
    → TakesInTurn DialogueTakes (dialogue_talk screens first sizes) pieces given new
    → TakesInTurn DialogueTakes (dialogue_talk screens first sizes) others more other
    → whole_of pieces ≡ whole_of others → new ≡ stands standing → other ≡ stands late
    → (given ≡ more) × (standing ≡ late)
