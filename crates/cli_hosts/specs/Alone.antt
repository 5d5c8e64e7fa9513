-- The session of a terminal among others is what a session of its own is.
use Rattle.std.specs.Prelude.{ℕ, ◌≡◌, true, List, ◌++◌, Some}
use Rattle.scr_layout.specs.Layout.{Declaration}
use Rattle.session_hub.specs.declared.seat.Limits.{Limits}
use Rattle.session_hub.specs.Alone.{TakesInTurn, all_stay, pieces_in}
use Rattle.session_hub.specs.Hubs.{Own, LedAlone}
use Rattle.session_hub.specs.Seats.{Seated}
use Rattle.tn_session.specs.HostLog.{HostRunning, host_act}
use Rattle.tn_session.specs.HostTalk.{host_talk}
use Rattle.tn_session.specs.OneLog.{Standing}
use Rattle.tn_session.specs.Pieces.{TakesAll, whole_of}
use Rattle.tn_session.specs.Talk.{stands}
use Rattle.cli_hosts.specs.Hosting.{Hosting, HostTakes, hosting}

-- Its session was given a front of the pieces that came, by calls, as a session of its own is; and what went out, and then what is
-- due, are what was due and what the session gave.
pub record IsHostAlone (came : List (List ℕ)) (old new : Seated Hosting) : Type 0 where
  pub pieces : List (List ℕ)
  pub rest : List (List ℕ)
  pub given : List ℕ
  pub gone : List ℕ
  pub front : came ≡ pieces ++ rest
  pub taken : TakesAll host_act old.session.talk pieces given new.session.talk
  pub due : old.due ++ given ≡ gone ++ new.due

abbrev pub HostsAreAlone : Type 0
HostsAreAlone =
    (limits : Limits) (owns : List (Own Hosting)) (old new : Seated Hosting)
    → all_stay owns ≡ true → LedAlone HostTakes limits owns (Some old) (Some new) → IsHostAlone (pieces_in owns) old new

-- two sessions that began alike and were given the same bytes, cut in any two ways
abbrev pub HostsAgree : Type 0
HostsAgree =
    (layout : Declaration) (records pieces others : List (List ℕ)) (given more : List ℕ) (new other : Hosting) (standing late : Standing HostRunning)
    → TakesInTurn HostTakes (hosting (host_talk layout records true true)) pieces given new
    → TakesInTurn HostTakes (hosting (host_talk layout records true true)) others more other
    → whole_of pieces ≡ whole_of others → new.talk ≡ stands standing → other.talk ≡ stands late
    → (given ≡ more) × (standing ≡ late)
