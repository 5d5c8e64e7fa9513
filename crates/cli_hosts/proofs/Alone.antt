-- What a hub's session takes in turn is what a session of its own takes.
use Rattle.std.proofs.Common.{◌≡◌, ℕ, List, [], ◌∷◌, ◌++◌, Some, true, refl, sym, ap, ◌∙◌, subst}
use Rattle.scr_layout.specs.Layout.{Declaration}
use Rattle.session_hub.specs.Alone.{TakesInTurn, IsItsOwn, SessionsAreTheirOwn}
use Rattle.session_hub.specs.Seats.{Seated}
use Rattle.tn_session.specs.HostLog.{HostRunning, host_act, host_start}
use Rattle.tn_session.specs.HostTalk.{host_talk}
use Rattle.tn_session.specs.OneLog.{Standing}
use Rattle.tn_session.specs.Pieces.{TakesAll, whole_of, CutsAgree}
use Rattle.tn_session.specs.Talk.{Talk, stands}
use Rattle.cli_hosts.specs.Hosting.{Hosting, HostTakes, hosting}
use Rattle.cli_hosts.specs.Alone.{IsHostAlone, HostsAreAlone, HostsAgree}

takes_all : (old : Hosting) (pieces : List (List ℕ)) (given : List ℕ) (new : Hosting) → TakesInTurn HostTakes old pieces given new → TakesAll host_act old.talk pieces given new.talk
takes_all old [] given new (none, same) = (none, ap (λ (h : Hosting). h.talk) same)
takes_all old (piece ∷ pieces) given new (came, first, mid, rest, takes, then_on, is) =
    (takes.result, first, mid.talk, rest, takes.took, takes_all mid pieces rest new then_on, is)

pub hosts_alone : SessionsAreTheirOwn HostTakes → HostsAreAlone
hosts_alone law limits owns old new s led =
    let own = law limits owns old new s led in
    record {
      pieces = own.pieces;
      rest = own.rest;
      given = own.given;
      gone = own.gone;
      front = own.front;
      taken = takes_all old.session own.pieces own.given new.session own.taken;
      due = own.due;
    }

pub hosts_agree : CutsAgree HostRunning → HostsAgree
hosts_agree law layout records pieces others given more new other standing late takes then_takes same is was =
    law host_act (host_start layout records true true) pieces others given more standing late same
    (subst (λ t. TakesAll host_act (host_talk layout records true true) pieces given t) is (takes_all (hosting (host_talk layout records true true)) pieces given new takes))
    (subst (λ t. TakesAll host_act (host_talk layout records true true) others more t) was (takes_all (hosting (host_talk layout records true true)) others more other then_takes))
