-- What actions do at a terminal.
use Rattle.std.proofs.Common.{◌≡◌, Bool, true, false, cond, not, ◌&&◌, List, [], ◌++◌, map, Option, Some, None, refl, sym, ap, ◌∙◌, subst}
use Rattle.std.specs.Prelude.{is_some, if◌then◌else◌}
use Rattle.std.proofs.lemmas.List.{append-nil}
use Rattle.script_keys.specs.declared.keys.Keys.{Keys}
use Rattle.script_keys.specs.declared.run.Run.{Run}
use Rattle.ds_screen.specs.Picture.{Picture}
use Rattle.script_keys.specs.Runs.{keys_of}
use Rattle.script_keys.specs.Steps.{runs_of}
use Rattle.tn_session.specs.declared.terminal_state.TerminalState.{TerminalState}
use Rattle.tn_session.specs.OneLog.{state_of}
use Rattle.tn_session.specs.Talk.{Talk, stands, starved}
use Rattle.tn_session.specs.TerminalTalk.{OfStanding}
use Rattle.cli_scripts.specs.declared.deed.Deed.{Deed}
use Rattle.cli_scripts.specs.declared.deed.Deed.TheVariants.{Pressed}
use Rattle.cli_scripts.specs.Acts.{PressesOnly, WorksKeys, keys_deeds, unconnected_deeds, is_reset}
use Rattle.cli_scripts.specs.Desks.{NamedHost, Worked, is_waiting}

-- what is made of a part of a session
pub of_part : {A B : Type 0} (talk : Talk TerminalState) (part : TerminalState → A) (make : A → B) (value : A) (made : B)
    → OfStanding part talk value → made ≡ make value → OfStanding (λ state. make (part state)) talk made
of_part (stands standing) part make value made is so = so ∙ ap make is
of_part starved part make value made is so = tt

-- the runs of an action on the screen that is shown
pub runs_pressed : (talk : Talk TerminalState) (it : Keys) (v : Picture) (runs : List Run) (old new : List Deed)
    → OfStanding (λ state. state.terminal) talk v → runs ≡ runs_of v it → new ≡ old ++ map Pressed (keys_of runs)
    → OfStanding (λ state. old ++ map Pressed (keys_of (runs_of state.terminal it))) talk new
runs_pressed talk it v runs old new shown is grows =
    of_part talk (λ state. state.terminal) (λ w. old ++ map Pressed (keys_of (runs_of w it))) v new shown
    (grows ∙ ap (λ z. old ++ map Pressed (keys_of z)) is)

pub no_host : (host : Option NamedHost) → is_some host ≡ false → host ≡ None
no_host None none = refl
no_host (Some host) none = absurd (subst (λ (b : Bool). cond b (Unit {0}) ⊥) none tt)

pub a_host : (host : Option NamedHost) → is_some host ≡ true → (it : NamedHost) × (host ≡ Some it)
a_host None some = absurd (subst (λ (b : Bool). cond b ⊥ (Unit {0})) some tt)
a_host (Some host) some = (host, refl)

-- without a host
pub pressed_alone : (talk : Talk TerminalState) (it : Keys) (host : Option NamedHost) (old new : List Deed) → is_some host ≡ false
    → new ≡ old ++ unconnected_deeds it → OfStanding (λ state. old ++ keys_deeds it host state) talk new
pressed_alone (stands standing) it host old new none grows =
    subst (λ (h : Option NamedHost). new ≡ old ++ keys_deeds it h (state_of standing)) (sym (no_host host none)) grows
pressed_alone starved it host old new none grows = tt

-- while the keyboard waits, or once it doesn't
choosing : (state : TerminalState) (it : Keys) (host : NamedHost) (test : Bool) (old new xs : List Deed)
    → is_waiting state.terminal.lock && not (is_reset it) ≡ test → new ≡ old ++ (if test then [] else map Pressed (keys_of (runs_of state.terminal it)))
    → new ≡ old ++ keys_deeds it (Some host) state
choosing state it host test old new xs is grows =
    subst (λ (t : Bool). new ≡ old ++ (if t then [] else map Pressed (keys_of (runs_of state.terminal it)))) (sym is) grows

pub pressed_later : (talk : Talk TerminalState) (it : Keys) (host : Option NamedHost) (waiting resets : Bool) (old new : List Deed)
    → is_some host ≡ true → OfStanding (λ state. is_waiting state.terminal.lock) talk waiting → resets ≡ is_reset it
    → waiting && not resets ≡ true → new ≡ old → OfStanding (λ state. old ++ keys_deeds it host state) talk new
pressed_later (stands standing) it host waiting resets old new some is so test same =
    let (found, it_is) = a_host host some in
    subst (λ (h : Option NamedHost). new ≡ old ++ keys_deeds it h (state_of standing)) (sym it_is)
    (choosing (state_of standing) it found true old new [] (ap (λ z. z && not (is_reset it)) (sym is) ∙ ap (λ z. waiting && not z) (sym so) ∙ test)
    (same ∙ sym (append-nil old)))
pressed_later starved it host waiting resets old new some is so test same = tt

pub pressed_now : (talk : Talk TerminalState) (it : Keys) (host : Option NamedHost) (waiting resets : Bool) (old new : List Deed)
    → is_some host ≡ true → OfStanding (λ state. is_waiting state.terminal.lock) talk waiting → resets ≡ is_reset it
    → waiting && not resets ≡ false → OfStanding (λ state. old ++ map Pressed (keys_of (runs_of state.terminal it))) talk new
    → OfStanding (λ state. old ++ keys_deeds it host state) talk new
pressed_now (stands standing) it host waiting resets old new some is so test grows =
    let (found, it_is) = a_host host some in
    subst (λ (h : Option NamedHost). new ≡ old ++ keys_deeds it h (state_of standing)) (sym it_is)
    (choosing (state_of standing) it found false old new [] (ap (λ z. z && not (is_reset it)) (sym is) ∙ ap (λ z. waiting && not z) (sym so) ∙ test) grows)
pressed_now starved it host waiting resets old new some is so test grows = tt

-- ---- what keys leave

pub works_alone : (host : Option NamedHost) (it : Keys) (old new : Worked) → is_some host ≡ false → WorksKeys None it old new → WorksKeys host it old new
works_alone host it old new none works = subst (λ (h : Option NamedHost). WorksKeys h it old new) (sym (no_host host none)) works

pub works_at : (host : Option NamedHost) (it : Keys) (old new : Worked) → is_some host ≡ true → PressesOnly old new → WorksKeys host it old new
works_at host it old new some only = subst (λ (h : Option NamedHost). WorksKeys h it old new) (sym (a_host host some).1) only
