-- What actions say that press keys.
use Rattle.std.proofs.Common.{◌≡◌, ℕ, Bool, true, false, not, ◌&&◌, List, [], ◌∷◌, Option, sym, ap, ◌∙◌, subst}
use Rattle.std.specs.Prelude.{is_some}
use Rattle.ds_keys.specs.declared.key.Key.{Key}
use Rattle.ds_screen.specs.Picture.{Picture}
use Rattle.script_keys.specs.declared.keys.Keys.{Keys}
use Rattle.script_keys.specs.declared.run.Run.{Run}
use Rattle.script_keys.specs.Runs.{keys_of}
use Rattle.script_keys.specs.Steps.{runs_of}
use Rattle.tn_session.specs.declared.terminal_state.TerminalState.{TerminalState}
use Rattle.tn_session.specs.OneLog.{waits, is_over, has_failed, is_at_fault}
use Rattle.tn_session.specs.Strikes.{by_key}
use Rattle.tn_session.specs.Talk.{Talk, stands, starved}
use Rattle.tn_session.specs.TerminalTalk.{OfStanding, worked}
use Rattle.cli_scripts.specs.declared.doing.Step.{Step}
use Rattle.cli_scripts.specs.Acts.{is_reset}
use Rattle.cli_scripts.specs.Desks.{NamedHost, is_waiting}
use Rattle.cli_scripts.specs.Keying.{OnWaiting, waits_in, EndsKeys, PressedSo, PressesSo, SaysKeys}
use Rattle.cli_scripts.specs.Pressing.{after_keys, any_inhibited}
use Rattle.cli_scripts.proofs.ActLaws.{no_host, a_host}

-- what holds at the screen that is shown
pub on_waiting : (talk : Talk TerminalState) (P : Picture → Type 0) (v : Picture) → OfStanding (λ state. state.terminal) talk v → P v
    → OnWaiting talk (λ state. P state.terminal)
on_waiting (stands (waits state left)) P v shown holds = subst P shown holds
on_waiting (stands (is_over end)) P v shown holds = tt
on_waiting (stands (has_failed why end)) P v shown holds = tt
on_waiting (stands (is_at_fault fault end)) P v shown holds = tt
on_waiting starved P v shown holds = tt

-- a session that waits does so after keys
still_waits : (state : TerminalState) (left : List ℕ) (keys : List Key) (b : Bool)
    → OfStanding (λ s. is_waiting s.terminal.lock) (after_keys (stands (waits state left)) keys) b → b ≡ waits_in (after_keys (stands (waits state left)) keys)
still_waits state left [] b is = is
still_waits state left (key ∷ keys) b is = still_waits (worked state (by_key key)).state left keys b is

pub keys_stop : (talk : Talk TerminalState) (it : Keys) (v : Picture) (runs : List Run) (inhibited : Bool) (step : Step) (before after : List ℕ)
    → OfStanding (λ state. state.terminal) talk v → runs ≡ runs_of v it → inhibited ≡ any_inhibited talk (keys_of runs) → inhibited ≡ true
    → EndsKeys true false step before after → OnWaiting talk (λ state. PressedSo it talk state step before after)
keys_stop talk it v runs inhibited step before after shown is so stopped said =
    on_waiting talk
    (λ w. EndsKeys (any_inhibited talk (keys_of (runs_of w it))) (waits_in (after_keys talk (keys_of (runs_of w it))) && not (is_reset it)) step before after) v shown
    (subst (λ b. EndsKeys b (waits_in (after_keys talk (keys_of (runs_of v it))) && not (is_reset it)) step before after)
    (sym (ap (λ r. any_inhibited talk (keys_of r)) (sym is) ∙ sym so ∙ stopped)) said)

pub keys_end : (talk : Talk TerminalState) (it : Keys) (v : Picture) (runs : List Run) (new : Talk TerminalState) (inhibited b t : Bool) (step : Step) (before after : List ℕ)
    → OfStanding (λ state. state.terminal) talk v → runs ≡ runs_of v it → inhibited ≡ any_inhibited talk (keys_of runs) → inhibited ≡ false
    → new ≡ after_keys talk (keys_of runs) → OfStanding (λ state. is_waiting state.terminal.lock) new b → b && not (is_reset it) ≡ t
    → EndsKeys false t step before after → OnWaiting talk (λ state. PressedSo it talk state step before after)
keys_end (stands (waits state left)) it v runs new inhibited b t step before after shown is so went grows here test ends =
    let talk : Talk TerminalState = stands (waits state left) in
    let same : runs ≡ runs_of state.terminal it = is ∙ ap (λ (w : Picture). runs_of w it) shown in
    let none : any_inhibited talk (keys_of (runs_of state.terminal it)) ≡ false = ap (λ r. any_inhibited talk (keys_of r)) (sym same) ∙ sym so ∙ went in
    let then : after_keys talk (keys_of runs) ≡ after_keys talk (keys_of (runs_of state.terminal it)) = ap (λ r. after_keys talk (keys_of r)) same in
    let waiting : b ≡ waits_in (after_keys talk (keys_of runs)) =
    still_waits state left (keys_of runs) b (subst (λ (z : Talk TerminalState). OfStanding (λ s. is_waiting s.terminal.lock) z b) grows here) in
    let asked : (waits_in (after_keys talk (keys_of (runs_of state.terminal it))) && not (is_reset it)) ≡ t =
    ap (λ z. waits_in z && not (is_reset it)) (sym then) ∙ ap (λ z. z && not (is_reset it)) (sym waiting) ∙ test in
    subst (λ z. EndsKeys z (waits_in (after_keys talk (keys_of (runs_of state.terminal it))) && not (is_reset it)) step before after) (sym none)
    (subst (λ z. EndsKeys false z step before after) (sym asked) ends)
keys_end (stands (is_over end)) it v runs new inhibited b t step before after shown is so went grows here test ends = tt
keys_end (stands (has_failed why end)) it v runs new inhibited b t step before after shown is so went grows here test ends = tt
keys_end (stands (is_at_fault fault end)) it v runs new inhibited b t step before after shown is so went grows here test ends = tt
keys_end starved it v runs new inhibited b t step before after shown is so went grows here test ends = tt

-- without a host
pub says_alone : (it : Keys) (host : Option NamedHost) (talk : Talk TerminalState) (step : Step) (before after : List ℕ) → is_some host ≡ false
    → EndsKeys false false step before after → SaysKeys it host talk step before after
says_alone it host talk step before after none ends =
    subst (λ (h : Option NamedHost). SaysKeys it h talk step before after) (sym (no_host host none)) ends

-- at a host
pub says_waiting : (it : Keys) (host : Option NamedHost) (talk : Talk TerminalState) (b t : Bool) (step : Step) (before after : List ℕ) → is_some host ≡ true
    → OfStanding (λ state. is_waiting state.terminal.lock) talk b → b && not (is_reset it) ≡ t
    → OnWaiting talk (λ state. PressesSo t it talk state step before after) → SaysKeys it host talk step before after
says_waiting it host talk b t step before after some here test holds =
    subst (λ (h : Option NamedHost). SaysKeys it h talk step before after) (sym (a_host host some).1) (chosen talk b t here test holds)
  where
    chosen : (z : Talk TerminalState) (c u : Bool) → OfStanding (λ state. is_waiting state.terminal.lock) z c → c && not (is_reset it) ≡ u
        → OnWaiting z (λ state. PressesSo u it talk state step before after)
        → OnWaiting z (λ state. PressesSo (is_waiting state.terminal.lock && not (is_reset it)) it talk state step before after)
    chosen (stands (waits state left)) c u is so now =
        subst (λ k. PressesSo k it talk state step before after) (sym (ap (λ k. k && not (is_reset it)) (sym is) ∙ so)) now
    chosen (stands (is_over end)) c u is so now = tt
    chosen (stands (has_failed why end)) c u is so now = tt
    chosen (stands (is_at_fault fault end)) c u is so now = tt
    chosen starved c u is so now = tt
