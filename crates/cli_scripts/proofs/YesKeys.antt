-- The keys of a script are a run of keys of the profile.
use Rattle.std.proofs.Common.{◌≡◌, ℕ, true, List, [], ◌∷◌, Option, Some, None, refl, sym, ap, ◌∙◌, subst}
use Rattle.std.specs.Prelude.{is_some}
use Rattle.ds_keys.specs.declared.key.Key.{Key}
use Rattle.ds_keys.specs.KeyRuns as keyed
use Rattle.ds_screen.specs.Picture.{Picture}
use Rattle.ds_terminal.specs.Terminal.{KeyReply, done, inhibited, ignored, sent}
use Rattle.tn_cores.specs.declared.session.Agreed.{Agreed}
use Rattle.tn_session.specs.declared.terminal_state.TerminalState.{TerminalState}
use Rattle.tn_session.specs.EndCores.{core_agreed}
use Rattle.tn_session.specs.OneLog.{waits, is_over, has_failed, is_at_fault}
use Rattle.tn_session.specs.Strikes.{by_key, strike_aid, struck_by}
use Rattle.tn_session.specs.Talk.{Talk, stands, starved}
use Rattle.tn_session.specs.TerminalLog.{after_key, key_replied, operator_at}
use Rattle.tn_session.specs.TerminalTalk.{OfStanding, agreed_in, worked, worked_under}
use Rattle.cli_scripts.specs.Desks.{Shows, Worked}
use Rattle.cli_scripts.specs.Pressing.{after_keys}
use Rattle.cli_scripts.specs.RunLaws.{YesHolds}
use Rattle.cli_scripts.proofs.Typed.{typed_deeds, typed_keeps, typed_talk}

-- an answer changes neither the screen nor what was agreed on
replied_screen : (agreed : Agreed) (state : TerminalState) (reply : KeyReply) → (key_replied agreed state reply).state.terminal ≡ state.terminal
replied_screen agreed state done = refl
replied_screen agreed state inhibited = refl
replied_screen agreed state ignored = refl
replied_screen agreed state (sent bytes) = refl

replied_core : (agreed : Agreed) (state : TerminalState) (reply : KeyReply) → (key_replied agreed state reply).state.core ≡ state.core
replied_core agreed state done = refl
replied_core agreed state inhibited = refl
replied_core agreed state ignored = refl
replied_core agreed state (sent bytes) = refl

one_screen : (agreed : Option Agreed) (state : TerminalState) (key : Key) → is_some agreed ≡ true
    → (worked_under agreed state (by_key key)).state.terminal ≡ keyed.after_key state.terminal key
one_screen None state key some = absurd cc
one_screen (Some agreed) state key some =
    let struck = struck_by (by_key key) (operator_at state) in replied_screen agreed (after_key state (strike_aid (by_key key)) struck) struck.turn.reply

one_core : (agreed : Option Agreed) (state : TerminalState) (key : Key) → (worked_under agreed state (by_key key)).state.core ≡ state.core
one_core None state key = refl
one_core (Some agreed) state key =
    let struck = struck_by (by_key key) (operator_at state) in replied_core agreed (after_key state (strike_aid (by_key key)) struck) struck.turn.reply

keys_screen : (state : TerminalState) (left : List ℕ) (keys : List Key) → is_some (core_agreed state.core) ≡ true
    → OfStanding (λ (s : TerminalState). s.terminal) (after_keys (stands (waits state left)) keys) (keyed.after state.terminal keys)
unfolding keyed.after
keys_screen state left [] some = refl
keys_screen state left (key ∷ keys) some =
    let next = (worked state (by_key key)).state in
    subst (λ (v : Picture). OfStanding (λ (s : TerminalState). s.terminal) (after_keys (stands (waits next left)) keys) (keyed.after v keys))
    (one_screen (core_agreed state.core) state key some)
    (keys_screen next left keys (ap (λ c. is_some (core_agreed c)) (one_core (core_agreed state.core) state key) ∙ some))

keys_shown : (talk : Talk TerminalState) (v : Picture) (keys : List Key) → is_some (agreed_in talk) ≡ true → OfStanding (λ (s : TerminalState). s.terminal) talk v
    → OfStanding (λ (s : TerminalState). s.terminal) (after_keys talk keys) (keyed.after v keys)
keys_shown (stands (waits state left)) v keys some shown =
    subst (λ (p : Picture). OfStanding (λ (s : TerminalState). s.terminal) (after_keys (stands (waits state left)) keys) (keyed.after p keys)) (sym shown)
    (keys_screen state left keys some)
keys_shown (stands (is_over end)) v keys some shown = absurd cc
keys_shown (stands (has_failed why end)) v keys some shown = absurd cc
keys_shown (stands (is_at_fault fault end)) v keys some shown = absurd cc
keys_shown starved v keys some shown = absurd cc

pub yes_holds : YesHolds
yes_holds layout opened old new promise (typed, is) some shown = (
  typed,
  ap (λ (w : Worked). w.deeds) is ∙ typed_deeds old typed,
  subst (λ (w : Worked). Shows w (keyed.after opened typed)) (sym is)
      (subst (λ (t : Talk TerminalState). OfStanding (λ s. s.terminal) t (keyed.after opened typed)) (sym (typed_talk old typed)) (keys_shown old.talk opened typed some shown)),
  ap (λ (w : Worked). w.host) is ∙ typed_keeps (λ (w : Worked). w.host) (λ v key. refl) old typed,
  promise typed,
)
