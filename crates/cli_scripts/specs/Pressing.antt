-- What keys do to a session and to its terminal, one after the other.
use Rattle.std.specs.Prelude.{ℕ, Bool, true, false, ◌||◌, List, [], ◌∷◌, ◌++◌}
use Rattle.ds_keys.specs.declared.key.Key.{Key}
use Rattle.tn_session.specs.declared.pressed.Pressed.{Pressed}
use Rattle.tn_session.specs.declared.pressed.Pressed.TheVariants.{Done, Inhibited, Ignored, Sent}
use Rattle.tn_session.specs.declared.terminal_state.TerminalState.{TerminalState}
use Rattle.tn_session.specs.OneLog.{waits}
use Rattle.tn_session.specs.Strikes.{by_key}
use Rattle.tn_session.specs.Talk.{Talk, stands}
use Rattle.tn_session.specs.TerminalTalk.{worked}
use Rattle.cli_scripts.specs.declared.deed.Deed.TheVariants.{Pressed as PressedKey}
use Rattle.cli_scripts.specs.Desks.{Worked}
use Rattle.cli_scripts.specs.SentOn.{sent_on, collected}

-- a session that failed stays as it is
abbrev pub after_key : Talk TerminalState → Key → Talk TerminalState
after_key (stands (waits state left)) key = stands (waits (worked state (by_key key)).state left)
after_key talk key = talk

-- and ignores a key
abbrev pub answer_to : Talk TerminalState → Key → Pressed
answer_to (stands (waits state left)) key = (worked state (by_key key)).answer
answer_to talk key = Ignored

abbrev pub is_inhibited : Pressed → Bool
is_inhibited Inhibited = true
is_inhibited Done = false
is_inhibited Ignored = false
is_inhibited Sent = false

-- the session after keys
abbrev pub after_keys : Talk TerminalState → List Key → Talk TerminalState
after_keys talk [] = talk
after_keys talk (key ∷ keys) = after_keys (after_key talk key) keys

-- one of them was inhibited
abbrev pub any_inhibited : Talk TerminalState → List Key → Bool
any_inhibited talk [] = false
any_inhibited talk (key ∷ keys) = is_inhibited (answer_to talk key) || any_inhibited (after_key talk key) keys

-- ---- at a terminal

-- the bytes that are due for a key
abbrev pub due_for : Talk TerminalState → Key → List ℕ
due_for (stands (waits state left)) key = (worked state (by_key key)).due
due_for talk key = []

-- All that a key changes: the session, what was done, what is due, and, where they are collected, the screens on which keys sent.
abbrev pub typed_at : Worked → Key → Worked
typed_at w key = record w {
  talk = after_key w.talk key;
  deeds = w.deeds ++ PressedKey key ∷ [];
  due = w.due ++ due_for w.talk key;
  unjudged = w.unjudged ++ collected w.collects (sent_on key w.talk);
}

abbrev pub all_typed_at : Worked → List Key → Worked
all_typed_at w [] = w
all_typed_at w (key ∷ keys) = all_typed_at (typed_at w key) keys
