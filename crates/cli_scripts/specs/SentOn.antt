-- Screens on which keys send.
use Rattle.std.specs.Prelude.{◌==◌, Bool, true, false, not, ◌&&◌, is_some, List, [], ◌∷◌, Option, if◌then◌else◌}
use Rattle.ds_keys.specs.declared.key.Key.{Key}
use Rattle.ds_keys.specs.declared.key.Key.TheVariants.{Attention}
use Rattle.ds_screen.specs.declared.lock.Lock.{Lock}
use Rattle.ds_screen.specs.declared.lock.Lock.TheVariants.{Free, Waiting, Error}
use Rattle.ds_screen.specs.Picture.{Picture}
use Rattle.tn_session.specs.declared.terminal_state.TerminalState.{TerminalState}
use Rattle.tn_session.specs.EndCores.{core_agreed}
use Rattle.tn_session.specs.Kept.{Kept}
use Rattle.tn_session.specs.OneLog.{waits}
use Rattle.tn_session.specs.Talk.{Talk, stands}
use Rattle.tn_session.specs.TerminalTalk.{records_kept}

-- a screen on which a key sends, and the records that made it; none where they aren't kept
pub record SentOn : Type 0 where
  pub picture : Picture
  pub turns : Option (List Kept)

abbrev pub is_free : Lock → Bool
is_free Free = true
is_free Waiting = false
is_free Error = false

-- Enter, the PF and the PA keys: those that send, but for Clear, which leaves no screen
abbrev pub is_sending : Key → Bool
is_sending (Attention aid) = not (aid == 0x6D)
is_sending key = false

-- a key sends while records pass and the keyboard is free
abbrev pub sends_at : Key → Talk TerminalState → Bool
sends_at key (stands (waits state left)) = is_some (core_agreed state.core) && (is_free state.terminal.lock && is_sending key)
sends_at key talk = false

abbrev pub shown_in : Talk TerminalState → List SentOn
shown_in (stands (waits state left)) = record { picture = state.terminal; turns = records_kept state.kept } ∷ []
shown_in talk = []

-- the screen on which a key sends at this session, if it does
abbrev pub sent_on : Key → Talk TerminalState → List SentOn
sent_on key talk = if sends_at key talk then shown_in talk else []

-- they are kept where they are to be judged
abbrev pub collected : Bool → List SentOn → List SentOn
collected true screens = screens
collected false screens = []
