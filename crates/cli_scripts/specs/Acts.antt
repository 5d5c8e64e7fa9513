-- What each action of a script does at the terminal: which keys it presses, and that others press none.
use Rattle.std.specs.Prelude.{◌≡◌, ℕ, nat_le, ◌==◌, Bool, true, false, not, ◌&&◌, map, List, [], ◌∷◌, ◌++◌, Option, Some, None, Result, Ok, if◌then◌else◌}
use Rattle.ds_codec.specs.Aid.{function_aid, access_aid}
use Rattle.ds_keys.specs.declared.key.Key.{Key}
use Rattle.ds_keys.specs.declared.key.Key.TheVariants as pressed
use Rattle.ds_keys.specs.declared.key.Key.TheVariants.{Attention}
use Rattle.script_keys.specs.Actions.{Action, keys, disconnect, other}
use Rattle.script_keys.specs.declared.keys.Keys.{Keys}
use Rattle.script_keys.specs.declared.keys.Keys.TheVariants.{Plain}
use Rattle.script_keys.specs.Faults.{Fault}
use Rattle.script_keys.specs.Runs.{keys_of}
use Rattle.script_keys.specs.Steps.{runs_of}
use Rattle.script_screens.specs.declared.pieces.StringKey.{StringKey}
use Rattle.script_screens.specs.declared.pieces.StringKey.TheVariants as keyed
use Rattle.tn_session.specs.declared.terminal_state.TerminalState.{TerminalState}
use Rattle.tn_session.specs.TerminalTalk.{OfStanding}
use Rattle.cli_scripts.specs.declared.deed.Deed.{Deed}
use Rattle.cli_scripts.specs.declared.deed.Deed.TheVariants.{Begun, Pressed}
use Rattle.cli_scripts.specs.Deeds.{new_talk}
use Rattle.cli_scripts.specs.Desks.{NamedHost, Worked, is_waiting}
use Rattle.cli_scripts.specs.declared.kind.Kind.{Kind}
use Rattle.cli_scripts.specs.declared.kind.Kind.TheVariants.{Prints, Reads, Types, TypesKey}
use Rattle.cli_scripts.specs.Kinds.{kind_of}
use Rattle.cli_scripts.specs.Pressing.{all_typed_at}

abbrev pub is_reset : Keys → Bool
is_reset (Plain pressed.Reset) = true
is_reset other_keys = false

abbrev pub is_clear : Keys → Bool
is_clear (Plain (Attention aid)) = aid == 0x6D
is_clear other_keys = false

-- The deeds of an action that presses keys: those of its runs on the screen that is shown, but none while the keyboard waits for the host, other
-- than Reset. Without a host Clear alone does something.
abbrev pub unconnected_deeds : Keys → List Deed
unconnected_deeds it = if is_clear it then Begun ∷ [] else []

abbrev pub keys_deeds : Keys → Option NamedHost → TerminalState → List Deed
keys_deeds it None state = unconnected_deeds it
keys_deeds it (Some host) state =
    if is_waiting state.terminal.lock && not (is_reset it) then [] else map Pressed (keys_of (runs_of state.terminal it))

abbrev pub PressesKeys : Keys → Worked → Worked → Type 0
PressesKeys it old new = OfStanding (λ state. old.deeds ++ keys_deeds it old.host state) old.talk new.deeds

-- keys were pressed, and nothing else was done: the line to the host stays, and all that no key changes
abbrev pub PressesOnly : Worked → Worked → Type 0
PressesOnly old new = (typed : List Key) × (new ≡ all_typed_at old typed)

-- without a host Clear begins a session anew
abbrev pub cleared : Worked → Worked
cleared w = record w { talk = new_talk w.device; deeds = w.deeds ++ Begun ∷ []; told = 0 }

abbrev pub WorksKeys : Option NamedHost → Keys → Worked → Worked → Type 0
WorksKeys None it old new = new ≡ (if is_clear it then cleared old else old)
WorksKeys (Some host) it old new = PressesOnly old new

-- nothing was done at the terminal
abbrev pub PressesNone : Worked → Worked → Type 0
PressesNone old new = new ≡ old

-- nothing but that its screen may have been read
abbrev pub MayRead : Worked → Worked → Type 0
MayRead old new = new ≡ record old { was_read = new.was_read }

-- what types presses keys, what reads may note that, and nothing else does anything
abbrev pub PressesAs : Kind → Worked → Worked → Type 0
PressesAs Types old new = PressesOnly old new
PressesAs TypesKey old new = PressesOnly old new
PressesAs (Reads reading) old new = MayRead old new
PressesAs Prints old new = MayRead old new
PressesAs kind old new = PressesNone old new

-- An action that presses keys does what its keys do, and Disconnect ends the line to the host; others than String and Key do nothing at the
-- terminal but read it.
abbrev pub Acts : Result Action Fault → Worked → Worked → Type 0
Acts (Ok (keys it)) old new = PressesKeys it old new × WorksKeys old.host it old new
Acts (Ok disconnect) old new = new ≡ record old { host = None }
Acts (Ok (other name arguments)) old new = PressesAs (kind_of name) old new
Acts action old new = PressesNone old new

-- ---- the keys of a text

abbrev pub function_key : ℕ → Option Key
function_key number = if nat_le 1 number && nat_le number 24 then Some (Attention (function_aid number)) else None

abbrev pub access_key : ℕ → Option Key
access_key number = if nat_le 1 number && nat_le number 3 then Some (Attention (access_aid number)) else None

-- \n is Enter, and \r Newline
abbrev pub pressed_key : StringKey → Option Key
pressed_key keyed.Tab = Some pressed.Tab
pressed_key keyed.BackTab = Some pressed.BackTab
pressed_key keyed.Left = Some pressed.Left
pressed_key keyed.Newline = Some pressed.NewLine
pressed_key keyed.Enter = Some (Attention 0x7D)
pressed_key keyed.Clear = Some (Attention 0x6D)
pressed_key (keyed.Pf number) = function_key number
pressed_key (keyed.Pa number) = access_key number
