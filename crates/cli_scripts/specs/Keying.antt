-- What an action that presses keys says, and how it ends.
use Rattle.std.specs.Prelude.{◌≡◌, ℕ, Bool, true, false, not, ◌&&◌, map, List, [], ◌∷◌, ◌++◌, codes, Option, Some, None, Result, Ok, if◌then◌else◌}
use Rattle.ds_keys.specs.declared.key.Key.{Key}
use Rattle.script_keys.specs.Actions.{Action, keys, other}
use Rattle.script_keys.specs.declared.keys.Keys.{Keys}
use Rattle.script_keys.specs.Faults.{Fault}
use Rattle.script_keys.specs.Fill.{typed_runs}
use Rattle.script_keys.specs.Runs.{keys_of}
use Rattle.script_keys.specs.Steps.{runs_of}
use Rattle.script_screens.specs.declared.lines.Outcome.TheVariants.{Done}
use Rattle.script_screens.specs.declared.code_page.CodePage.{CodePage}
use Rattle.script_screens.specs.declared.key.Typed.{Typed}
use Rattle.script_screens.specs.declared.key.Typed.TheVariants.{Code, NoCode, Unknown}
use Rattle.script_screens.specs.Key.{key_of}
use Rattle.script_screens.specs.Lines.{Said, failed}
use Rattle.tn_session.specs.declared.terminal_state.TerminalState.{TerminalState}
use Rattle.tn_session.specs.OneLog.{waits}
use Rattle.tn_session.specs.Talk.{Talk, stands}
use Rattle.tn_session.specs.TerminalTalk.{OfStanding}
use Rattle.cli_scripts.specs.declared.deed.Deed.{Deed}
use Rattle.cli_scripts.specs.declared.deed.Deed.TheVariants.{Pressed}
use Rattle.cli_scripts.specs.Acts.{is_reset}
use Rattle.cli_scripts.specs.Answers.{printed_text}
use Rattle.cli_scripts.specs.Desks.{NamedHost, Worked, is_waiting}
use Rattle.cli_scripts.specs.declared.kind.Kind.{Kind}
use Rattle.cli_scripts.specs.declared.kind.Kind.TheVariants.{TypesKey}
use Rattle.cli_scripts.specs.Kinds.{kind_of}
use Rattle.cli_scripts.specs.Pressing.{after_keys, any_inhibited}
use Rattle.cli_scripts.specs.Says.{EndsSaying}
use Rattle.cli_scripts.specs.declared.came.Need.TheVariants.{Bytes}
use Rattle.cli_scripts.specs.declared.doing.Doing.TheVariants.{Pressing, Sent, TypingCode}
use Rattle.cli_scripts.specs.declared.doing.Step.{Step}
use Rattle.cli_scripts.specs.declared.doing.Step.TheVariants.{Ended, Waits}
use Rattle.cli_scripts.specs.declared.worker.Worker.{Worker}

-- this holds of the state of a session that waits
abbrev pub OnWaiting : Talk TerminalState → (TerminalState → Type 0) → Type 0
OnWaiting (stands (waits state left)) Holds = Holds state
OnWaiting talk Holds = Unit {0}

-- the keyboard waits for the host
abbrev pub waits_in : Talk TerminalState → Bool
waits_in (stands (waits state left)) = is_waiting state.terminal.lock
waits_in talk = false

abbrev pub locked_said : Said
locked_said = failed (printed_text (codes "Keyboard locked"))

-- One of the keys was inhibited; or the host is waited for; or it is over.
abbrev pub EndsKeys : Bool → Bool → Step → List ℕ → List ℕ → Type 0
EndsKeys true awaits step before after = EndsSaying locked_said step before after
EndsKeys false true step before after = (step ≡ Waits Sent Bytes) × (after ≡ before)
EndsKeys false false step before after = (step ≡ Ended Done) × (after ≡ before)

-- the keys of its runs on the screen that is shown
abbrev pub PressedSo : Keys → Talk TerminalState → TerminalState → Step → List ℕ → List ℕ → Type 0
PressedSo it talk state step before after =
    EndsKeys (any_inhibited talk (keys_of (runs_of state.terminal it)))
    (waits_in (after_keys talk (keys_of (runs_of state.terminal it))) && not (is_reset it)) step before after

-- while the keyboard waits it waits too, but for Reset
abbrev pub PressesSo : Bool → Keys → Talk TerminalState → TerminalState → Step → List ℕ → List ℕ → Type 0
PressesSo true it talk state step before after = (step ≡ Waits (Pressing it) Bytes) × (after ≡ before)
PressesSo false it talk state step before after = PressedSo it talk state step before after

-- without a host it is over
abbrev pub SaysKeys : Keys → Option NamedHost → Talk TerminalState → Step → List ℕ → List ℕ → Type 0
SaysKeys it None talk step before after = (step ≡ Ended Done) × (after ≡ before)
SaysKeys it (Some host) talk step before after =
    OnWaiting talk (λ state. PressesSo (is_waiting state.terminal.lock && not (is_reset it)) it talk state step before after)

-- ---- a character

abbrev pub code_keys : Bool → ℕ → TerminalState → List Key
code_keys fills code state = keys_of (typed_runs state.terminal fills code)

-- while the keyboard waits it waits too
abbrev pub TypedSo : Bool → Bool → ℕ → Talk TerminalState → TerminalState → Step → List ℕ → List ℕ → Type 0
TypedSo true fills code talk state step before after = (step ≡ Waits (TypingCode code) Bytes) × (after ≡ before)
TypedSo false fills code talk state step before after = EndsKeys (any_inhibited talk (code_keys fills code state)) false step before after

-- what is said of a character that is typed; without a host nothing
abbrev pub SaysCode : Bool → ℕ → Option NamedHost → Talk TerminalState → Step → List ℕ → List ℕ → Type 0
SaysCode fills code None talk step before after = (step ≡ Ended Done) × (after ≡ before)
SaysCode fills code (Some host) talk step before after =
    OnWaiting talk (λ state. TypedSo (is_waiting state.terminal.lock) fills code talk state step before after)

-- and its deeds
abbrev pub code_deeds : Bool → ℕ → Option NamedHost → TerminalState → List Deed
code_deeds fills code None state = []
code_deeds fills code (Some host) state = if is_waiting state.terminal.lock then [] else map Pressed (code_keys fills code state)

abbrev pub TypesCode : Bool → ℕ → Worked → Worked → Type 0
TypesCode fills code old new = OfStanding (λ state. old.deeds ++ code_deeds fills code old.host state) old.talk new.deeds

-- ---- Key

abbrev pub bad_key : List ℕ → List ℕ
bad_key [] = codes "Key(): Nonexistent or invalid name:"
bad_key (byte ∷ bytes) = codes "Key(): Nonexistent or invalid name:" ++ (codes " " ++ byte ∷ bytes)

-- a character by its code; one without a code types nothing
abbrev pub SaysTyped : Bool → List ℕ → Typed → Option NamedHost → Talk TerminalState → Step → List ℕ → List ℕ → Type 0
SaysTyped fills argument (Code code) host talk step before after = SaysCode fills code host talk step before after
SaysTyped fills argument NoCode host talk step before after = (step ≡ Ended Done) × (after ≡ before)
SaysTyped fills argument Unknown host talk step before after = EndsSaying (failed (printed_text (bad_key argument))) step before after

abbrev pub typed_deeds : Bool → Typed → Option NamedHost → TerminalState → List Deed
typed_deeds fills (Code code) host state = code_deeds fills code host state
typed_deeds fills it host state = []

-- Key of one argument; of more or none it does nothing
abbrev pub SaysKeyOf : CodePage → Bool → List (List ℕ) → Option NamedHost → Talk TerminalState → Step → List ℕ → List ℕ → Type 0
SaysKeyOf page fills (argument ∷ []) host talk step before after = SaysTyped fills argument (key_of page argument) host talk step before after
SaysKeyOf page fills arguments host talk step before after = (step ≡ Ended Done) × (after ≡ before)

abbrev pub key_deeds : CodePage → Bool → List (List ℕ) → Option NamedHost → TerminalState → List Deed
key_deeds page fills (argument ∷ []) host state = typed_deeds fills (key_of page argument) host state
key_deeds page fills arguments host state = []

abbrev pub TypesKeyOf : CodePage → Bool → List (List ℕ) → Worked → Worked → Type 0
TypesKeyOf page fills arguments old new = OfStanding (λ state. old.deeds ++ key_deeds page fills arguments old.host state) old.talk new.deeds

-- ---- an action

abbrev pub OthersKeys : Kind → List (List ℕ) → Worker → Step → Worker → Type 0
OthersKeys TypesKey arguments old step new =
    SaysKeyOf old.code_page old.settings.blank_fill arguments old.desk.host old.desk.talk step old.saying new.saying
    × TypesKeyOf old.code_page old.settings.blank_fill arguments old.desk new.desk
OthersKeys kind arguments old step new = Unit {0}

-- one that presses keys, and Key
abbrev pub ActsKeys : Result Action Fault → Worker → Step → Worker → Type 0
ActsKeys (Ok (keys it)) old step new = SaysKeys it old.desk.host old.desk.talk step old.saying new.saying
ActsKeys (Ok (other name arguments)) old step new = OthersKeys (kind_of name) arguments old step new
ActsKeys action old step new = Unit {0}
