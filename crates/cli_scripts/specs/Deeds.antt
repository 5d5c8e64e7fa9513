-- What is done at the terminal of a script: sessions begin, bytes of the host are heard, keys are pressed. Nothing else is.
use Rattle.std.specs.Prelude.{◌≡◌, ℕ, Bool, true, List, [], ◌∷◌, ◌++◌, length, Result}
use Rattle.tn_cores.specs.declared.device.Device.{Device}
use Rattle.tn_session.specs.declared.fault.RunFault.{RunFault}
use Rattle.tn_session.specs.declared.pressed.Pressed.{Pressed}
use Rattle.tn_session.specs.declared.progress.Progress.{Progress}
use Rattle.tn_session.specs.declared.terminal_state.TerminalState.{TerminalState}
use Rattle.tn_session.specs.Strikes.{by_key}
use Rattle.tn_session.specs.Talk.{Talk}
use Rattle.tn_session.specs.TerminalTalk.{Presses, TerminalTakes, tolerant_worked}
use Rattle.cli_scripts.specs.declared.deed.Deed.{Deed}
use Rattle.cli_scripts.specs.declared.deed.Deed.TheVariants.{Begun, Heard, Pressed as PressedKey}
use Rattle.cli_scripts.specs.SentOn.{SentOn, sent_on, collected}

-- the session of a terminal that wasn't connected yet: TN3270E where the host asks for it, with RESPONSES
abbrev pub new_talk : Device → Talk TerminalState
new_talk device = (tolerant_worked device true true).talk

-- a deed, the bytes that are heard by it and given for it, the screen on which it sends, if it does, and the session before and after it
abbrev pub Does : Device → Deed → List ℕ → List ℕ → List SentOn → Talk TerminalState → Talk TerminalState → Type 0
Does device Begun heard given screens old new = (heard ≡ []) × (given ≡ []) × (screens ≡ []) × (new ≡ new_talk device)
Does device (Heard count) heard given screens old new =
    (length heard ≡ count) × (screens ≡ []) × ((result : Result Progress RunFault) × TerminalTakes old heard result given new)
Does device (PressedKey key) heard given screens old new =
    (heard ≡ []) × (screens ≡ sent_on key old) × ((result : Result Pressed RunFault) × Presses old (by_key key) result given new)

-- deeds, one after the other
abbrev pub Did : Device → List Deed → List ℕ → List ℕ → List SentOn → Talk TerminalState → Talk TerminalState → Type 0
Did device [] heard given screens old new = (heard ≡ []) × (given ≡ []) × (screens ≡ []) × (new ≡ old)
Did device (deed ∷ deeds) heard given screens old new =
    (front : List ℕ) × (rest : List ℕ) × (heard ≡ front ++ rest) × (first : List ℕ) × (more : List ℕ) × (given ≡ first ++ more)
    × (here : List SentOn) × (later : List SentOn) × (screens ≡ here ++ later)
    × (mid : Talk TerminalState) × Does device deed front first here old mid × Did device deeds rest more later mid new

-- deeds since the terminal's first session, and, where they are collected, the screens on which keys sent
abbrev pub DidSo : Device → List Deed → List ℕ → List ℕ → Talk TerminalState → Bool → List SentOn → Type 0
DidSo device deeds heard given talk collects screens =
    (all : List SentOn) × Did device deeds heard given all (new_talk device) talk × (screens ≡ collected collects all)
