-- A session as the program holds it.
use Rattle.std.specs.Prelude.{ℕ, ◌≡◌, List, [], Option, Some, None}
use Rattle.tn_wire.specs.Deframer.{Held}
use Rattle.tn_wire.specs.Stream.{Tells}
use Rattle.tn_session.specs.OneLog.{waits, is_over}
use Rattle.tn_session.specs.Talk.{Talk, stands, failed_talk}
use Rattle.tn_dialogue.specs.declared.dialogue.End.{End}
use Rattle.tn_dialogue.specs.declared.dialogue.End.TheVariants.{Over, Failed}

abbrev pub talk_of : {State : Type 0} → Option End → State → List ℕ → Talk State
talk_of None state left = stands (waits state left)
talk_of (Some Over) state left = stands (is_over state)
talk_of (Some (Failed why)) state left = failed_talk why state

-- while it takes more, its stream has no fault, and what is open tells no event
abbrev pub IsListening : Option End → Held → Type 0
IsListening None held = (held.fault ≡ None) × Tells held.content [] held.content
IsListening (Some end) held = Unit {0}
