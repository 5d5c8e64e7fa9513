-- Reading a record, and applying it to whatever takes records.
use Rattle.std.specs.Prelude.{◌≡◌, Result, Ok, Err}
use Rattle.ds_codec.specs.declared.refused.Refused as codec
use Rattle.ds_codec.specs.Record.{Message}
use Rattle.ds_screen.specs.declared.effect.Effect.{Effect}
use Rattle.ds_screen.specs.declared.refused.Refused as screen
use Rattle.ds_screen.specs.Records.{told_of}
use Rattle.ds_terminal.specs.declared.refused.Refused.{Refused}
use Rattle.ds_terminal.specs.declared.refused.Refused.TheVariants.{Read, Apply}

-- what reading told, in the terminal's words
abbrev pub reading : {A : Type 0} → Result A codec.Refused → Result A Refused
reading (Ok found) = Ok found
reading (Err refused) = Err (Read refused)

-- what applying told
abbrev pub applying : {A : Type 0} → Result A screen.Refused → Result A Refused
applying (Ok after) = Ok after
applying (Err refused) = Err (Apply refused)

-- a record leads from one state to another with this effect, or is refused and leaves the state as it was
abbrev pub AppliesAs : {T : Type 0} → (T → Message → T → Type 0) → (T → Message → screen.Refused → Type 0) → T → Message → Result Effect Refused → T → Type 0
AppliesAs leads refuses before message (Ok effect) after = leads before message after × (effect ≡ told_of message.command)
AppliesAs leads refuses before message (Err (Read refused)) after = ⊥
AppliesAs leads refuses before message (Err (Apply refused)) after = refuses before message refused × (after ≡ before)

-- the same of the record that reading told
abbrev pub Takes : {T : Type 0} → (T → Message → T → Type 0) → (T → Message → screen.Refused → Type 0) → Result Message codec.Refused → T → Result Effect Refused → T → Type 0
Takes leads refuses (Ok message) before result after = AppliesAs leads refuses before message result after
Takes leads refuses (Err refused) before result after = (result ≡ Err (Read refused)) × (after ≡ before)
