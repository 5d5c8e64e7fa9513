-- What `press` prints, as a function of its two inputs, and its status.
use Rattle.std.specs.Prelude.{ℕ, List, [], ◌∷◌, ◌++◌, codes, Result, Ok}
use Rattle.std.specs.Fmt.{decimal}
use Rattle.ds_codec.specs.Reading.{◌>>=◌}
use Rattle.ds_screen.specs.Picture.{Picture}
use Rattle.ds_screen.specs.Records.{new_picture}
use Rattle.ds_keys.specs.declared.key.Key.{Key}
use Rattle.ds_terminal.specs.Terminal.{KeyReply, done, inhibited, ignored, sent, KeyTurn, pressed}
use Rattle.cli_commands.specs.declared.fault.Fault.{Fault}
use Rattle.cli_commands.specs.declared.input.sizes.SizeLine.TheVariants.{Allowed}
use Rattle.cli_commands.specs.declared.status.Status.TheVariants.{Done}
use Rattle.cli_commands.specs.Keys.{keys_in}
use Rattle.cli_commands.specs.Printed.{Printed, printed, printed_or_fault}
use Rattle.cli_commands.specs.Records.{Records, records_in}
use Rattle.cli_commands.specs.Screen.{sent_line}
use Rattle.cli_commands.specs.Shown.{shown_from}

-- a reply's line: where the key leaves the cursor, or the bytes that are sent
abbrev pub reply_line : ℕ → KeyReply → List ℕ
reply_line cursor done = codes "done " ++ (decimal cursor ++ codes "\n")
reply_line cursor inhibited = codes "inhibited " ++ (decimal cursor ++ codes "\n")
reply_line cursor ignored = codes "ignored " ++ (decimal cursor ++ codes "\n")
reply_line cursor (sent bytes) = sent_line (codes "sent ") bytes

abbrev pub turn_line : KeyTurn → List ℕ
turn_line turn = reply_line turn.after.cursor turn.reply

-- the lines of the keys in turn
abbrev pub pressed_text : Picture → List Key → List ℕ
pressed_text v [] = []
pressed_text v (key ∷ keys) = turn_line (pressed v key) ++ pressed_text (pressed v key).after keys

-- the keys on the screen that records leave of a picture
abbrev pub press_from : Picture → List (List ℕ) → List Key → Result Printed Fault
press_from first records keys = shown_from first records >>= λ v. Ok (printed (pressed_text v keys) Done)

-- the same of a new terminal's
abbrev pub press_told : Records → List Key → Result Printed Fault
press_told told keys = press_from (new_picture told.geometry) told.records keys

abbrev pub press_keys : Records → List ℕ → Result Printed Fault
press_keys told lines = keys_in lines >>= press_told told

abbrev pub press : List ℕ → List ℕ → Result Printed Fault
press records lines = records_in Allowed records >>= λ told. press_keys told lines

-- what `press` prints for records and keys, and its status
abbrev pub printed_press : List ℕ → List ℕ → Printed
printed_press records keys = printed_or_fault (press records keys)
