-- What `draft --turns` prints, as a function of its input, and its status.
use Rattle.std.specs.Prelude.{◌≡◌, ℕ, zero, suc, ◌+◌, ◌==◌, List, [], ◌∷◌, ◌++◌, codes, Result, Ok, Err, if◌then◌else◌}
use Rattle.std.specs.Fmt.{decimal}
use Rattle.ds_codec.specs.Reading.{◌>>=◌}
use Rattle.cli_commands.specs.declared.fault.Fault.{Fault}
use Rattle.cli_commands.specs.declared.fault.Fault.TheVariants.{TooLong}
use Rattle.cli_commands.specs.declared.status.Status.{Status}
use Rattle.cli_commands.specs.declared.status.Status.TheVariants.{Done, Findings, BadInput, Failed, NoMemory}
use Rattle.cli_commands.specs.Lines.{within_limit}
use Rattle.cli_commands.specs.Printed.{Printed, printed, printed_or_fault}
use Rattle.cli_drafts.specs.Draft.{draft}
use Rattle.cli_turns.specs.Part.{count_of, records_up_to}

-- the status of two texts: that of the second, where the first is done
abbrev pub worse : Status → Status → Status
worse Done second = second
worse Findings second = Findings
worse BadInput second = BadInput
worse Failed second = Failed
worse NoMemory second = NoMemory

-- a comment in a layout
abbrev pub turn_head : ℕ → List ℕ
turn_head turn = codes "# turn " ++ (decimal turn ++ codes "\n")

-- the draft of a turn's screen, which the records of all turns up to it make
unfoldable pub draft_of : ℕ → List ℕ → Result Printed Fault
draft_of turn text = draft (records_up_to (turn + 1) text)

-- a text before others
abbrev pub after_text : List ℕ → Status → Result Printed Fault → Result Printed Fault
after_text text status (Ok others) = Ok (printed (text ++ others.text) (worse status others.status))
after_text text status (Err fault) = Err fault

abbrev pub one_before : ℕ → Result Printed Fault → Result Printed Fault → Result Printed Fault
one_before turn (Ok one) others = after_text (turn_head turn ++ one.text) one.status others
one_before turn (Err fault) others = Err fault

-- the drafts of so many turns, from this one on, or the first fault
abbrev pub drafts_from : List ℕ → ℕ → ℕ → Result Printed Fault
drafts_from text turn zero = Ok (printed [] Done)
drafts_from text turn (suc more) = one_before turn (draft_of turn text) (drafts_from text (turn + 1) more)

-- at most 1,000 turns
abbrev pub if_few : List ℕ → ℕ → Result Printed Fault
if_few text turns = if turns == 1000 then Err TooLong else drafts_from text 0 (turns + 1)

abbrev pub draft_turns : List ℕ → Result Printed Fault
draft_turns input = within_limit input >>= λ text. if_few text (count_of 1000 text)

-- what `draft --turns` prints for an input, and its status
abbrev pub printed_draft_turns : List ℕ → Printed
printed_draft_turns input = printed_or_fault (draft_turns input)

-- ---- one by one

abbrev pub behind : List Printed → Result (List Printed) Fault → Result (List Printed) Fault
behind before (Ok others) = Ok (before ++ others)
behind before (Err fault) = Err fault

abbrev pub one_first : Result Printed Fault → Result (List Printed) Fault → Result (List Printed) Fault
one_first (Ok one) others = behind (one ∷ []) others
one_first (Err fault) others = Err fault

-- the drafts of so many turns, from this one on, or the first fault
abbrev pub each_from : List ℕ → ℕ → ℕ → Result (List Printed) Fault
each_from text turn zero = Ok []
each_from text turn (suc more) = one_first (draft_of turn text) (each_from text (turn + 1) more)

abbrev pub each_if_few : List ℕ → ℕ → Result (List Printed) Fault
each_if_few text turns = if turns == 1000 then Err TooLong else each_from text 0 (turns + 1)

abbrev pub each_draft : List ℕ → Result (List Printed) Fault
each_draft input = within_limit input >>= λ text. each_if_few text (count_of 1000 text)

-- ---- both

-- the texts of these turns, from this one on, each below its line
abbrev pub joined : ℕ → List Printed → Printed
joined turn [] = printed [] Done
joined turn (one ∷ others) =
    printed ((turn_head turn ++ one.text) ++ (joined (turn + 1) others).text) (worse one.status (joined (turn + 1) others).status)

abbrev pub joined_or : ℕ → Result (List Printed) Fault → Result Printed Fault
joined_or turn (Ok all) = Ok (joined turn all)
joined_or turn (Err fault) = Err fault

-- what `draft --turns` prints are the drafts one by one, each below its line
abbrev pub AreJoined : Type 0
AreJoined = (text : List ℕ) → draft_turns text ≡ joined_or 0 (each_draft text)
