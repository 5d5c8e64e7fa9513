-- What `draft` prints, as a function of its input, and its status.
use Rattle.std.specs.Prelude.{ℕ, List, [], ◌++◌, codes, Result, Ok, Err}
use Rattle.ds_codec.specs.Reading.{◌>>=◌}
use Rattle.ds_screen.specs.Picture.{Picture}
use Rattle.scr_layout.specs.declared.fault.LayoutFault.{LayoutFault}
use Rattle.scr_check.specs.declared.finding.Finding.{Finding}
use Rattle.scr_check.specs.FindingText.{finding_text}
use Rattle.scr_draft.specs.Draft.{drafted}
use Rattle.scr_draft.specs.Opened.{opened}
use Rattle.cli_commands.specs.declared.fault.Fault.{Fault}
use Rattle.cli_commands.specs.declared.fault.Fault.TheVariants.{LayoutRefused}
use Rattle.cli_commands.specs.declared.input.sizes.SizeLine.TheVariants.{Allowed}
use Rattle.cli_commands.specs.declared.status.Status.TheVariants.{Done, Findings}
use Rattle.cli_commands.specs.Printed.{Printed, printed, printed_or_fault}
use Rattle.cli_commands.specs.Records.{Records, records_in}

-- a finding in the checker's words; those that come before a layout is looked at name no entry
abbrev pub stop_line : Finding → List ℕ
stop_line finding = finding_text [] finding ++ codes "\n"

-- the draft, or why it is refused as a layout
abbrev pub printed_text : Result (List ℕ) LayoutFault → Result Printed Fault
printed_text (Ok text) = Ok (printed text Done)
printed_text (Err fault) = Err (LayoutRefused fault)

-- the draft of the screen that opens, or the finding's line
abbrev pub printed_opened : Result Picture Finding → Result Printed Fault
printed_opened (Ok v) = printed_text (drafted v)
printed_opened (Err finding) = Ok (printed (stop_line finding) Findings)

abbrev pub draft_told : Records → Result Printed Fault
draft_told told = printed_opened (opened told.geometry told.records)

abbrev pub draft : List ℕ → Result Printed Fault
draft input = records_in Allowed input >>= draft_told

-- what `draft` prints for an input, and its status
abbrev pub printed_draft : List ℕ → Printed
printed_draft input = printed_or_fault (draft input)
