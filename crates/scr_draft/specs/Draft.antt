-- The draft of a picture: its text, or that it has more fields than a layout may.
use Rattle.std.specs.Prelude.{ℕ, nat_le, List, length, Result, Ok, Err, if◌then◌else◌}
use Rattle.ds_screen.specs.Picture.{Picture}
use Rattle.scr_layout.specs.declared.fault.LayoutFault.{LayoutFault}
use Rattle.scr_layout.specs.declared.fault.LayoutKey.TheVariants.{Field}
use Rattle.scr_layout.specs.declared.fault.Why.TheVariants.{TooManyFields}
use Rattle.scr_layout.specs.Fault.{at_key}
use Rattle.scr_draft.specs.Drafted.{drafted_fields, drafts_of}
use Rattle.scr_draft.specs.Text.{draft_text}

-- the text of the draft, where there are at most 1,000 fields
unfoldable pub drafted : Picture → Result (List ℕ) LayoutFault
drafted v =
    if nat_le (length (drafted_fields v.cells)) 1000 then Ok (draft_text v (drafts_of v)) else Err (at_key Field TooManyFields)
