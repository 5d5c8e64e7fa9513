-- What is known of a session's screen: the records that made it, and whether it waits for the operator.
use Rattle.std.specs.Prelude.{ℕ, Bool, false, List, [], ◌∷◌, Option, Some, None, if◌then◌else◌}
use Rattle.ds_codec.specs.Geometry.{Sizes}
use Rattle.cli_commands.specs.Sizes.{usual_sizes}
use Rattle.cli_traces.specs.Turns.{is_attention}
use Rattle.tn_session.specs.Kept.{Kept, Keeping, nothing_kept, begins_with, is_read_code, kept_bytes, kept_attention}
use Rattle.tap_screens.specs.declared.made.Stage.{Stage}
use Rattle.tap_screens.specs.declared.made.Stage.TheVariants.{Idle, Shown, Reads}
use Rattle.tap_screens.specs.Lines.{Line, shows, answers, sizes, nothing}

-- the sizes of the terminal, the records since the last erase, parted where the operator sent, and where the dialogue stands
pub record Made : Type 0 where
  pub geometry : Sizes
  pub keeping : Keeping
  pub stage : Stage

-- before the first line
abbrev pub nothing_made : Made
nothing_made = record { geometry = usual_sizes; keeping = nothing_kept; stage = Idle }

-- the terminal answers a read by itself, and a screen by a key
abbrev pub stage_shown : List ℕ → Stage
stage_shown bytes = if begins_with is_read_code bytes then Reads else Shown

-- the terminal answers the screen by a key or a pen
abbrev pub ends_turn : Stage → List ℕ → Bool
ends_turn Idle bytes = false
ends_turn Shown bytes = begins_with is_attention bytes
ends_turn Reads bytes = false

abbrev pub stage_answered : Stage → Stage
stage_answered Idle = Idle
stage_answered Shown = Shown
stage_answered Reads = Shown

abbrev pub first_byte : List ℕ → Option ℕ
first_byte [] = None
first_byte (byte ∷ bytes) = Some byte

abbrev pub with_answer : Made → List ℕ → Made
with_answer made bytes =
    if ends_turn made.stage bytes then record made { keeping = kept_attention made.keeping (first_byte bytes); stage = Idle }
    else record made { stage = stage_answered made.stage }

abbrev pub made_after : Made → Line → Made
made_after made (shows bytes) = record made { keeping = kept_bytes made.keeping bytes; stage = stage_shown bytes }
made_after made (answers bytes) = with_answer made bytes
made_after made (sizes geometry) = record made { geometry = geometry }
made_after made nothing = made

-- the records, parted into turns; none where there were too many
abbrev pub turns_of : Keeping → Option (List Kept)
turns_of keeping = if keeping.is_past_limit then None else Some keeping.records
