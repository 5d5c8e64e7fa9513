-- The lines of one answer.
use Rattle.std.specs.Prelude.{ℕ, List, [], ◌∷◌, ◌++◌, codes, decimal, map, Option, Some, None, slice_get, Result, Ok, Err}
use Rattle.std.specs.List.{flat_map}
use Rattle.hex.specs.Hex.{encode_upper}
use Rattle.ds_codec.specs.Geometry.{cells_of}
use Rattle.ds_inbound.specs.Answer.{Answer, written_characters}
use Rattle.ds_inbound.specs.Reading.{read_of}
use Rattle.ds_inbound.specs.declared.refused.Refused.{Refused}
use Rattle.order_lines.specs.Print.{hex_byte}
use Rattle.scr_layout.specs.Entry.{Declared}
use Rattle.scr_check.specs.Binding.{Pair, bound_of}
use Rattle.scr_check.specs.declared.binding.BindFault.{BindFault}
use Rattle.tn_dialogue.specs.declared.screen.Reading.{Reading}
use Rattle.tn_dialogue.specs.declared.screen.Reading.TheVariants.{Fields, Any}
use Rattle.tn_dialogue.specs.declared.screen.Screen.{Screen}
use Rattle.cli_sessions.specs.Session.{field_line}
use Rattle.cli_dialogues.specs.declared.application.Telling.{Telling}
use Rattle.cli_dialogues.specs.declared.application.Telling.TheVariants.{Read, Bytes}
use Rattle.cli_dialogues.specs.Applications.{Offered, name_of}

-- the screen, where it has a name
abbrev pub screen_words : Option (List ℕ) → List ℕ
screen_words None = []
screen_words (Some name) = codes " screen " ++ name

-- the cursor address, where any answer will do and the key sends it
abbrev pub cursor_words : Reading → Option ℕ → List ℕ
cursor_words Any (Some cursor) = codes " cursor " ++ decimal cursor
cursor_words Any None = []
cursor_words Fields cursor = []

abbrev pub front_line : ℕ → Option (List ℕ) → Reading → Answer → List ℕ
front_line number name reading answer =
    codes "terminal " ++ (decimal number ++ (screen_words name ++ (codes " aid " ++ (hex_byte answer.aid
    ++ (cursor_words reading answer.cursor ++ codes "\n")))))

-- each field by its entry's name, and its characters' bytes
abbrev pub pair_line : List Declared → Pair → List ℕ
pair_line entries pair = field_line entries (pair.entry, written_characters pair.characters)

abbrev pub pair_lines : List Declared → Result (List Pair) BindFault → List ℕ
pair_lines entries (Ok pairs) = flat_map (pair_line entries) pairs
pair_lines entries (Err why) = []

abbrev pub field_lines : Screen → Answer → List ℕ
field_lines screen answer = pair_lines screen.layout.entries (bound_of screen.layout.entries answer)

-- where any answer will do no field has a name
abbrev pub read_lines : Reading → Screen → Answer → List ℕ
read_lines Fields screen answer = field_lines screen answer
read_lines Any screen answer = []

abbrev pub sent_line : Telling → List ℕ → List ℕ
sent_line Read bytes = []
sent_line Bytes bytes = codes "sent " ++ (encode_upper bytes ++ codes "\n")

abbrev pub answer_lines : Offered → ℕ → ℕ → Screen → List ℕ → Answer → List ℕ
answer_lines offered number index screen bytes answer =
    front_line number (name_of offered index) screen.reading answer
    ++ (read_lines screen.reading screen answer ++ sent_line offered.telling bytes)

-- an answer that was kept was read
abbrev pub lines_read : Offered → ℕ → ℕ → Screen → List ℕ → Result Answer Refused → List ℕ
lines_read offered number index screen bytes (Ok answer) = answer_lines offered number index screen bytes answer
lines_read offered number index screen bytes (Err why) = []

abbrev pub lines_at : Offered → ℕ → ℕ → List ℕ → Option Screen → List ℕ
lines_at offered number index bytes None = []
lines_at offered number index bytes (Some screen) =
    lines_read offered number index screen bytes (read_of screen.layout.geometry.mode (cells_of screen.layout.size) bytes)

-- the lines of an answer at the screen of its index
abbrev pub answered_lines : Offered → ℕ → ℕ × List ℕ → List ℕ
answered_lines offered number answered = lines_at offered number answered.0 answered.1 (slice_get offered.screens answered.0)
