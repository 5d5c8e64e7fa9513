-- The lines of an answer.
use Rattle.std.specs.Prelude.{ℕ, Bool, true, false, List, [], ◌++◌, codes, Option, Some, None, Result, Ok, Err}
use Rattle.std.specs.Fmt.{decimal}
use Rattle.std.specs.List.{flat_map}
use Rattle.ds_codec.specs.Geometry.{cells_of}
use Rattle.ds_inbound.specs.Answer.{Answer}
use Rattle.ds_inbound.specs.Reading.{read_of}
use Rattle.ds_inbound.specs.Refused.{why_words}
use Rattle.ds_inbound.specs.declared.refused.Refused.{Refused}
use Rattle.order_lines.specs.Print.{hex_byte}
use Rattle.scr_layout.specs.Layout.{Declaration}
use Rattle.scr_check.specs.Binding.{Pair, bound_of}
use Rattle.scr_check.specs.BindFaultText.{bind_words}
use Rattle.scr_check.specs.declared.binding.BindFault.{BindFault}
use Rattle.cli_binds.specs.declared.fields.Form.{Form}
use Rattle.cli_binds.specs.Fields.{field_line}

-- ---- what an answer's bytes are

-- refused, read and not bound, or read and bound
pub data Told : Type 0 where
  refused : (why : Refused) → Told
  unbound : (why : BindFault) → Told
  bound : (answer : Answer) (pairs : List Pair) → Told

abbrev pub told_bound : Answer → Result (List Pair) BindFault → Told
told_bound answer (Ok pairs) = bound answer pairs
told_bound answer (Err why) = unbound why

abbrev pub told_read : Declaration → Result Answer Refused → Told
told_read layout (Ok answer) = told_bound answer (bound_of layout.entries answer)
told_read layout (Err why) = refused why

-- what the bytes are to a host with this layout, whose screen is of the size that it names
abbrev pub told_of : Declaration → List ℕ → Told
told_of layout bytes = told_read layout (read_of layout.geometry.mode (cells_of layout.size) bytes)

abbrev pub is_bound : Told → Bool
is_bound (refused why) = false
is_bound (unbound why) = false
is_bound (bound answer pairs) = true

-- ---- its lines

-- the cursor; a short answer has none
abbrev pub cursor_words : Option ℕ → List ℕ
cursor_words None = []
cursor_words (Some cursor) = codes " cursor " ++ decimal cursor

abbrev pub refused_line : ℕ → Refused → List ℕ
refused_line index why =
    codes "answer " ++ (decimal index ++ (codes " refused at " ++ (decimal why.at ++ (codes ": " ++ (why_words why.why ++ codes "\n")))))

abbrev pub unbound_line : ℕ → BindFault → List ℕ
unbound_line index why = codes "answer " ++ (decimal index ++ (codes " unbound: " ++ (bind_words why ++ codes "\n")))

abbrev pub head_line : ℕ → Answer → List ℕ
head_line index answer =
    codes "answer " ++ (decimal index ++ (codes " aid " ++ (hex_byte answer.aid ++ (cursor_words answer.cursor ++ codes "\n"))))

-- the lines of the answer of this index: its key and its cursor, then its fields in its order; or why there are none
abbrev pub answer_lines : Form → Declaration → ℕ → Told → List ℕ
answer_lines form layout index (refused why) = refused_line index why
answer_lines form layout index (unbound why) = unbound_line index why
answer_lines form layout index (bound answer pairs) = head_line index answer ++ flat_map (field_line form layout.entries) pairs
