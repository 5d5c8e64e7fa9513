use Rattle.std.proofs.Common.{◌≡◌, ◌++◌, List, map, length}
use Rattle.ds_screen.specs.declared.field.FieldAt.{FieldAt}
use Rattle.ds_screen.specs.Fields.{fields_of}
use Rattle.terminal_calls.specs.Items.{field_told, laid}
use Rattle.terminal_calls.proofs.items.lay_fields.Given as goal

-- the fields that are laid, before those that are to come
abbrev pub invariant-fields : goal.invariant-fields
invariant-fields l =
    (before : List FieldAt) × (before ++ l.field-iterator ≡ fields_of l.screen.cells) × (l.count ≡ length before)
    × (l.out ≡ laid l.fn.out (map field_told before))
