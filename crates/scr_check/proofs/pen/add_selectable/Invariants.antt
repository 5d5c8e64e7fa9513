use Rattle.std.proofs.Common.{◌≡◌, ◌++◌}
use Rattle.std.specs.List.{flat_map}
use Rattle.std.specs.Option.{option_to_list}
use Rattle.ds_screen.specs.Fields.{fields_of}
use Rattle.scr_check.specs.Pen.{selectable_finding}
use Rattle.scr_check.proofs.pen.add_selectable.Given as goal

abbrev pub invariant-loop-field : goal.invariant-loop-field
invariant-loop-field g l =
    l.findings.items ++ flat_map (λ field. option_to_list (selectable_finding l.screen.cells field)) l.field-iterator
    ≡ l.fn.findings.items ++ flat_map (λ field. option_to_list (selectable_finding l.screen.cells field)) (fields_of l.screen.cells)
