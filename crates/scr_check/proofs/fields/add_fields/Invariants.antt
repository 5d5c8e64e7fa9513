use Rattle.std.proofs.Common.{◌≡◌, ◌++◌}
use Rattle.std.specs.Prelude.{All}
use Rattle.std.specs.List.{flat_map}
use Rattle.std.specs.Option.{option_to_list}
use Rattle.ds_screen.specs.Picture.{Picture}
use Rattle.ds_screen.specs.Fields.{fields_of}
use Rattle.ds_screen.specs.Outline.{IsOutlineOf}
use Rattle.scr_check.specs.Findings.{field_finding, HaveFields}
use Rattle.scr_check.specs.Seen.{IsCursorOf}
use Rattle.scr_check.proofs.FoundLaws.{IsField}
use Rattle.scr_check.proofs.fields.add_fields.Given as goal

abbrev pub invariant-loop-field : goal.invariant-loop-field
invariant-loop-field l =
    ((v : Picture) → IsOutlineOf l.outline v → IsCursorOf l.cursor v
    → l.findings.items ++ flat_map (λ field. option_to_list (field_finding l.layout.entries v field)) l.field-iterator
    ≡ l.fn.findings.items ++ flat_map (λ field. option_to_list (field_finding l.layout.entries v field)) (fields_of v.cells))
    × ((v : Picture) → IsOutlineOf l.outline v → All (IsField v.cells) l.field-iterator)
    × ((v : Picture) → IsOutlineOf l.outline v → HaveFields v.cells l.layout.entries l.first)
