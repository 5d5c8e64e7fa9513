use Rattle.std.proofs.Common.{◌∙◌, ap}
use Rattle.std.specs.List.{insert}
use Rattle.bms_map.specs.Entries.{rank_in}
use Rattle.bms_map.proofs.EntryLaws.{placed_insert}
use Rattle.bms_map.proofs.sheet.put.Goals as goal

pub returns : goal.returns
returns c =
    c.in_ok-insert.ensures.items
    ∙ ap (λ n. insert c.args.fields.now.items n c.args.field) (c.rank_of-at.ensures.rank ∙ ap (λ l. rank_in l c.args.field.cell) c.as_slice.ensures.value)
    ∙ placed_insert c.args.field c.args.fields.now.items
