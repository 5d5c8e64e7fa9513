use Rattle.std.proofs.Common.{◌≡◌, ◌∙◌, OnOk, List, ap, subst}
use Rattle.bms_map.specs.declared.overlap.Overlap.{Overlap}
use Rattle.bms_map.specs.Overlaps.{nearest}
use Rattle.bms_map.proofs.OverlapLaws.{one_field}
use Rattle.bms_map.proofs.overlap.push_overlaps.Goals as goal

pub returns : goal.returns
returns c =
    subst (λ (l : List Overlap). OnOk c.push_past.result (c.push_past.new.found.items ≡ l))
    (one_field c.args.found.now.items c.push_overlapping.new.found.items c.args.fields.now c.args.last c.args.index c.index-fields-index.result c.nearest.result c.end_of.result
    c.requires c.index-fields-index.is (c.nearest.ensures ∙ ap (λ n. nearest c.args.fields.now n c.args.index) c.cell_of.ensures) c.end_of.ensures c.in_ok-push_overlapping.ensures) c.push_past.ensures
