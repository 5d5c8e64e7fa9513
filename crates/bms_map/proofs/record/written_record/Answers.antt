use Rattle.std.proofs.Common.{◌*◌, ◌∙◌, ap}
use Rattle.ds_codec.specs.declared.size.Mode.TheVariants.{Bits14}
use Rattle.order_lines.specs.Draft.{begun, with_orders}
use Rattle.bms_map.specs.Record.{map_orders}
use Rattle.bms_map.proofs.OrderLaws.{is_record}
use Rattle.bms_map.proofs.record.written_record.Goals as goal

pub returns : goal.returns
returns c =
    let map = c.args.map.now in
    let begins = c.in_ok-draft.ensures ∙ ap (λ n. begun Bits14 n c.command_of-command.result) c.cells_of.ensures.cells ∙ ap (begun Bits14 (map.area.screen.rows * map.area.screen.cols)) c.command_of-command.ensures in
    is_record map c.args.control c.push_map.new.draft c.written.result
    (c.in_ok-push_map.ensures ∙ ap (λ p. with_orders p (map_orders map)) begins)
    c.written.ensures.bytes c.written.ensures.flaw
