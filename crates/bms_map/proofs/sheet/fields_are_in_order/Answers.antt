use Rattle.bms_map.proofs.InOrderLaws.{fields_are_in_order}
use Rattle.bms_map.proofs.sheet.fields_are_in_order.Goals as goal

pub returns : goal.returns
returns c = fields_are_in_order
