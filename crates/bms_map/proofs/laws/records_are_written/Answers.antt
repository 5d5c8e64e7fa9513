use Rattle.bms_map.proofs.WrittenLaws.{records_are_written}
use Rattle.bms_map.proofs.laws.records_are_written.Goals as goal

pub returns : goal.returns
returns c = records_are_written
