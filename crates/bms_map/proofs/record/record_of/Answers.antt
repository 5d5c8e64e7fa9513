use Rattle.std.proofs.Common.{arith}
use Rattle.bms_map.proofs.AgainLaws.{record_again}
use Rattle.bms_map.proofs.record.record_of.Goals as goal

pub returns-clause-again : goal.returns-clause-again
returns-clause-again c =
    record_again c.args.map.now c.args.control c.written_record.result (omega (arith, c.cells_of-cells.ensures.cells, c.cells_of-cells.ensures.few)) c.written_record.ensures
