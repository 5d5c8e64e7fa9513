use Rattle.ds_state.proofs.Parts.{record_made}
use Rattle.ds_state.proofs.spelled.record_of.Goals as goal

pub returns-clause-written : goal.returns-clause-written
returns-clause-written g c =
    record_made c.args.screen.now c.erase_code.result c.in_ok-out.out.items c.push.new.self.items c.push-2.new.self.items c.push_cells.new.out.items c.push_cursor.new.out.items
    c.in_ok-out.ensures.items c.in_ok-push.ensures.items c.erase_code.ensures c.in_ok-push-2.ensures.items c.in_ok-push_cells.ensures.written c.in_ok-push_cursor.ensures
