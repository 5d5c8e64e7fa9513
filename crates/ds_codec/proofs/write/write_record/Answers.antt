use Rattle.ds_codec.proofs.Written.{reads_again}
use Rattle.ds_codec.specs.Writing.{items_of}
use Rattle.ds_codec.proofs.write.write_record.Goals as goal

pub returns-clause-again : goal.returns-clause-again
returns-clause-again c = reads_again c.args.mode c.args.cells c.args.command (items_of c.args.orders.now) c.write_all.result c.requires c.write_all.ensures.written c.write_all.ensures.writable c.write_all.ensures.valid
