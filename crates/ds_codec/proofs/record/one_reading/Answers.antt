use Rattle.ds_codec.proofs.Records.{has_one_reading}
use Rattle.ds_codec.proofs.record.one_reading.Goals as goal

pub returns : goal.returns
returns c = has_one_reading
