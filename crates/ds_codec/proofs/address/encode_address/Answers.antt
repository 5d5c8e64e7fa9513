use Rattle.ds_codec.proofs.Written.{written_spelled}
use Rattle.ds_codec.proofs.address.encode_address.Goals as goal

pub returns-clause-spelled : goal.returns-clause-spelled
returns-clause-spelled c =
    rw (c.encoded.ensures) (written_spelled c.args.mode c.args.cells c.args.address c.requires.few c.requires.inside)
