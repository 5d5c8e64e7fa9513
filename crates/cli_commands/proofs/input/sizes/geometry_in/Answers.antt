use Rattle.std.proofs.Common.{lit<, ap}
use Rattle.ds_codec.specs.declared.size.Mode.{Mode}
use Rattle.scr_layout.proofs.Sizes.{list_any-none}
use Rattle.cli_commands.specs.Sizes.{is_space, geometry_by}
use Rattle.cli_commands.proofs.input.sizes.geometry_in.Goals as goal

pub returns-in-None : goal.returns-in-None
returns-in-None c =
    rw (list_any-none is_space c.args.words.now (c.in-None.ensures.byte (lit< tt) (λ w o h. h)), c.geometry.ensures)
    (ap (λ (m : Mode). geometry_by m c.args.words.now c.args.words.now) c.usual.ensures)
