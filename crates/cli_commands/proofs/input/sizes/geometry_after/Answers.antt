use Rattle.std.proofs.Common.{◌≡◌, ◌∙◌, false, bytes_eq, codes, lit<, ap, sym}
use Rattle.ds_codec.specs.declared.size.Mode.{Mode}
use Rattle.scr_layout.proofs.Sizes.{list_any-none}
use Rattle.cli_commands.specs.Sizes.{is_space, geometry_by}
use Rattle.cli_commands.proofs.input.sizes.geometry_after.Goals as goal

pub returns-in-None : goal.returns-in-None
returns-in-None c =
    let other : bytes_eq c.args.rest.now (codes "16") ≡ false = sym c.eq.ensures ∙ c.if-eq.false in
    rw (other, list_any-none is_space c.args.rest.now (c.in-None.ensures.byte (lit< tt) (λ w o h. h)), c.geometry-in-None.ensures)
    (ap (λ (m : Mode). geometry_by m c.args.default.now c.args.rest.now) c.usual.ensures)
