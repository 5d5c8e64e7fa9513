use Rattle.std.proofs.Common.{ap}
use Rattle.ds_codec.specs.declared.cell.Cell.{Cell}
use Rattle.ds_screen.specs.declared.mark.Mark.{Mark}
use Rattle.ds_screen.specs.Fields.{bits_of}
use Rattle.ds_screen.proofs.marks.ResetChangeMark.change.Goals as goal

pub returns : goal.returns
returns c = ap (λ (cell : Cell). let m : Mark = record { at = c.args.entry.at; attribute = bits_of cell } in m) c.reset_attribute.ensures
