use Rattle.cli_maps.proofs.LayoutLaws.{layouts_are_read}
use Rattle.cli_maps.proofs.laws.layouts_are_read.Goals as goal

pub returns : goal.returns
returns c = layouts_are_read
