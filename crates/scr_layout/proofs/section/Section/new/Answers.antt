use Rattle.std.proofs.Common.{refl}
use Rattle.scr_layout.specs.Section.{slots}
use Rattle.scr_layout.proofs.section.Section.new.Goals as goal

pub returns : goal.returns
unfolding slots
returns c = refl
