use Rattle.std.proofs.Common.{ap, ◌∙◌, arith}
use Rattle.scr_layout.specs.Section.{number_data, members_of}
use Rattle.scr_layout.proofs.ReadLaw.{length_of-read}
use Rattle.scr_layout.proofs.SectionLaws.{at_length}
use Rattle.scr_layout.proofs.section.Section.length.Goals as goal

pub returns-then-length-cells : goal.returns-then-length-cells
returns-then-length-cells c =
    length_of-read c.args.size (members_of c.args.self.now) c.in_ok-length.length (at_length _ _ _ _ _ _ _ ∙ ap number_data c.in_ok-length.was)
    c.if-length-ge1.true (omega (arith, c.if-length-cells.true, c.cells.ensures))
