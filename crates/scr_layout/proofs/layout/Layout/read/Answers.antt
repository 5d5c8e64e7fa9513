use Rattle.scr_layout.proofs.LayoutLaw.{layout_of-law}
use Rattle.scr_layout.proofs.Keyed.{declaration_of-toml}
use Rattle.scr_layout.proofs.layout.Layout.read.Goals as goal

pub returns-clause-not_toml : goal.returns-clause-not_toml
returns-clause-not_toml c = λ h. absurd (declaration_of-toml _ (rw h at c.from_table.ensures))

pub of_parts-requires : goal.of_parts-requires
of_parts-requires c = layout_of-law c.args.text.now _ (rw c.in-Some.is at c.in_ok-head.ensures)
