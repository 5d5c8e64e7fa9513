use Rattle.std.proofs.Common.{sym, ◌∙◌}
use Rattle.ds_places.proofs.PageLaws.{noted_before, some_there}
use Rattle.ds_places.proofs.blocks.note.Goals as goal

pub returns-else-is_empty-clause-noted : goal.returns-else-is_empty-clause-noted
returns-else-is_empty-clause-noted g c =
    noted_before g.T.Placed.place_of c.args.entries.now c.args.used.now.items c.args.number c.requires.listed (some_there c.args.entries.now (sym c.is_empty.ensures ∙ c.if-is_empty.false))
