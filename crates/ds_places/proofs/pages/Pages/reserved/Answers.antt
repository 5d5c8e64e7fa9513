use Rattle.ds_places.specs.Pages.{lists_of}
use Rattle.ds_places.proofs.PageLaws.{empty_flat}
use Rattle.ds_places.proofs.pages.Pages.reserved.Goals as goal

pub returns-clause-empty : goal.returns-clause-empty
returns-clause-empty g c = empty_flat g.T.Placed.place_of (lists_of c.in_ok-blocks.blocks.items) c.in_ok-blocks.ensures.empty
