use Rattle.std.proofs.Common.{◌∙◌, ap}
use Rattle.ds_places.specs.Places.{at_place}
use Rattle.scr_layout.specs.Rows.{has_place}
use Rattle.scr_layout.proofs.LocatedLaws.{located_any}
use Rattle.scr_layout.proofs.listed.Listed.has_place.Goals as goal

pub returns : goal.returns
returns c = c.is_some.ensures ∙ located_any _ _ c.args.place c.self.invariant.1 c.held.result (c.held.ensures ∙ ap (λ table. at_place (λ located. located.place) table c.args.place) c.deref.ensures.value) ∙ ap (has_place c.args.place) c.self.view_is
