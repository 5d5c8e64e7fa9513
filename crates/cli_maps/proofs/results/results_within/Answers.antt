use Rattle.cli_maps.specs.Asked.{maps_asked, name_in}
use Rattle.cli_maps.proofs.results.results_within.Goals as goal

pub returns : goal.returns
returns c = c.results_or_refused.ensures (maps_asked (name_in c.args.asked.name) c.args.source.now) c.maps_asked-maps.ensures
