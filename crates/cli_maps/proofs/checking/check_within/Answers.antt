use Rattle.cli_maps.specs.Asked.{maps_asked, name_in}
use Rattle.cli_maps.proofs.checking.check_within.Goals as goal

pub returns : goal.returns
returns c = c.checked_or_refused.ensures (maps_asked (name_in c.args.asked.name) c.args.source.now) c.maps_asked-maps.ensures
