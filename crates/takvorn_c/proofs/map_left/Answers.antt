use Rattle.cli_maps.specs.Asked.{name_in}
use Rattle.cli_maps.specs.Printed.{map_source}
use Rattle.takvorn_c.proofs.map_left.Goals as goal

pub returns : goal.returns
returns c = c.leave.ensures.texts (map_source c.args.form (name_in c.args.asked.name) c.args.asked.control c.args.source.now) c.map_text-answer.ensures
