use Rattle.cli_maps.specs.Asked.{as_text, name_in}
use Rattle.cli_maps.specs.Printed.{check_source}
use Rattle.takvorn_c.proofs.check_left.Goals as goal

pub returns : goal.returns
returns c = c.leave.ensures.texts (check_source as_text (name_in c.args.asked.name) c.args.asked.control c.args.source.now) c.check_map_text-answer.ensures
