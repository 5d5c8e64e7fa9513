use Rattle.cli_commands.proofs.Answered.{finished}
use Rattle.cli_commands.proofs.Causes.{ends_known}
use Rattle.cli_maps.specs.Asked.{name_in}
use Rattle.cli_maps.specs.Printed.{render_source}
use Rattle.cli_maps.proofs.rendering.run_render_map.Goals as goal

pub returns-clause-prints : goal.returns-clause-prints
returns-clause-prints g c =
    finished (render_source c.args.rendering (name_in c.args.asked.name) c.args.asked.control) (g.R.GivesBytes.remaining c.args.reader.now) (g.W.TakesBytes.contents c.args.writer.now) _ c.render_read-answer.result c.finish.result
    c.render_read-answer.ensures.answer c.finish.ensures.writes

pub returns-clause-cause : goal.returns-clause-cause
returns-clause-cause g c =
    ends_known (render_source c.args.rendering (name_in c.args.asked.name) c.args.asked.control) (g.R.GivesBytes.remaining c.args.reader.now) _ _ _ _ c.render_read-answer.result c.finish.result
    c.render_read-answer.ensures.answer c.render_read-answer.ensures.cause c.finish.ensures.cause
