use Rattle.std.proofs.Common.{ℕ, List, subst}
use Rattle.ds_codec.specs.Reading.{◌>>=◌}
use Rattle.cli_commands.specs.Fault.{Gives}
use Rattle.cli_commands.specs.Held.{answer_seen}
use Rattle.cli_maps.specs.Asked.{name_in}
use Rattle.cli_maps.specs.Printed.{render_source, render_told}
use Rattle.cli_maps.proofs.Read.{read_fails, read_on}
use Rattle.cli_maps.proofs.rendering.render_read.Goals as goal

pub returns-in-Ok-clause-answer : goal.returns-in-Ok-clause-answer
returns-in-Ok-clause-answer g c =
    read_on (g.R.GivesBytes.remaining c.args.reader.now) (λ input. input >>= render_told c.args.rendering (name_in c.args.asked.name) c.args.asked.control) c.in-Ok.source.items c.render_map_text.result c.in-Ok.ensures.bytes
    (subst (λ (t : List ℕ). Gives answer_seen c.render_map_text.result (render_source c.args.rendering (name_in c.args.asked.name) c.args.asked.control t)) c.as_slice.ensures.value c.render_map_text.ensures)

pub returns-in-Err-clause-answer : goal.returns-in-Err-clause-answer
returns-in-Err-clause-answer g c = read_fails (g.R.GivesBytes.remaining c.args.reader.now) (render_source c.args.rendering (name_in c.args.asked.name) c.args.asked.control) c.in-Err.error c.in-Err.ensures.failed
