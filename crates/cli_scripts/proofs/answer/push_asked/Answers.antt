use Rattle.std.proofs.Common.{codes, map, refl}
use Rattle.script_screens.specs.Query.{Named, said_of_query}
use Rattle.script_screens.specs.Status.{link_seen}
use Rattle.cli_scripts.proofs.DataLines.{told_data}
use Rattle.cli_scripts.proofs.answer.push_asked.Goals as goal

pub returns-clause-data : goal.returns-clause-data
returns-clause-data c =
    let named : Named = record { name = c.args.name.now; version = codes "Takvorn 1.0.0" } in
    let arguments = map (λ argument. argument.items) c.args.arguments.now in
    let link = link_seen c.args.connection in
    told_data c.push_query.result c.args.text.now.items c.push_query.new.out.items (said_of_query c.args.screen.now link named c.args.query arguments)
    c.requires.begins
    (c.lines_law.ensures.queries c.args.screen.now link named c.args.query arguments c.requires.link c.requires.name refl) c.push_query.ensures
