use Rattle.std.proofs.Common.{ℕ, List, ap, ◌∙◌, map, codes}
use Rattle.script_screens.specs.Laws.{is_whole}
use Rattle.tn_cores.specs.Devices.{name_of}
use Rattle.script_screens.specs.Query.{Named}
use Rattle.script_screens.specs.Status.{link_seen}
use Rattle.cli_scripts.specs.Answers.{printed_name}
use Rattle.cli_scripts.proofs.DataLines.{name_whole, lu_name_whole}
use Rattle.cli_scripts.proofs.QueryTold.{told_query}
use Rattle.cli_scripts.proofs.answer.push_told.Goals as goal

pub connection_of-connection-requires : goal.connection_of-connection-requires
connection_of-connection-requires c = ap is_whole (c.deref.ensures.value ∙ c.in_ok-lu_name.ensures) ∙ lu_name_whole c.lu_name.result.now

pub push_asked-requires-clause-name : goal.push_asked-requires-clause-name
push_asked-requires-clause-name c = ap is_whole (c.deref-2.ensures.0 ∙ c.name-name.ensures.value) ∙ name_whole c.device.result

pub returns-clause-told : goal.returns-clause-told
returns-clause-told c =
    let named : Named = record { name = c.deref-2.result.now; version = codes "Takvorn 1.0.0" } in
    told_query c.args.desk.now c.args.query (map (λ argument. argument.items) c.args.arguments.now) c.args.text.now.items c.push_asked.new.text.items
    c.deref.result.now c.push_asked.result c.screen.result.now (link_seen c.connection_of-connection.result) named
    (c.deref.ensures.value ∙ c.in_ok-lu_name.ensures ∙ ap printed_name c.lu_name.ensures) c.screen.ensures c.connection_of-connection.ensures.value
    (ap (λ (n : List ℕ). record { name = n; version = codes "Takvorn 1.0.0" }) (c.deref-2.ensures.0 ∙ c.name-name.ensures.value ∙ ap name_of c.device.ensures))
    c.push_asked.ensures.said
