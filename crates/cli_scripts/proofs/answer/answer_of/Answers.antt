use Rattle.std.proofs.Common.{◌++◌, [], ap, ◌∙◌}
use Rattle.script_screens.specs.declared.code_page.CodePage.TheVariants.{Bracket}
use Rattle.script_screens.specs.declared.snap.Kept.TheVariants.{Status}
use Rattle.script_screens.specs.Status.{link_seen, status_words}
use Rattle.cli_scripts.proofs.Telling.{alone_whole, an_answer, tells_answer}
use Rattle.cli_scripts.proofs.answer.answer_of.Goals as goal

pub returns-clause-answer : goal.returns-clause-answer
returns-clause-answer c =
    let link = link_seen c.connection.result in
    let words = status_words c.screen.result.now link c.model.result in
    an_answer c.args.outcome c.new-text.result.items c.args.saying.now words c.extend_from_slice.new.self.items c.push_status.new.out.items
    c.extend_from_slice-2.new.self.items c.as_bytes.result.now c.new-text.ensures.items c.lines.ensures.data
    (alone_whole words (c.lines_law.ensures.kept Bracket c.screen.result.now link c.model.result Status [] c.connection.ensures.whole))
    (c.in_ok-extend_from_slice.ensures.items ∙ ap (λ z. c.new-text.result.items ++ z) c.lines.ensures.value) c.in_ok-push_status.ensures c.in_ok-extend_from_slice-2.ensures.items (c.as_bytes.ensures.value ∙ c.last_line.ensures)

pub returns-clause-value : goal.returns-clause-value
returns-clause-value c =
    tells_answer c.args.desk.now c.args.outcome c.screen.result.now (link_seen c.connection.result) c.model.result c.args.saying.now c.new-text.result.items
    c.extend_from_slice.new.self.items c.push_status.new.out.items c.extend_from_slice-2.new.self.items c.as_bytes.result.now c.lines.result.now
    c.screen.ensures c.connection.ensures.value c.model.ensures c.new-text.ensures.items c.lines.ensures.value c.in_ok-extend_from_slice.ensures.items
    c.in_ok-push_status.ensures c.in_ok-extend_from_slice-2.ensures.items (c.as_bytes.ensures.value ∙ c.last_line.ensures)
