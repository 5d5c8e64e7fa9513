use Rattle.script_screens.specs.Lines.{data_line}
use Rattle.script_screens.specs.Reading.{place_texts, contents_text}
use Rattle.script_screens.proofs.Pushed.{line_after}
use Rattle.script_screens.proofs.buffer.push_buffer_field.Goals as goal

pub returns : goal.returns
returns c =
    line_after data_line (place_texts c.args.screen.now.size.cols c.args.at c.args.screen.now.cursor)
    (contents_text c.args.code_page c.args.form c.args.screen.now c.args.at) c.args.out.now.items c.push_places.new.out.items c.push_contents.new.out.items
    (rw c.cursor.ensures.value at c.in_ok-push_places.ensures) (rw c.field_length.ensures.length at c.in_ok-push_contents.ensures)
