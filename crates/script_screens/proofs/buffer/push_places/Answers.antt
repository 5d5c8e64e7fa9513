use Rattle.std.proofs.Common.{◌++◌, codes}
use Rattle.std.specs.Fmt.{decimal}
use Rattle.script_screens.specs.Lines.{data_line}
use Rattle.script_screens.specs.Reading.{place_words}
use Rattle.script_screens.proofs.Pushed.{four_lines}
use Rattle.script_screens.proofs.buffer.push_places.Goals as goal

pub returns : goal.returns
returns c =
    four_lines data_line (codes "Start1: " ++ place_words c.args.screen.now.size.cols c.args.at) (codes "StartOffset: " ++ decimal c.args.at)
    (codes "Cursor1: " ++ place_words c.args.screen.now.size.cols c.args.cursor) (codes "CursorOffset: " ++ decimal c.args.cursor) c.args.out.now.items
    c.push_place_line.new.out.items c.push_offset_line.new.out.items c.push_place_line-2.new.out.items c.push_offset_line-2.new.out.items
    c.in_ok-push_place_line.ensures c.in_ok-push_offset_line.ensures c.in_ok-push_place_line-2.ensures c.in_ok-push_offset_line-2.ensures
