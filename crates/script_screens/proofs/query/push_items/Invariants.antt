use Rattle.std.proofs.Common.{◌≡◌, ◌++◌, map, take}
use Rattle.script_screens.specs.Lines.{data_lines}
use Rattle.script_screens.specs.Status.{link_seen}
use Rattle.script_screens.specs.Query.{device_seen, item_text}
use Rattle.script_screens.proofs.query.push_items.Given as goal

abbrev pub invariant-loop-item : goal.invariant-loop-item
invariant-loop-item l =
    l.out.items ≡ l.fn.out.items ++ data_lines (map (item_text l.screen (link_seen l.connection) (device_seen l.device)) (take l.item-index l.items))
