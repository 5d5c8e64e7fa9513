use Rattle.std.proofs.Common.{◌≡◌, drop}
use Rattle.script_screens.specs.Query.{item_in}
use Rattle.script_screens.proofs.item.item_in.Given as goal

abbrev pub invariant-loop-item : goal.invariant-loop-item
invariant-loop-item l = item_in (drop l.item-index l.items) l.text ≡ item_in l.items l.text
