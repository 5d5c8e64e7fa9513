use Rattle.std.proofs.Common.{◌≡◌, ◌++◌, drop, map, string_bytes}
use Rattle.tap_screens.specs.Text.{lines_after}
use Rattle.tap_screens.proofs.text.push_texts.Given as goal

abbrev pub invariant-loop-line : goal.invariant-loop-line
invariant-loop-line l =
    l.out.items ++ lines_after l.fn.front (map string_bytes (drop l.line-index l.lines)) ≡ l.fn.out.items ++ lines_after l.fn.front (map string_bytes l.fn.lines)
