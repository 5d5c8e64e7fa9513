use Rattle.std.proofs.Common.{◌≡◌, ◌++◌, drop, map}
use Rattle.tap_screens.specs.FolderView.{leaf_seen}
use Rattle.tap_screens.specs.Watching.{watched_leaves, watched_text, watching_after}
use Rattle.tap_screens.proofs.watch.Watch.take.Given as goal

abbrev pub invariant-loop-byte : goal.invariant-loop-byte
invariant-loop-byte l =
    (l.out.items ++ watched_text l.self (drop l.byte-index l.text) ≡ l.fn.out.items ++ watched_text l.fn.self l.fn.text)
    × (map leaf_seen l.left.items ++ watched_leaves l.self (drop l.byte-index l.text) ≡ map leaf_seen l.fn.left.items ++ watched_leaves l.fn.self l.fn.text)
    × (watching_after l.self (drop l.byte-index l.text) ≡ watching_after l.fn.self l.fn.text)
