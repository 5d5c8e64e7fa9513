use Rattle.std.proofs.Common.{◌≡◌, ◌++◌, drop, string_bytes}
use Rattle.cli_commands.specs.Held.{records_held}
use Rattle.tap_screens.specs.Sketch.{records_text}
use Rattle.tap_screens.proofs.leaf.records_text.Given as goal

abbrev pub invariant-loop-bytes : goal.invariant-loop-bytes
invariant-loop-bytes l =
    string_bytes l.text ++ records_text (records_held (drop l.bytes-index l.records)) ≡ records_text (records_held l.fn.records)
