use Rattle.std.proofs.Common.{◌≡◌, ◌++◌, drop}
use Rattle.std.specs.String.{string_bytes}
use Rattle.cli_commands.specs.Press.{pressed_text}
use Rattle.cli_commands.proofs.commands.press.push_keys.Given as goal

abbrev pub invariant-loop-key : goal.invariant-loop-key
invariant-loop-key l =
    string_bytes l.out ++ pressed_text l.terminal (drop l.key-index l.keys) ≡ string_bytes l.fn.out ++ pressed_text l.fn.terminal l.keys
