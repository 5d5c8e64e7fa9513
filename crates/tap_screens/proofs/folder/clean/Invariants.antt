use Rattle.std.proofs.Common.{◌≡◌, ◌++◌, drop}
use Rattle.script_checks.specs.Lines.{clean}
use Rattle.tap_screens.proofs.folder.clean.Given as goal

abbrev pub invariant-loop-byte : goal.invariant-loop-byte
invariant-loop-byte l = l.cleaned.items ++ clean (drop l.byte-index l.name) ≡ clean l.fn.name
