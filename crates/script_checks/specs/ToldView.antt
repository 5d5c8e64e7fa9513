-- What is told as the program holds it.
use Rattle.std.specs.Prelude.{map, string_bytes}
use Rattle.script_checks.specs.declared.told.Told as held
use Rattle.script_checks.specs.Told.{Told}

abbrev pub told_seen : held.Told → Told
told_seen told = record { name = told.name.items; verdict = told.verdict; findings = told.findings; lines = map string_bytes told.lines.items }
