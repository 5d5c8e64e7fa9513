-- What a line says as the program holds it.
use Rattle.tap_screens.specs.declared.line.TapLine as held
use Rattle.tap_screens.specs.declared.line.TapLine.TheVariants as line
use Rattle.tap_screens.specs.Lines.{Line, shows, answers, sizes, nothing}

abbrev pub line_seen : held.TapLine → Line
line_seen (line.Shows bytes) = shows bytes.items
line_seen (line.Answers bytes) = answers bytes.items
line_seen (line.Sizes geometry) = sizes geometry
line_seen line.Nothing = nothing
