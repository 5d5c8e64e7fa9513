use Rattle.std.proofs.Common.{◌≡◌}
use Rattle.std.specs.String.{string_bytes}
use Rattle.cli_pictures.specs.Codes.{codes_on}
use Rattle.cli_pictures.proofs.codes.codes_text.Given as goal

abbrev pub invariant-loop-steps : goal.invariant-loop-steps
invariant-loop-steps l = string_bytes l.text ≡ codes_on l.screen.cells l.start l.steps
