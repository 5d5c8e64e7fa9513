use Rattle.cli_reasons.proofs.KnownDigits.{line_digits}
use Rattle.cli_reasons.proofs.walk.Walk.hear.Goals as goal

pub take_line-requires-clause-digits : goal.take_line-requires-clause-digits
take_line-requires-clause-digits c = rw (c.min.ensures, c.without_end-line.ensures) (line_digits c.args.known c.args.raw.now c.requires)
