use Rattle.std.proofs.Common.{subst}
use Rattle.cli_reasons.proofs.HearLaws.{Finds, line_found, none_found}
use Rattle.cli_reasons.proofs.ear.split_line.Goals as goal

pub returns-in_err-end-clause-none : goal.returns-in_err-end-clause-none
returns-in_err-end-clause-none c is =
    none_found c.args.known c.args.bytes.now c.requires (subst (Finds c.args.known c.args.bytes.now) c.in_err-end.was c.memchr.ensures)

pub returns-clause-line : goal.returns-clause-line
returns-clause-line c =
    rw c.split_at.ensures.front
    (line_found c.args.known c.in_ok-end.end c.args.bytes.now c.requires (subst (Finds c.args.known c.args.bytes.now) c.in_ok-end.was c.memchr.ensures))
