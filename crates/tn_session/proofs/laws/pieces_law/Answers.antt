use Rattle.tn_session.proofs.Pieces.{pieces_have_log, cuts_agree}
use Rattle.tn_session.proofs.laws.pieces_law.Goals as goal

pub returns-clause-log : goal.returns-clause-log
returns-clause-log c start = pieces_have_log

pub returns-clause-cuts : goal.returns-clause-cuts
returns-clause-cuts c start = cuts_agree

pub returns-clause-host : goal.returns-clause-host
returns-clause-host c start = cuts_agree

pub returns-clause-terminal : goal.returns-clause-terminal
returns-clause-terminal c start = cuts_agree
