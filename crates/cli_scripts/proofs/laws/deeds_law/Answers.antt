use Rattle.cli_scripts.proofs.DeedCuts.{deeds_agree}
use Rattle.cli_scripts.proofs.SayLaws.{saying_agrees}
use Rattle.cli_scripts.proofs.laws.deeds_law.Goals as goal

pub returns-clause-deeds : goal.returns-clause-deeds
returns-clause-deeds c = deeds_agree

pub returns-clause-saying : goal.returns-clause-saying
returns-clause-saying c = saying_agrees
