use Rattle.cli_dialogues.proofs.Alone.{dialogues_alone, dialogues_agree}
use Rattle.cli_dialogues.proofs.laws.dialogue_host_law.Goals as goal

pub returns-clause-alone : goal.returns-clause-alone
returns-clause-alone c = dialogues_alone c.own_law.ensures

pub returns-clause-agree : goal.returns-clause-agree
returns-clause-agree c = dialogues_agree c.dialogue_law.ensures
