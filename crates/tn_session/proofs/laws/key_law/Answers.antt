use Rattle.tn_session.proofs.KeyStrokes.{strokes_are_keys, runs_of_keys_agree}
use Rattle.tn_session.proofs.laws.key_law.Goals as goal

pub returns-clause-worked : goal.returns-clause-worked
returns-clause-worked c = strokes_are_keys

pub returns-clause-runs : goal.returns-clause-runs
returns-clause-runs c = runs_of_keys_agree
