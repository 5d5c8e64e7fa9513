use Rattle.scr_check.proofs.AnyKeys.{leaves_in_steps, own_keys_leave, own_keys_are_promised}
use Rattle.scr_check.proofs.laws.own_keys_law.Goals as goal

pub returns : goal.returns
returns c = record { steps = leaves_in_steps; keys = own_keys_leave; promised = own_keys_are_promised }
