use Rattle.std.proofs.Common.{◌∙◌, ap}
use Rattle.tn_cores.specs.Devices.{name_of, device_of}
use Rattle.tn_cores.proofs.Names.{device_of-name_of}
use Rattle.tn_cores.proofs.device.Device.name.Goals as goal

pub returns-clause-again : goal.returns-clause-again
unfolding name_of
returns-clause-again c = ap device_of c.name_in.ensures ∙ device_of-name_of c.args.self.now
