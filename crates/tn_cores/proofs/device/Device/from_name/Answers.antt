use Rattle.std.proofs.Common.{◌∙◌}
use Rattle.std.proofs.lemmas.Option.{IfSome_then}
use Rattle.tn_cores.proofs.Names.{device_of-name, device_name-short, IfSome-device_of}
use Rattle.tn_cores.proofs.device.Device.from_name.Goals as goal

pub returns-clause-only : goal.returns-clause-only
returns-clause-only c = λ device named. c.first_named.ensures ∙ device_of-name c.args.name.now device named

pub returns-clause-named : goal.returns-clause-named
returns-clause-named c = rw c.first_named.ensures (IfSome-device_of c.args.name.now)

pub returns-clause-short : goal.returns-clause-short
returns-clause-short c =
    rw c.first_named.ensures (IfSome_then _ (IfSome-device_of c.args.name.now) (λ d named. device_name-short c.args.name.now d named))
