use Rattle.std.proofs.Common.{subst, sym}
use Rattle.cli_applications.specs.Chains.{AreReached}
use Rattle.cli_applications.proofs.Found.{judged}
use Rattle.cli_applications.proofs.led.first_lost.Goals as goal

pub returns : goal.returns
returns c =
    judged c.args.screens.now c.args.first c.as_slice.result.now c.missing.result
    (subst (AreReached c.args.screens.now c.args.first) (sym c.as_slice.ensures.value) c.in_ok-found.ensures) c.missing.ensures
