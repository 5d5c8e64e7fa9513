use Rattle.std.proofs.Common.{◌∙◌, ap, refl}
use Rattle.cli_applications.specs.Fault.{in_screen}
use Rattle.cli_applications.specs.Manifest.{Declared}
use Rattle.cli_applications.proofs.Found.{moved, refused, taken}
use Rattle.cli_applications.proofs.led.with_ways.Goals as goal

pub returns-in-Some : goal.returns-in-Some
returns-in-Some c =
    let inside : Declared = record { first = c.manifest.inside.first; screens = c.manifest.inside.screens.items } in
    refused c.args.manifest c.in_ok-lost.lost c.in-Some.index c.in_screen-fault.result
    (moved inside c.args.manifest c.as_slice.result.now c.in_ok-lost.lost c.manifest.view_is c.as_slice.ensures.value c.in_ok-lost.ensures) c.in-Some.is
    (c.in_screen-fault.ensures ∙ ap (in_screen c.in-Some.index) c.at_key.ensures)

pub returns-in-None : goal.returns-in-None
returns-in-None c =
    let inside : Declared = record { first = c.manifest.inside.first; screens = c.manifest.inside.screens.items } in (
      refl,
      taken c.args.manifest c.in_ok-lost.lost
          (moved inside c.args.manifest c.as_slice.result.now c.in_ok-lost.lost c.manifest.view_is c.as_slice.ensures.value c.in_ok-lost.ensures) c.in-None.is,
    )
