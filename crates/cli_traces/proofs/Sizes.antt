-- The lines of sizes, as every command reads them.
use Rattle.std.proofs.Common.{refl}
use Rattle.scr_layout.specs.SizeText.{number_of, size_of_text}
use Rattle.tn_cores.specs.declared.device.ScreenModel.TheVariants.{Two, Three, Four, Five}
use Rattle.cli_traces.specs.Law.{SizesAreRead}

pub sizes_are_read : SizesAreRead
unfolding size_of_text number_of
sizes_are_read Two = refl
sizes_are_read Three = refl
sizes_are_read Four = refl
sizes_are_read Five = refl
