use Rattle.std.proofs.Common.{[], map, ◌∙◌, ap}
use Rattle.cli_commands.specs.Talk.{layouts_from}
use Rattle.cli_commands.proofs.Turned.{gives_texts}
use Rattle.cli_commands.proofs.input.layouts.layouts_in.Goals as goal

pub returns : goal.returns
returns c =
    gives_texts (λ source. source.0.now) (λ v. v.items) (layouts_from 0 []) c.as_mut_slice.result.now c.read_layouts.new.sources _ c.read_layouts.result
    (ap (map (λ source. source.0.now)) c.as_mut_slice.ensures.value ∙ c.in_ok-sources.ensures) c.read_layouts.ensures.layouts c.read_layouts.ensures.cause
