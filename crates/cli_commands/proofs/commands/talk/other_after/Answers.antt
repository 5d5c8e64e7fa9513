use Rattle.std.proofs.Common.{◌≡◌, ◌+◌, true, false, sym, ◌∙◌, ap}
use Rattle.scr_layout.specs.Layout.{Declaration}
use Rattle.ds_codec.specs.Same.{same_sizes}
use Rattle.cli_commands.proofs.Turned.{other_on, other_here, other_end}
use Rattle.cli_commands.proofs.commands.talk.other_after.Goals as goal

pub returns-then-not-is_geometry : goal.returns-then-not-is_geometry
returns-then-not-is_geometry c =
    let one : Declaration = c.index-layouts-index.result in
    let differs : same_sizes one.geometry c.args.geometry.now ≡ false = sym c.is_geometry.ensures ∙ c.if-not-is_geometry.true in
    other_here c.args.geometry.now c.args.layouts.now c.loop-index.index (c.loop-index.index + 1) one c.loop-index-test.true
    (ap (λ (l : Declaration). same_sizes l.geometry c.args.geometry.now) (sym c.index-layouts-index.is) ∙ differs) ∙ c.loop-index.invariant

pub loop-index-preserved : goal.loop-index-preserved
loop-index-preserved c =
    let one : Declaration = c.index-layouts-index.result in
    let same : same_sizes one.geometry c.args.geometry.now ≡ true = sym c.is_geometry.ensures ∙ c.if-not-is_geometry.false in
    other_on c.args.geometry.now c.args.layouts.now c.loop-index.index (c.loop-index.index + 1) one c.loop-index-test.true
    (ap (λ (l : Declaration). same_sizes l.geometry c.args.geometry.now) (sym c.index-layouts-index.is) ∙ same) ∙ c.loop-index.invariant

pub returns : goal.returns
returns c = other_end c.args.geometry.now c.args.layouts.now c.loop-index.index (c.loop-index.index + 1) c.loop-index-test.false ∙ c.loop-index.invariant
