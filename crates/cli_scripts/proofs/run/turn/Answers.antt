use Rattle.std.proofs.Common.{refl, sym, subst}
use Rattle.std.specs.Io.KnownBytes.{prepend_known}
use Rattle.cli_scripts.specs.declared.came.Wants.{Wants}
use Rattle.cli_scripts.specs.Runs.{Turned}
use Rattle.cli_scripts.proofs.RunLaws.{turned_need}
use Rattle.cli_scripts.proofs.run.turn.Goals as goal

pub returns-in_ok-give-in-Need-clause-turned : goal.returns-in_ok-give-in-Need-clause-turned
returns-in_ok-give-in-Need-clause-turned g c =
    let known = prepend_known c.args.lines.now.ahead (g.R.GivesBytes.remaining c.args.script.now) in
    let before = g.W.World.received c.args.world.now in
    let after = g.W.World.received c.give.new.world in
    subst (λ (w : Wants). Turned w c.args.machine.now c.in_ok-give-in-Need.field-0 c.give.new.machine known known before after) (sym c.in-Need.is)
    (turned_need c.in-Need.need c.args.machine.now c.in_ok-give-in-Need.field-0 c.give.new.machine known known before after
    c.in_ok-give-in-Need.ensures.gives refl)
