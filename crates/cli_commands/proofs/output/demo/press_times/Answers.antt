use Rattle.std.proofs.Common.{◌≡◌, ◌∙◌, ℕ, replicate, ap, arith}
use Rattle.ds_keys.specs.KeyRuns.{after}
use Rattle.cli_commands.proofs.DemoKeys.{not_pressed, pressed_again}
use Rattle.cli_commands.proofs.output.demo.press_times.Goals as goal

pub loop-init : goal.loop-init
loop-init c = not_pressed c.args.terminal.now c.args.key.now

pub loop-preserved : goal.loop-preserved
loop-preserved c =
    pressed_again c.args.terminal.now c.loop.terminal c.press.new.self c.args.key.now _ c.loop.counter c.loop.invariant c.in_ok-press.ensures.turned

pub returns : goal.returns
returns c =
    let all : c.loop.counter ≡ c.args.times = omega (arith, c.loop-test.false, c.loop.auto.counter-end) in
    c.loop.invariant ∙ ap (λ (n : ℕ). after c.args.terminal.now (replicate n c.args.key.now)) all
