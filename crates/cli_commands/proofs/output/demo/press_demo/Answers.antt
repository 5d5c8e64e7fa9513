use Rattle.cli_commands.proofs.DemoKeys.{demo_pressed}
use Rattle.cli_commands.proofs.output.demo.press_demo.Goals as goal

pub returns : goal.returns
returns c =
    demo_pressed c.args.terminal.now c.press_rights.new.terminal c.press_times.new.terminal c.press_times-2.new.terminal c.args.demo
    c.in_ok-press_rights.ensures c.in_ok-press_times.ensures (rw c.enter.ensures at c.in_ok-press_times-2.ensures)
