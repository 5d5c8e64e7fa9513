use Rattle.std.proofs.Common.{◌≡◌, ◌++◌, length, map}
use Rattle.tn_session.specs.TerminalLog.{typing}
use Rattle.tn_session.proofs.terminal_state.TerminalState.press_all.Given as goal

abbrev pub invariant-keys : goal.invariant-keys
invariant-keys g l = record {
  due : l.initial.due.items ++ (typing l.agreed l.initial.self (map g.K.Keystroke.strike l.initial.keys.now)).due
      ≡ l.due.items ++ (typing l.agreed l.self (map g.K.Keystroke.strike l.keys.now)).due;
  after : (typing l.agreed l.initial.self (map g.K.Keystroke.strike l.initial.keys.now)).running
      ≡ (typing l.agreed l.self (map g.K.Keystroke.strike l.keys.now)).running;
}

abbrev pub decreases-keys : goal.decreases-keys
decreases-keys g l = length l.keys.now
