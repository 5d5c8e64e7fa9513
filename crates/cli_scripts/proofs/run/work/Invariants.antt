use Rattle.std.proofs.Common.{◌≡◌, [], true, length}
use Rattle.std.specs.Io.KnownBytes.{prepend_known}
use Rattle.cli_scripts.specs.Ends.{StaysTold}
use Rattle.cli_scripts.specs.Judged.{Judges}
use Rattle.cli_scripts.specs.Runs.{Goes}
use Rattle.cli_scripts.specs.Worlds.{Exchanged, TellsAll, is_need}
use Rattle.cli_scripts.proofs.run.work.Given as goal

abbrev pub invariant-turns : goal.invariant-turns
invariant-turns g l =
    record {
      exchanged : Exchanged l.initial.machine.desk l.machine.desk (g.W.World.sent l.initial.world) (g.W.World.sent l.world)
          (g.W.World.received l.initial.world) (g.W.World.received l.world);
      told : TellsAll l.initial.machine l.machine (g.O.TakesBytes.contents l.initial.output) (g.O.TakesBytes.contents l.output);
      judged : Judges l.initial.machine.desk l.machine.desk l.initial.judge l.judge l.is_told (g.P.TakesBytes.contents l.initial.report)
          (g.P.TakesBytes.contents l.report);
      busy : l.machine.is_busy ≡ is_need l.wants;
      passed : l.held_back.items ≡ [];
      going : (so : Goes l.initial.machine l.wants l.machine (prepend_known l.initial.lines.ahead (g.R.GivesBytes.remaining l.initial.script))
          (prepend_known l.lines.ahead (g.R.GivesBytes.remaining l.script)) (g.W.World.received l.initial.world) (g.W.World.received l.world))
          × (length so.events ≡ l._turn);
      read : g.R.GivesBytes.failures l.script ≡ g.R.GivesBytes.failures l.initial.script;
      written : g.O.TakesBytes.failures l.output ≡ g.O.TakesBytes.failures l.initial.output;
      reported : StaysTold (g.P.TakesBytes.failures l.initial.report) (g.P.TakesBytes.failures l.report) true l.is_told;
    }
