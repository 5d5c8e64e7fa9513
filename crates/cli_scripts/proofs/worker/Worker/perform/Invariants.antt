use Rattle.std.proofs.Common.{◌≡◌, ◌≤◌, ◌+◌, length}
use Rattle.cli_scripts.specs.Desks.{Keeps}
use Rattle.cli_scripts.specs.Performs.{Did}
use Rattle.cli_scripts.proofs.worker.Worker.perform.Given as goal

abbrev pub invariant-actions : goal.invariant-actions
invariant-actions l =
    record {
      keeps : Keeps l.initial.self.desk l.self.desk;
      page : l.self.code_page ≡ l.initial.self.code_page;
      did : Did l.line l.initial.self l.rest l.self;
      short : length l.rest + l._turn ≤ length l.line;
    }
