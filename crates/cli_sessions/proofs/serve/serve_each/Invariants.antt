use Rattle.std.proofs.Common.{map}
use Rattle.cli_sessions.specs.Serve.{serving, ServesAll}
use Rattle.cli_sessions.proofs.serve.serve_each.Given as goal

abbrev pub invariant-terminals : goal.invariant-terminals
invariant-terminals g l =
    ServesAll l.layout (map (λ bytes. bytes.now) l.records) 1 l.index (serving l.fn.terminals l.fn.output) (serving l.terminals l.output) l.failed
