use Rattle.std.proofs.Common.{◌≡◌, ◌+◌, ℕ, List, map, subst, arith}
use Rattle.cli_sessions.specs.Serve.{serving, Serving, ServesAll}
use Rattle.cli_sessions.proofs.Serving.{serves_none, serves_more}
use Rattle.cli_sessions.proofs.serve.serve_each.Goals as goal

pub terminals-init : goal.terminals-init
terminals-init g c =
    serves_none c.args.layout.now (map (λ bytes. bytes.now) c.args.records.now) 1 (serving c.args.terminals.now c.args.output.now)

pub returns-in-Err : goal.returns-in-Err
returns-in-Err g c = (
  c.in-Err.ensures.0,
  record {
    served = c.terminals.index;
    few = c.terminals-test.true;
    middle = serving c.terminals.terminals c.terminals.output;
    failed = c.terminals.failed;
    all = c.terminals.invariant;
    stops = c.in-Err.ensures.1;
  },
)

pub terminals-preserved : goal.terminals-preserved
terminals-preserved g c =
    let records : List (List ℕ) = map (λ bytes. bytes.now) c.args.records.now in
    let old : Serving = serving c.args.terminals.now c.args.output.now in
    let mid : Serving = serving c.terminals.terminals c.terminals.output in
    let new : Serving = serving c.serve_next.new.terminals c.serve_next.new.output in
    let next : c.terminals.index + 1 ≡ 1 + c.terminals.index = omega arith in
    serves_more c.args.layout.now records 1 c.terminals.index 1 old mid new c.terminals.failed c.in-Ok.this_failed
    c.terminals.invariant
    (subst (λ (n : ℕ). ServesAll c.args.layout.now records n 1 mid new c.in-Ok.this_failed) next c.in-Ok.ensures)
