use Rattle.std.proofs.Common.{ℕ, List, map, refl, sym, inl, inr}
use Rattle.tn_session.specs.Wire.{FreshLine}
use Rattle.cli_sessions.specs.Session.{session_seen}
use Rattle.cli_sessions.specs.Serve.{serving, Serving, IsVisited}
use Rattle.cli_sessions.proofs.Serving.{hands_next, hands_not, visited, serves_one, stops_unwritten}
use Rattle.cli_sessions.proofs.serve.serve_next.Goals as goal

pub returns-in-Err : goal.returns-in-Err
returns-in-Err g c = (
  c.failure.ensures.failed,
  inl (record {
    why = _;
    is = c.failure.ensures.exact;
    came = hands_not _ _ c.in-Err.error _ c.in-Err.ensures.came;
    gone = c.next_line.ensures.gone;
    missing = c.in-Err.ensures.missed;
    output = refl;
  }),
)

pub returns-then-not-is_told : goal.returns-then-not-is_told
returns-then-not-is_told g c =
    let records : List (List ℕ) = map (λ bytes. bytes.now) c.args.records.now in
    let line : FreshLine = record { left = g.T.Line.Read.remaining c.in-Ok.line; held = g.T.Line.Write.contents c.in-Ok.line } in
    let visit : IsVisited c.args.layout.now records c.args.terminals.now c.end.new.self (session_seen c.host_session-session.result) =
    visited c.args.layout.now records c.args.terminals.now c.next_line.new.self c.end.new.self line c.new-wire.result c.host_session-session.new.wire
    (session_seen c.host_session-session.result) (hands_next _ _ _ c.in-Ok.line _ c.in-Ok.ensures.came) c.next_line.ensures.gone c.in-Ok.ensures.had
    c.end.ensures.came c.end.ensures.gone c.end.ensures.missing c.new-wire.ensures c.host_session-session.ensures in
    (tt, inr (inl (record { session = session_seen c.host_session-session.result; is = refl; visited = visit; output = refl })))

pub returns-in-Ok-write_session : goal.returns-in-Ok-write_session
returns-in-Ok-write_session g c =
    let records : List (List ℕ) = map (λ bytes. bytes.now) c.args.records.now in
    let line : FreshLine = record { left = g.T.Line.Read.remaining c.in-Ok.line; held = g.T.Line.Write.contents c.in-Ok.line } in
    let old : Serving = serving c.args.terminals.now c.args.output.now in
    let new : Serving = serving c.end.new.self c.write_session.new.output in
    let visit : IsVisited c.args.layout.now records c.args.terminals.now c.end.new.self (session_seen c.host_session-session.result) =
    visited c.args.layout.now records c.args.terminals.now c.next_line.new.self c.end.new.self line c.new-wire.result c.host_session-session.new.wire
    (session_seen c.host_session-session.result) (hands_next _ _ _ c.in-Ok.line _ c.in-Ok.ensures.came) c.next_line.ensures.gone c.in-Ok.ensures.had
    c.end.ensures.came c.end.ensures.gone c.end.ensures.missing c.new-wire.ensures c.host_session-session.ensures in
    rw c.is_failed.ensures (serves_one c.args.layout.now records c.args.number old new (session_seen c.host_session-session.result) visit (sym c.if-not-is_told.ensures) c.in-Ok-write_session.ensures)

pub returns : goal.returns
returns g c =
    let records : List (List ℕ) = map (λ bytes. bytes.now) c.args.records.now in
    let line : FreshLine = record { left = g.T.Line.Read.remaining c.in-Ok.line; held = g.T.Line.Write.contents c.in-Ok.line } in
    let old : Serving = serving c.args.terminals.now c.args.output.now in
    let new : Serving = serving c.end.new.self c.write_session.new.output in
    let visit : IsVisited c.args.layout.now records c.args.terminals.now c.end.new.self (session_seen c.host_session-session.result) =
    visited c.args.layout.now records c.args.terminals.now c.next_line.new.self c.end.new.self line c.new-wire.result c.host_session-session.new.wire
    (session_seen c.host_session-session.result) (hands_next _ _ _ c.in-Ok.line _ c.in-Ok.ensures.came) c.next_line.ensures.gone c.in-Ok.ensures.had
    c.end.ensures.came c.end.ensures.gone c.end.ensures.missing c.new-wire.ensures c.host_session-session.ensures in
    stops_unwritten c.args.layout.now records c.args.number old new (session_seen c.host_session-session.result) c.in-Err-write_session.status visit (sym c.if-not-is_told.ensures) c.in-Err-write_session.ensures
