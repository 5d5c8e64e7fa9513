-- A session may go to another thread.
use Rattle.std.proofs.Crossing.{crosses}
use denote.Param.Send.{IsSend, sendable}
use Rattle.ds_screen.specs.contracts.plane_cells.PlaneCells as cells
use Rattle.ds_screen.specs.contracts.plane_cells.PlaneCellsCells.TheImpl.{ghosts}
use Rattle.ds_terminal.specs.contracts.terminal.Terminal as terminal
use Rattle.tn_wire.specs.contracts.deframer.Deframer as deframer
use Rattle.tn_session.specs.contracts.kept.KeptRecords as kept
use Rattle.tn_session.specs.contracts.noted.NotedText as noted
use Rattle.tn_session.specs.contracts.lu_name.LuName as lu_name
use Rattle.tn_session.specs.contracts.terminal_state.TerminalState as state
use Rattle.tn_session.specs.contracts.terminal_session.TerminalSession as session
use Rattle.session_calls.specs.Rows.{line_row}
use Rattle.terminal_calls.proofs.Crossing.{screen_send}

terminal_send : IsSend (terminal.the_row cells.the_row ghosts)
terminal_send = search (sendable, crosses, screen_send) depth 20

kept_send : IsSend kept.the_row
kept_send = search (sendable, crosses) depth 20

deframer_send : IsSend deframer.the_row
deframer_send = search (sendable, crosses) depth 20

noted_send : IsSend noted.the_row
noted_send = search (sendable, crosses) depth 20

lu_name_send : IsSend lu_name.the_row
lu_name_send = search (sendable, crosses) depth 20

state_send : IsSend state.the_row
state_send = search (sendable, crosses, terminal_send, kept_send, noted_send, lu_name_send) depth 40

session_send : IsSend session.the_row
session_send = search (sendable, crosses, state_send, deframer_send) depth 40 fits 20000

pub line_send : IsSend line_row
line_send = search (sendable, crosses, session_send) depth 20
