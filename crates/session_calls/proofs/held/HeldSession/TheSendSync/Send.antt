-- What a handle owns, a session in a block of the heap, names no thread.
use denote.Builtin.{RawPtr}
use denote.Param.Send.{IsSend, owning_send, sendable}
use Rattle.kept_boxes.proofs.Crossing.{box_crosses}
use Rattle.session_calls.specs.contracts.held.HeldSession.{the_row, the_type}
use Rattle.session_calls.specs.Rows.{line_row}
use Rattle.session_calls.proofs.Crossing.{line_send}

pointer_send : IsSend RawPtr
pointer_send = search sendable depth 20

pub send : IsSend the_row
send = owning_send the_type (pointer_send, tt) (λ d. box_crosses line_row line_send d.at d.line) (λ k x w. tt)
