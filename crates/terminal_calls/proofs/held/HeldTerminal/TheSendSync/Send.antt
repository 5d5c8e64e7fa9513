-- What a handle owns, a screen in a block of the heap, names no thread.
use denote.Builtin.{RawPtr}
use denote.Param.Send.{IsSend, owning_send, sendable}
use Rattle.kept_boxes.proofs.Crossing.{box_crosses}
use Rattle.terminal_calls.specs.contracts.held.HeldTerminal.{the_row, the_type}
use Rattle.terminal_calls.specs.Screens.{screen_row}
use Rattle.terminal_calls.proofs.Crossing.{screen_send}

pointer_send : IsSend RawPtr
pointer_send = search sendable depth 20

pub send : IsSend the_row
send = owning_send the_type (pointer_send, tt) (λ d. box_crosses screen_row screen_send d.at d.screen) (λ k x w. tt)
