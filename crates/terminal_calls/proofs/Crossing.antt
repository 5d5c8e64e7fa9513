-- A screen may go to another thread.
use Rattle.std.proofs.Crossing.{crosses}
use denote.Param.Send.{IsSend, sendable}
use Rattle.ds_screen.specs.contracts.plane_cells.PlaneCells as cells
use Rattle.ds_screen.specs.contracts.planes.Planes as planes
use Rattle.ds_codec.specs.contracts.geometry.Geometry as geometry
use Rattle.terminal_calls.specs.Screens.{screen_row}

planes_send : IsSend planes.the_row
planes_send = search (sendable, crosses) depth 20

geometry_send : IsSend geometry.the_row
geometry_send = search (sendable, crosses) depth 20

cells_send : IsSend cells.the_row
cells_send = search (sendable, crosses, planes_send) depth 20

pub screen_send : IsSend screen_row
screen_send = search (sendable, crosses, cells_send, geometry_send) depth 20
