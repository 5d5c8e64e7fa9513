-- A screen as the logic has it.
use denote.RattleType.{RattleType}
use Rattle.ds_screen.specs.contracts.plane_cells.PlaneCells as cells
use Rattle.ds_screen.specs.contracts.plane_cells.PlaneCellsCells.TheImpl.{ghosts}
use Rattle.ds_screen.specs.contracts.screen.Screen as screen

abbrev pub screen_row : RattleType
screen_row = screen.the_row cells.the_row ghosts
