use Rattle.std.proofs.Common.{◌≡◌, ◌++◌}
use Rattle.std.specs.List.{flat_map, range_with_len}
use Rattle.script_screens.specs.Cells.{piece_text}
use Rattle.script_screens.proofs.cells.push_run.Given as goal

abbrev pub invariant-loop-steps : goal.invariant-loop-steps
invariant-loop-steps l = l.out.items ≡ l.fn.out.items ++ flat_map (piece_text l.code_page l.form l.screen.cells l.run.start) (range_with_len 0 l.steps)
