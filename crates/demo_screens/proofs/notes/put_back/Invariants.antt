use Rattle.std.proofs.Common.{◌≡◌, length}
use Rattle.demo_screens.specs.Notes.{AreAlike}
use Rattle.demo_screens.proofs.NoteLaws.{with_undone}
use Rattle.demo_screens.proofs.notes.put_back.Given as goal

-- undoing what is left makes the same of the screen
abbrev pub invariant-notes : goal.invariant-notes
invariant-notes g l =
    record {
      same : with_undone l.screen l.notes.items ≡ with_undone l.fn.screen l.fn.notes.items;
      alike : AreAlike l.screen.cells l.notes.items;
    }

abbrev pub decreases-notes : goal.decreases-notes
decreases-notes g l = length l.notes.items
