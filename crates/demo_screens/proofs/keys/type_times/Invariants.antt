use Rattle.std.proofs.Common.{◌≡◌, replicate}
use Rattle.ds_screen.specs.Picture.{Picture}
use Rattle.ds_keys.specs.declared.key.Key.TheVariants.{Typed}
use Rattle.ds_keys.specs.KeyRuns.{after}
use Rattle.demo_screens.specs.Notes.{LeadBack}
use Rattle.demo_screens.specs.Modified.{modified_places}
use Rattle.demo_screens.proofs.keys.type_times.Given as goal

abbrev pub invariant-times : goal.invariant-times
invariant-times g l =
    record {
      pressed : l.screen ≡ after l.fn.screen (replicate l.counter (Typed 0xC1));
      listed : l.listed.items ≡ modified_places l.screen.cells;
      back : (before : Picture) → LeadBack before l.fn.screen l.fn.notes.items → LeadBack before l.screen l.notes.items;
    }
