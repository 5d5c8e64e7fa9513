use Rattle.std.proofs.Common.{◌≡◌, ◌<◌, ℕ, false, length, get_or}
use Rattle.ds_screen.proofs.index.copy_marks.Given as goal

abbrev pub invariant-stretches : goal.invariant-stretches
invariant-stretches l =
    record {
      whole : length l.marks ≡ length l.fn.marks;
      each : (k : ℕ) → k < l.i → get_or l.marks k false ≡ get_or l.others k false;
    }
