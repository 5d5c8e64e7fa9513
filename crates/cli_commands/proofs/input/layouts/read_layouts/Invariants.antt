use Rattle.std.proofs.Common.{◌≡◌, ℕ, List, [], length, drop, Some}
use Rattle.cli_commands.specs.Causes.{all_failures}
use Rattle.cli_commands.specs.Talk.{layouts_from}
use Rattle.cli_commands.specs.TurnsHeld.{all_remaining}
use Rattle.cli_commands.proofs.input.layouts.read_layouts.Given as goal

abbrev pub invariant-loop-turn : goal.invariant-loop-turn
invariant-loop-turn g l =
    record {
      cause : all_failures g.L.Source.failures l.sources ≡ all_failures g.L.Source.failures l.fn.sources;
      turn : length l.layouts.items ≡ l.turn;
      so_far : (texts : List (List ℕ)) → all_remaining g.L.Source.remaining l.fn.sources ≡ Some texts
          → (rest : List (List ℕ)) × (all_remaining g.L.Source.remaining (drop l.turn l.sources) ≡ Some rest)
          × (layouts_from (length l.layouts.items) l.layouts.items rest ≡ layouts_from 0 [] texts);
    }
