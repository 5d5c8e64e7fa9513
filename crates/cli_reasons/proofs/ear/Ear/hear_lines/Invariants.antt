use Rattle.std.proofs.Common.{◌≡◌, ◌++◌, List, ℕ, length}
use Rattle.cli_reasons.specs.Hearing.{Beside, HearsOf}
use Rattle.cli_reasons.proofs.ear.Ear.hear_lines.Given as goal

-- the front of the bytes was heard
abbrev pub invariant-lines : goal.invariant-lines
invariant-lines l = record {
  beside : Beside l.fn.self l.self;
  so : (front : List ℕ) × (l.fn.bytes ≡ front ++ l.rest) × ((past : List ℕ) → HearsOf past l.fn.self → HearsOf (past ++ front) l.self);
}

abbrev pub decreases-lines : goal.decreases-lines
decreases-lines l = length l.rest
