-- Texts written piece by piece.
use Rattle.std.proofs.Common.{◌≡◌, ℕ, List, ◌++◌, sym, ap, ◌∙◌, append_assoc}
use Rattle.std.specs.Prelude.{Option}
use Rattle.std.specs.Io.KnownBytes.{Appends}
use Rattle.cli_commands.specs.declared.status.Status.{Status}
use Rattle.cli_commands.specs.declared.status.Status.TheVariants.{Done, Findings, BadInput, Failed, NoMemory}
use Rattle.cli_commands.specs.Pieces.{WritesOn, Stops}
use Rattle.cli_commands.specs.Printed.{printed}
use Rattle.cli_commands.specs.Streams.{AppendsFront, Prints}
use Rattle.cli_commands.proofs.Prefixes.{appends_more}

module _ (old mid new : Option (List ℕ)) (whole : List ℕ) where
  -- what is left begins with the text of which a front is written now
  front_more : (text rest front left : List ℕ) → text ≡ front ++ left → WritesOn old mid whole (text ++ rest) → Appends mid new front → WritesOn old new whole (left ++ rest)
  front_more text rest front left is (before, breaks, wrote) writes = (
    before ++ front,
    breaks ∙ ap (λ t. before ++ (t ++ rest)) is ∙ ap (λ t. before ++ t) (append_assoc front left rest) ∙ sym (append_assoc before front (left ++ rest)),
    appends_more old mid new before front wrote writes,
  )

  regroup : (piece lines rest : List ℕ) → WritesOn old mid whole (piece ++ (lines ++ rest)) → WritesOn old mid whole ((piece ++ lines) ++ rest)
  regroup piece lines rest (before, breaks, wrote) = (before, breaks ∙ ap (λ t. before ++ t) (sym (append_assoc piece lines rest)), wrote)

  pub goes_on : (piece lines rest left : List ℕ) → WritesOn old mid whole (piece ++ (lines ++ rest)) → WritesOn mid new (piece ++ lines) left → WritesOn old new whole (left ++ rest)
  goes_on piece lines rest left so_far (front, is, writes) = front_more (piece ++ lines) rest front left is (regroup piece lines rest so_far) writes

  pub ends_at : (piece rest : List ℕ) → WritesOn old mid whole (piece ++ rest) → AppendsFront mid new piece → AppendsFront old new whole
  ends_at piece rest so_far (front, left, is, writes) =
      let more = front_more piece rest front left is so_far writes in
      (more.0, left ++ rest, more.1, more.2)

  pub stops : (piece lines rest : List ℕ) (status : Status) → WritesOn old mid whole (piece ++ (lines ++ rest)) → Stops mid new (piece ++ lines) status → Prints old new status (printed whole Done)
  stops piece lines rest Done so_far stopped = absurd stopped.0
  stops piece lines rest Findings so_far stopped = absurd stopped.0
  stops piece lines rest BadInput so_far stopped = absurd stopped.0
  stops piece lines rest Failed so_far stopped = ends_at (piece ++ lines) rest (regroup piece lines rest so_far) stopped.1
  stops piece lines rest NoMemory so_far stopped = ends_at (piece ++ lines) rest (regroup piece lines rest so_far) stopped.1
