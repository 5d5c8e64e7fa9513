-- Drafts one by one, and all of them.
use Rattle.std.proofs.Common.{◌≡◌, ℕ, zero, suc, ◌+◌, true, false, cond, eqb, List, refl}
use Rattle.std.specs.Prelude.{Result, Ok, Err}
use Rattle.ds_codec.specs.Reading.{◌>>=◌}
use Rattle.cli_commands.specs.declared.fault.Fault.{Fault}
use Rattle.cli_commands.specs.declared.fault.Fault.TheVariants.{TooLong}
use Rattle.cli_commands.specs.Lines.{within_limit}
use Rattle.cli_commands.specs.Printed.{Printed}
use Rattle.cli_turns.specs.Drafts.{draft_of, drafts_from, each_from, each_if_few, if_few, joined_or, one_before, one_first, AreJoined}
use Rattle.cli_turns.specs.Part.{count_of}

one_more : (turn : ℕ) (one : Result Printed Fault) (others : Result (List Printed) Fault) (rest : Result Printed Fault)
    → rest ≡ joined_or (turn + 1) others → one_before turn one rest ≡ joined_or turn (one_first one others)
one_more turn (Ok one) (Ok all) rest same = rw same refl
one_more turn (Ok one) (Err fault) rest same = rw same refl
one_more turn (Err fault) others rest same = refl

from_turn : (text : List ℕ) (turn more : ℕ) → drafts_from text turn more ≡ joined_or turn (each_from text turn more)
from_turn text turn zero = refl
from_turn text turn (suc more) = one_more turn (draft_of turn text) (each_from text (turn + 1) more) (drafts_from text (turn + 1) more) (from_turn text (turn + 1) more)

of_few : (text : List ℕ) (turns : ℕ) → if_few text turns ≡ joined_or 0 (each_if_few text turns)
of_few text turns =
    elim (eqb turns 1000) as (λ t. cond t (Err TooLong) (drafts_from text 0 (turns + 1)) ≡ joined_or 0 (cond t (Err TooLong) (each_from text 0 (turns + 1)))) [
      | true ↦ refl
      | false ↦ from_turn text 0 (turns + 1)
    ]

of_text : (text : Result (List ℕ) Fault) → (text >>= λ lines. if_few lines (count_of 1000 lines)) ≡ joined_or 0 (text >>= λ lines. each_if_few lines (count_of 1000 lines))
of_text (Ok lines) = of_few lines (count_of 1000 lines)
of_text (Err fault) = refl

pub are_joined : AreJoined
are_joined text = of_text (within_limit text)
