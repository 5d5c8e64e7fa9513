-- How much of a stream is open.
use Rattle.std.specs.Prelude.{ℕ, ◌+◌, ◌==◌, if◌then◌else◌, List, [], ◌∷◌, ◌++◌, codes, length}
use Rattle.std.specs.Fmt.{decimal}
use Rattle.tn_wire.specs.Stream.{Told, told_record, told_verb, told_sub, told_passed}
use Rattle.tn_wire.specs.Telnet.{quoted}

-- that so many bytes are open, as they came; nothing where none is
abbrev pub open_text : ℕ → List ℕ
open_text count = if count == 0 then [] else codes "# " ++ (decimal count ++ codes " bytes of an open record\n")

-- ---- for the code's own proofs

-- the bytes that an event took, as they came
abbrev pub cost_of : Told → ℕ
cost_of (told_record bytes) = length (quoted bytes) + 2
cost_of (told_verb verb option) = 3
cost_of (told_sub option parameters) = length (quoted (option ∷ parameters)) + 4
cost_of (told_passed byte) = 2

abbrev pub cost_in : List Told → ℕ
cost_in [] = 0
cost_in (event ∷ events) = cost_of event + cost_in events
