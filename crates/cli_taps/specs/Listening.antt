-- What is told of a session, piece by piece.
use Rattle.std.specs.Prelude.{ℕ, ◌≡◌, Bool, true, false, List, [], ◌∷◌, ◌++◌}
use Rattle.std.specs.List.{flat_map}
use Rattle.tn_traces.specs.declared.line.Side.{Side}
use Rattle.tn_traces.specs.declared.line.Side.TheVariants.{Host, Terminal}
use Rattle.cli_traces.specs.declared.asked.Asked.{Asked}
use Rattle.cli_traces.specs.declared.asked.Source.TheVariants.{Trace}
use Rattle.cli_traces.specs.declared.turn.Turns.TheVariants.{Marked, Unmarked}
use Rattle.cli_traces.specs.Live.{Followed, Follows, followed_first}
use Rattle.cli_taps.specs.Text.{host_lines, answer_lines}

-- what the host sends, in turns
abbrev pub records_asked : Asked
records_asked = record { source = Trace; side = Host; turns = Marked; all = false; size = false }

-- what the terminal answers, whatever it is
abbrev pub answers_asked : Asked
answers_asked = record { source = Trace; side = Terminal; turns = Unmarked; all = true; size = false }

-- both sides of a session, as they are followed
pub record Listening : Type 0 where
  pub records : Followed
  pub answers : Followed

-- a session of this number, before its first byte
abbrev pub listening_first : ℕ → Listening
listening_first number = record { records = followed_first records_asked number; answers = followed_first answers_asked number }

-- what is answered by a piece; after a fault that the host's lines told nothing is
abbrev pub Answers : Bool → Followed → Side → List ℕ → List ℕ → Followed → Type 0
Answers true old side piece lines new = (lines ≡ []) × (new ≡ old)
Answers false old side piece lines new = (text : List ℕ) × Follows old side piece text new × (lines ≡ answer_lines text)

-- a piece of what a side sent adds this text: the host's lines, and then the terminal's answers
abbrev pub Listens : Listening → Side → List ℕ → List ℕ → Listening → Type 0
Listens old side piece text new =
    (told : List ℕ) × (lines : List ℕ) × Follows old.records side piece told new.records
    × Answers new.records.is_over old.answers side piece lines new.answers × (text ≡ host_lines told ++ lines)

-- ---- pieces in turn

-- a piece, and the side that sent it
pub record Piece : Type 0 where
  pub side : Side
  pub bytes : List ℕ

abbrev pub bytes_if : Side → Side → List ℕ → List ℕ
bytes_if Host Host bytes = bytes
bytes_if Host Terminal bytes = []
bytes_if Terminal Host bytes = []
bytes_if Terminal Terminal bytes = bytes

-- what a piece is of a side's bytes
abbrev pub bytes_from : Side → Piece → List ℕ
bytes_from side piece = bytes_if side piece.side piece.bytes

-- all that a side sent
abbrev pub stream_of : Side → List Piece → List ℕ
stream_of side pieces = flat_map (bytes_from side) pieces

-- pieces, one after the other, add this text
abbrev pub ListenTo : Listening → List Piece → List ℕ → Listening → Type 0
ListenTo old [] text new = (text ≡ []) × (new ≡ old)
ListenTo old (piece ∷ pieces) text new =
    (first : List ℕ) × (others : List ℕ) × (next : Listening)
    × Listens old piece.side piece.bytes first next × (text ≡ first ++ others) × ListenTo next pieces others new
