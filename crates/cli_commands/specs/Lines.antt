-- The lines of an input, and its limit.
use Rattle.std.specs.Prelude.{ℕ, Bool, true, ◌==◌, nat_lt, List, [], ◌∷◌, length, map, Result, Ok, Err, if◌then◌else◌}
use Rattle.bstr.specs.Text.{lines_of, without_terminator}
use Rattle.ds_codec.specs.Reading.{◌>>=◌}
use Rattle.cli_commands.specs.declared.fault.Fault.{Fault}
use Rattle.cli_commands.specs.declared.fault.Fault.TheVariants.{TooLong}

-- the lines of a text, each without the LF or CR LF at its end
abbrev pub lines_in : List ℕ → List (List ℕ)
lines_in text = map without_terminator (lines_of text)

-- empty, or a comment: it begins with #
abbrev pub is_ignored : List ℕ → Bool
is_ignored [] = true
is_ignored (b ∷ bs) = b == 0x23

-- no more than so many
abbrev pub at_most : ℕ → ℕ → Result (Unit {0}) Fault
at_most count most = if nat_lt most count then Err TooLong else Ok tt

-- at most 16,777,216 bytes of input
unfoldable pub within_limit : List ℕ → Result (List ℕ) Fault
within_limit input = at_most (length input) 16777216 >>= λ short. Ok input
