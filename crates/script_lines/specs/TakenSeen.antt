-- What stands at the front of a text, as the program holds it.
use Rattle.std.specs.Prelude.{ℕ, ◌<◌, length}
use Rattle.script_lines.specs.declared.quoted.Taken as found
use Rattle.script_lines.specs.declared.quoted.Taken.TheVariants as variants
use Rattle.script_lines.specs.Quoted.{Taken, nothing, ends, closes, one}

abbrev pub taken_seen : found.Taken → Taken
taken_seen variants.Nothing = nothing
taken_seen (variants.Ends rest) = ends rest.now
taken_seen (variants.Closes rest) = closes rest.now
taken_seen (variants.One byte rest) = one byte rest.now

-- less than so many bytes are left
abbrev pub IsShorter : ℕ → found.Taken → Type 0
IsShorter size variants.Nothing = Unit {0}
IsShorter size (variants.Ends rest) = length rest.now < size
IsShorter size (variants.Closes rest) = length rest.now < size
IsShorter size (variants.One byte rest) = length rest.now < size
