-- Lines of keys, and the keys that they name.
use Rattle.std.specs.Prelude.{ℕ, ◌+◌, List, [], ◌∷◌, ◌++◌, length, Option, Some, None, Result, Ok, Err, if◌then◌else◌}
use Rattle.std.specs.Str.{is_utf8}
use Rattle.ds_codec.specs.Reading.{◌>>=◌}
use Rattle.ds_keys.specs.declared.key.Key.{Key}
use Rattle.ds_keys.specs.Lines.{key_of}
use Rattle.cli_commands.specs.declared.fault.Fault.{Fault}
use Rattle.cli_commands.specs.declared.fault.Fault.TheVariants.{BadKeyLine}
use Rattle.cli_commands.specs.Lines.{is_ignored, at_most}
use Rattle.cli_commands.specs.Taking.{taken_in}

-- ---- one line

pub data KeyLine : Type 0 where
  ignored : KeyLine
  named : (key : Key) → KeyLine
  bad : KeyLine

abbrev pub key_or_bad : Option Key → KeyLine
key_or_bad None = bad
key_or_bad (Some key) = named key

-- spaces count: a line of spaces alone names no key
abbrev pub key_told : List ℕ → KeyLine
key_told line = if is_utf8 line then (if is_ignored line then ignored else key_or_bad (key_of line)) else bad

-- ---- lines in turn

-- one more key; at most 100,000
abbrev pub one_more : List Key → Key → Result (List Key) Fault
one_more keys key = at_most (length keys + 1) 100000 >>= λ few. Ok (keys ++ key ∷ [])

-- what the line of this number adds
abbrev pub after_key_line : ℕ → List Key → KeyLine → Result (List Key) Fault
after_key_line number keys ignored = Ok keys
after_key_line number keys (named key) = one_more keys key
after_key_line number keys bad = Err (BadKeyLine number)

abbrev pub take_key : ℕ → List Key → List ℕ → Result (List Key) Fault
take_key number keys line = after_key_line number keys (key_told line)

-- the keys of an input, or its first fault
abbrev pub keys_in : List ℕ → Result (List Key) Fault
keys_in input = taken_in take_key [] input
