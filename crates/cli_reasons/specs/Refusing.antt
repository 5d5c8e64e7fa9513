-- The line that an ear found refused.
use Rattle.std.specs.Prelude.{◌≡◌, ℕ, Option, IsSome}
use Rattle.std.specs.Option.{option_map}
use Rattle.cli_reasons.specs.declared.ear.Ear.{Ear}

-- the number of the line, counted from 1
abbrev pub refused_number : Ear → Option ℕ
refused_number ear = option_map (λ line. line.number) ear.walk.found

-- the first line that was found refused stays that
abbrev pub StaysRefused : Ear → Ear → Type 0
StaysRefused old new = IsSome old.walk.found → new.walk.found ≡ old.walk.found
