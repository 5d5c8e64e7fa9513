use Rattle.std.proofs.Common.{◌≡◌, ◌++◌, map}
use Rattle.std.specs.String.{string_bytes}
use Rattle.ds_inbound.specs.Characters.{characters_in}
use Rattle.ds_screen.specs.Shown.{text_of}
use Rattle.cli_binds.proofs.fields.push_text.Given as goal

abbrev pub invariant-characters : goal.invariant-characters
invariant-characters l = string_bytes l.out ++ map text_of l.character-iterator ≡ string_bytes l.fn.out ++ map text_of (characters_in l.raw)
