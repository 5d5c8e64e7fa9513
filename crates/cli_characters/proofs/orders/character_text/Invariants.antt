use Rattle.std.proofs.Common.{◌≡◌, ◌++◌, length}
use denote.Text.{Utf8}
use denote.Shadow.{shadow}
use Rattle.std.specs.String.{string_bytes}
use Rattle.cli_characters.specs.Orders.{character_text}
use Rattle.cli_characters.proofs.orders.character_text.Given as goal

-- the lines that were written, and those that are left
abbrev pub invariant-loop-line : goal.invariant-loop-line
invariant-loop-line l = record {
  is_text : shadow (Utf8 l.rest);
  same : string_bytes l.out ++ character_text l.rest ≡ character_text l.fn.text;
}

abbrev pub decreases-loop-line : goal.decreases-loop-line
decreases-loop-line l = length l.rest
