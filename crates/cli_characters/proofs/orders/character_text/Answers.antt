use Rattle.std.proofs.Common.{rules}
use Rattle.cli_characters.specs.Orders.{character_line}
use Rattle.cli_characters.proofs.Parts.{goes_on, ends_so}
use Rattle.cli_characters.proofs.orders.character_text.Goals as goal

pub loop-line-preserved : goal.loop-line-preserved
loop-line-preserved c = record {
  is_text = search rules;
  same = rw (c.in_ok-push_str.ensures.bytes, c.in_ok-push_character_line.ensures)
      (goes_on character_line _ c.loop-line.rest.now _ c.in-Some.line.now c.in-Some.others.now c.loop-line.invariant.same c.in-Some.ensures);
}

pub returns : goal.returns
returns c = rw (c.in_ok-push_character_line-2.ensures) (ends_so character_line _ c.loop-line.rest.now _ c.loop-line.invariant.same c.in_default.ensures)
