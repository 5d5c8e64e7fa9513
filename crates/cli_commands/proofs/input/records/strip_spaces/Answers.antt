use Rattle.std.proofs.Common.{◌+◌, ◌++◌, length, sym, ap, ◌∙◌, arith}
use Rattle.std.proofs.lemmas.List.{take_rest, length-drop}
use Rattle.cli_commands.specs.Records.{without_spaces}
use Rattle.cli_commands.proofs.Spaces.{without_none, spaces_on}
use Rattle.cli_commands.proofs.input.records.strip_spaces.Goals as goal

pub words-init : goal.words-init
words-init c = ap (λ l. l ++ without_spaces c.args.line.now) (c.in_ok-reserve.ensures.items ∙ c.clear.ensures.items)

pub words-smaller : goal.words-smaller
words-smaller c =
    let found = rw c.in-Some.is at c.memchr.ensures in
    let left = take_rest c.words.rest.now (c.in-Some.at + 1) in
    omega (arith, ap length left, length-drop (c.in-Some.at + 1) c.words.rest.now, found.0.high)

pub words-preserved : goal.words-preserved
words-preserved c =
    spaces_on c.words.buffer.items c.extend_from_slice.new.self.items c.args.line.now c.words.rest.now _ c.in-Some.at (rw c.in-Some.is at c.memchr.ensures) c.words.invariant
    c.in_ok-extend_from_slice.ensures.items (take_rest c.words.rest.now (c.in-Some.at + 1))

pub returns : goal.returns
returns c =
    c.in_ok-extend_from_slice-2.ensures.items ∙ ap (λ l. c.words.buffer.items ++ l) (sym (without_none c.words.rest.now c.in_default.ensures)) ∙ c.words.invariant
