use Rattle.std.proofs.Common.{◌≡◌, ◌==◌, true, false, ◌∙◌, arith}
use Rattle.std.proofs.lemmas.Bool.Decides.{nat_tests}
use Rattle.std.proofs.lemmas.Grind.{common_steps}
use Rattle.toml_parser.specs.Lexical.{first}
use Rattle.toml_parser.specs.Strings.{recursion_limit}
use Rattle.toml.proofs.Turns.{val_atom}
use Rattle.plain_tables.specs.Plain.{is_end}
use Rattle.plain_tables.proofs.line.last_value.Goals as goal

pub returns-then-is_end : goal.returns-then-is_end
returns-then-is_end c =
    let s = c.args.s.now in
    let no_array : (first s == 91) ≡ false = grind (arith, nat_tests, common_steps) in
    let no_table : (first s == 123) ≡ false = grind (arith, nat_tests, common_steps) in
    let over : is_end c.in-Some.rest.now ≡ true = grind (arith, nat_tests, common_steps) in
    let read = rw c.in-Some.is at c.in_ok-value.ensures in
    (val_atom recursion_limit s no_array no_table ∙ read.0, over, read.1)
