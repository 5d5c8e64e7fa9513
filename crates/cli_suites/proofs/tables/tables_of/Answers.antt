use Rattle.std.proofs.Common.{◌≡◌, ◌∙◌, ap, sym, true, length, arith}
use Rattle.toml.specs.View.{items_view}
use Rattle.manifest_tables.specs.Tables.{are_tables}
use Rattle.cli_suites.proofs.Rows.{tables_of-many, tables_of-few}
use Rattle.cli_suites.proofs.tables.tables_of.Goals as goal

pub returns-then-len-gt10000 : goal.returns-then-len-gt10000
returns-then-len-gt10000 c =
    let all : are_tables (items_view c.in-Some.values.now.items) ≡ true = ap (λ vs. are_tables (items_view vs)) (sym c.deref.ensures.value) ∙ sym c.are_tables.ensures ∙ c.if-not-are_tables.false in
    rw c.at_key-then-len-gt10000.ensures (tables_of-many c.args.key _ c.in-Some.values.now.items (sym c.in-Some.ensures) all (omega (arith, ap length c.deref.ensures.value)))

pub returns : goal.returns
returns c =
    let all : are_tables (items_view c.in-Some.values.now.items) ≡ true = ap (λ vs. are_tables (items_view vs)) (sym c.deref.ensures.value) ∙ sym c.are_tables.ensures ∙ c.if-not-are_tables.false in
    rw c.deref-2.ensures.value (tables_of-few c.args.key _ c.in-Some.values.now.items (sym c.in-Some.ensures) all (omega (arith, ap length c.deref.ensures.value)))
