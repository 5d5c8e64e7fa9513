use Rattle.std.proofs.Common.{◌≡◌, ◌∙◌, ap, sym, true, length, arith}
use Rattle.toml.specs.View.{items_view}
use Rattle.manifest_tables.specs.Tables.{are_tables}
use Rattle.cli_applications.proofs.Rows.{tables_of-many, tables_of-none, tables_of-few}
use Rattle.cli_applications.proofs.tables.tables_of.Goals as goal

pub returns-then-count-lt1 : goal.returns-then-count-lt1
returns-then-count-lt1 c =
    let all : are_tables (items_view c.in-Some.values.now.items) ≡ true = ap (λ vs. are_tables (items_view vs)) (sym c.deref.ensures.value) ∙ sym c.are_tables.ensures ∙ c.if-not-are_tables.false in
    rw c.at_key-then-count-lt1.ensures (tables_of-none _ c.in-Some.values.now.items (sym c.in-Some.ensures) all (omega (arith, ap length c.deref.ensures.value)))

pub returns-then-count-gt-MOST_SCREENS : goal.returns-then-count-gt-MOST_SCREENS
returns-then-count-gt-MOST_SCREENS c =
    let all : are_tables (items_view c.in-Some.values.now.items) ≡ true = ap (λ vs. are_tables (items_view vs)) (sym c.deref.ensures.value) ∙ sym c.are_tables.ensures ∙ c.if-not-are_tables.false in
    rw c.at_key-then-count-gt-MOST_SCREENS.ensures (tables_of-many _ c.in-Some.values.now.items (sym c.in-Some.ensures) all (omega (arith, ap length c.deref.ensures.value)))

pub returns : goal.returns
returns c =
    let all : are_tables (items_view c.in-Some.values.now.items) ≡ true = ap (λ vs. are_tables (items_view vs)) (sym c.deref.ensures.value) ∙ sym c.are_tables.ensures ∙ c.if-not-are_tables.false in
    rw c.deref-2.ensures.value (tables_of-few _ c.in-Some.values.now.items (sym c.in-Some.ensures) all (omega (arith, ap length c.deref.ensures.value)) (omega (arith, ap length c.deref.ensures.value)))
