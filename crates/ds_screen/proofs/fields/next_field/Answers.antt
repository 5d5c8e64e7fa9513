use Rattle.std.proofs.Common.{◌≡◌, ◌<◌, ◌+◌, true, List, ◌∷◌, length, sym, ◌∙◌, ap, arith}
use Rattle.ds_codec.specs.declared.cell.Cell.{Cell}
use Rattle.ds_screen.specs.Fields.{is_attribute, field_at, attributes_from}
use Rattle.ds_screen.proofs.SpanLaws.{next_ahead, next_behind, next_nowhere}
use Rattle.ds_screen.proofs.OutlineFieldLaws.{attributes_first, attributes_none}
use Rattle.ds_screen.proofs.fields.next_field.Goals as goal

pub returns-in-None-clause-first : goal.returns-in-None-clause-first
returns-in-None-clause-first g c =
    let cells : List Cell = g.C.Cells.content c.args.cells.now in
    let inside : c.args.from < length cells = omega (arith, c.len.ensures, c.if-from-len.false) in
    attributes_none cells c.args.from (next_nowhere cells c.args.from (sym c.in-None.is ∙ c.requires.nearest inside))

pub returns-then-at-from-clause-first : goal.returns-then-at-from-clause-first
returns-then-at-from-clause-first g c =
    let cells : List Cell = g.C.Cells.content c.args.cells.now in
    let inside : c.args.from < length cells = omega (arith, c.len.ensures, c.if-from-len.false) in
    attributes_none cells c.args.from (next_behind cells c.args.from c.in-Some.at inside (sym c.in-Some.is ∙ c.requires.nearest inside) c.if-at-from.true)

pub returns-in-Field-clause-first : goal.returns-in-Field-clause-first
returns-in-Field-clause-first g c =
    let cells : List Cell = g.C.Cells.content c.args.cells.now in
    let inside : c.args.from < length cells = omega (arith, c.len.ensures, c.if-from-len.false) in
    let found = next_ahead cells c.args.from c.in-Some.at inside (sym c.in-Some.is ∙ c.requires.nearest inside) c.if-at-from.false in
    let same : c.field_of.result.field.at ≡ c.in-Some.at = ap (λ f. f.at) c.field_of.ensures.field in (
      attributes_first cells c.args.from c.in-Some.at c.if-at-from.false found.0 found.1 found.2 ∙ ap (λ q. q ∷ attributes_from cells (q + 1)) (sym same),
      c.field_of.ensures.field ∙ ap (field_at cells) (sym same),
    )

pub returns-in-Char-clause-first : goal.returns-in-Char-clause-first
returns-in-Char-clause-first g c =
    let cells : List Cell = g.C.Cells.content c.args.cells.now in
    let inside : c.args.from < length cells = omega (arith, c.len.ensures, c.if-from-len.false) in
    let found = next_ahead cells c.args.from c.in-Some.at inside (sym c.in-Some.is ∙ c.requires.nearest inside) c.if-at-from.false in
    let there : true ≡ is_attribute c.cell.result = sym found.2 ∙ ap is_attribute (sym c.cell.ensures) in
    let none = there ∙ ap is_attribute c.in-Char.is in
    absurd cc
