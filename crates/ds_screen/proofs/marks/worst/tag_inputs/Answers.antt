use Rattle.std.proofs.Common.{◌+◌, ◌&&◌, length, true, not, ltb, refl, sym, ◌∙◌, ap, subst}
use Rattle.ds_codec.specs.declared.cell.Cell.{Cell}
use Rattle.ds_codec.specs.declared.cell.Cell.TheVariants.{Field}
use Rattle.ds_codec.specs.Attribute.{is_protected, with_modified}
use Rattle.ds_screen.specs.Picture.{ruled}
use Rattle.ds_screen.specs.Orders.{single_cell}
use Rattle.ds_screen.specs.Fields.{is_attribute}
use Rattle.ds_screen.specs.Marks.{Marked, IsMarked}
use Rattle.ds_screen.proofs.MarkLaws.{held_there}
use Rattle.ds_screen.proofs.WorstLaws.{so_far, none_done, all_done, IsNextInput, next_input, skipped, stored}
use Rattle.ds_screen.proofs.marks.worst.tag_inputs.Goals as goal
use Rattle.ds_screen.proofs.marks.worst.tag_inputs.Goals.{then-begins_input, else-begins_input}

pub inputs-init : goal.inputs-init
inputs-init c = record { shown = λ cells shown. none_done c.args.marks.now cells shown; whole = refl; room = refl }

pub inputs-preserved : goal.inputs-preserved
inputs-preserved c =
    record {
      shown = λ cells shown.
          let now = c.inputs.invariant.shown cells shown in
          let next : IsNextInput cells c.inputs.from c.in-Some.mark.at c.in-Some.mark.attribute = next_input c.inputs.marks cells c.inputs.from c.in-Some.mark now c.in-Some.ensures.first in
          let hit = ap is_attribute (held_there c.inputs.marks (so_far cells c.inputs.from) c.in-Some.mark.at c.in-Some.mark now c.in-Some.ensures.first.1).0 in
          let is = c.begins_input.ensures (so_far cells c.inputs.from) now hit ∙ ap (λ k. not (is_protected c.in-Some.mark.attribute) && ltb 0 k) next.span in
          elim c.if-begins_input.branch [
            | then-begins_input w ↦
                let there : IsMarked w.store.new.self (ruled (length (so_far cells c.inputs.from)) (single_cell (so_far cells c.inputs.from) c.in-Some.mark.at (Field (with_modified c.in-Some.mark.attribute true)))) =
                subst (λ (x : Cell). IsMarked w.store.new.self (ruled (length (so_far cells c.inputs.from)) (single_cell (so_far cells c.inputs.from) c.in-Some.mark.at x))) w.modified_cell.ensures
                (w.store.ensures.shown (so_far cells c.inputs.from) now) in
                subst (λ m. IsMarked m (so_far cells (c.in-Some.mark.at + 1))) (sym w.marks-is)
                (stored w.store.new.self cells c.inputs.from c.in-Some.mark.at c.in-Some.mark.attribute next (sym is ∙ w.if-begins_input.true) there)
            | else-begins_input w ↦
                subst (λ m. IsMarked m (so_far cells (c.in-Some.mark.at + 1))) (sym w.marks-is)
                (skipped c.inputs.marks cells c.inputs.from c.in-Some.mark.at c.in-Some.mark.attribute next (sym is ∙ w.if-begins_input.false) now)
          ];
      whole = elim c.if-begins_input.branch [
        | then-begins_input w ↦ ap (λ (m : Marked). m.size) w.marks-is ∙ w.store.ensures.whole ∙ c.inputs.invariant.whole
        | else-begins_input w ↦ ap (λ (m : Marked). m.size) w.marks-is ∙ c.inputs.invariant.whole
      ];
      room = elim c.if-begins_input.branch [
        | then-begins_input w ↦ ap (λ (m : Marked). m.room) w.marks-is ∙ w.store.ensures.room ∙ c.inputs.invariant.room
        | else-begins_input w ↦ ap (λ (m : Marked). m.room) w.marks-is ∙ c.inputs.invariant.room
      ];
    }

pub returns-clause-shown : goal.returns-clause-shown
returns-clause-shown c = λ cells shown. all_done c.inputs.marks cells c.inputs.from (c.inputs.invariant.shown cells shown) c.in_default.ensures.first
