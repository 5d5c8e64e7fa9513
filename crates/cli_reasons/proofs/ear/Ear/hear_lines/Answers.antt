use Rattle.std.proofs.Common.{◌++◌, ap, sym, ◌∙◌, subst}
use Rattle.std.proofs.lemmas.List.{append_assoc}
use Rattle.cli_reasons.specs.Hearing.{HearsOf}
use Rattle.cli_reasons.proofs.ear.Ear.hear_lines.Goals as goal

pub lines-preserved : goal.lines-preserved
lines-preserved c =
    let i = c.lines.invariant in
    let b = c.in_ok-end_line.ensures.beside in
    record {
      beside = record {
        bytes = b.bytes ∙ i.beside.bytes;
        text = b.text ∙ i.beside.text;
        deaf = b.deaf ∙ i.beside.deaf;
        lines = b.lines ∙ i.beside.lines;
      };
      so = (
        i.so.0 ++ c.in-Some.line.now,
        i.so.1 ∙ ap (λ rest. i.so.0 ++ rest) c.in-Some.ensures.whole ∙ sym (append_assoc i.so.0 c.in-Some.line.now c.in-Some.left.now),
        λ past so. subst (λ bytes. HearsOf bytes c.end_line.new.self) (append_assoc past i.so.0 c.in-Some.line.now)
            (c.in_ok-end_line.ensures.heard (past ++ i.so.0) (i.so.2 past so)),
      );
    }
