use Rattle.std.proofs.Common.{◌++◌, take, sym, ◌∙◌, ap, arith}
use Rattle.std.specs.Prelude.{is_ok}
use Rattle.std.proofs.lemmas.Bool.{cond-true}
use Rattle.std.proofs.lemmas.List.{take-append-drop}
use Rattle.tn_wire.proofs.Bytes.{quoted_run}
use Rattle.tn_wire.proofs.run.copy_run.Goals as goal

pub returns-clause-takes : goal.returns-clause-takes
returns-clause-takes c = record {
  run = take c.min.result c.args.input.now.now;
  plain = quoted_run c.min.result c.args.input.now.now (λ k h. c.run_len-end.ensures.plain k (omega arith));
  taken = sym (ap (λ z. take c.min.result c.args.input.now.now ++ z) c.split_at.ensures.back ∙ take-append-drop c.min.result c.args.input.now.now);
  added =
      c.extend_from_slice.ensures.items
      ∙ cond-true (is_ok c.extend_from_slice.result) (c.args.kept.now.items ++ c.split_at.result.0.now) c.args.kept.now.items (ap is_ok c.unwrap.ensures)
      ∙ ap (λ z. c.args.kept.now.items ++ z) c.split_at.ensures.front;
}
