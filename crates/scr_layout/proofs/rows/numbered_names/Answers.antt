use Rattle.std.proofs.Common.{◌∙◌, ◌∷◌, [], ◌++◌, ◌+◌, ap, sym, map, string_bytes, arith, length, length-append}
use Rattle.std.specs.List.{range_with_len}
use Rattle.std.proofs.lemmas.List.{map-append}
use Rattle.std.proofs.lemmas.List.FromFn.{map-range_with_len_more}
use Rattle.scr_layout.specs.Rows.{numbered}
use Rattle.scr_layout.proofs.rows.numbered_names.Goals as goal

pub loop-index-preserved : goal.loop-index-preserved
loop-index-preserved c =
    let name = c.args.name.now in
    let i = c.loop-index.index in
    record {
      names =
          ap (map string_bytes) c.in_ok-push.ensures.items
          ∙ map-append string_bytes c.loop-index.names.items _
          ∙ ap (λ names. names ++ string_bytes c.in_ok-numbered.field-0 ∷ []) c.loop-index.invariant.names
          ∙ ap (λ text. map (numbered name) (range_with_len 1 i) ++ text ∷ []) c.in_ok-numbered.ensures
          ∙ sym (map-range_with_len_more (numbered name) 1 i (i + 1) (omega arith));
      len = ap length c.in_ok-push.ensures.items ∙ length-append c.loop-index.names.items _ ∙ ap (λ n. n + 1) c.loop-index.invariant.len;
    }
