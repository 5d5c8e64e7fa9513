use Rattle.std.proofs.Common.{sym, ◌∙◌, subst, below_more, arith}
use Rattle.std.proofs.lemmas.List.{length-map}
use Rattle.std.proofs.lemmas.Result.{err_from_is_err_and}
use Rattle.ds_codec.specs.Order.{item_of}
use Rattle.ds_codec.specs.Writing.{items_of, IsValidItem, IsFlawHere}
use Rattle.ds_codec.proofs.Written.{all_good, all_valid, item_here, bytes_more, good_more, flaw_first, text_more}
use Rattle.ds_codec.proofs.write.push_orders.Goals as goal

pub loop-k-preserved : goal.loop-k-preserved
loop-k-preserved c =
    let orders = c.args.orders.now in
    let k = c.loop-k.k in
    let here = item_here orders k c.index-orders-k.result c.loop-k-test.true c.index-orders-k.is in
    let flaw = good_more c.args.cells k orders c.index-orders-k.result c.loop-k.after_text c.loop-k-test.true c.index-orders-k.is c.loop-k.invariant.text in
    record {
      bytes = bytes_more c.args.mode c.args.cells k orders c.index-orders-k.result _ _ _ c.loop-k-test.true c.index-orders-k.is c.loop-k.invariant.bytes c.in_ok-after_text.ensures.bytes;
      text = text_more (items_of orders) k _ (item_of c.index-orders-k.result) here c.in_ok-after_text.ensures.text;
      good = below_more _ _ c.loop-k.invariant.good (sym flaw ∙ c.in_ok-after_text.ensures.good);
      valid = below_more _ _ c.loop-k.invariant.valid (subst IsValidItem (sym here) c.in_ok-after_text.ensures.valid);
    }

pub returns-in_err-after_text-clause-flaw : goal.returns-in_err-after_text-clause-flaw
returns-in_err-after_text-clause-flaw c =
    let p = err_from_is_err_and c.from_residual.result c.from_residual.ensures.1 in
    let flaw = good_more c.args.cells c.loop-k.k c.args.orders.now c.index-orders-k.result c.loop-k.after_text c.loop-k-test.true c.index-orders-k.is c.loop-k.invariant.text in
    rw (p.1, p.2) (flaw_first c.args.cells c.loop-k.k (items_of c.args.orders.now) c.in_err-after_text.field-0.0 (subst (λ o. IsFlawHere o c.in_err-after_text.field-0.0) flaw c.in_err-after_text.ensures.flaw) c.loop-k.invariant.good)

pub returns-clause-good : goal.returns-clause-good
returns-clause-good c =
    all_good c.args.cells c.loop-k.k (items_of c.args.orders.now) (omega (arith, length-map c.args.orders.now item_of, c.loop-k-test.false)) c.loop-k.invariant.good

pub returns-clause-valid : goal.returns-clause-valid
returns-clause-valid c =
    all_valid c.loop-k.k (items_of c.args.orders.now) (omega (arith, length-map c.args.orders.now item_of, c.loop-k-test.false)) c.loop-k.invariant.valid
