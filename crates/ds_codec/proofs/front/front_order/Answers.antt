use Rattle.std.proofs.Common.{ℕ, arith, length-take, length-drop}
use Rattle.std.proofs.lemmas.List.Sums.{prefix_len-le-length}
use Rattle.ds_codec.specs.Character.{is_text}
use Rattle.ds_codec.proofs.Fronts.{order_some, order_inside}
use Rattle.ds_codec.proofs.front.front_order.Goals as goal

pub returns-then-is_text_byte-clause-inside : goal.returns-then-is_text_byte-clause-inside
returns-then-is_text_byte-clause-inside c = rw c.text_length-length.ensures (prefix_len-le-length is_text c.args.bytes.now)

pub returns-in-Some-clause-some : goal.returns-in-Some-clause-some
returns-in-Some-clause-some c = order_some _ _ _ c.order_of.result c.order_of.ensures

pub returns-in-Some-clause-inside : goal.returns-in-Some-clause-inside
returns-in-Some-clause-inside c = order_inside _ _ _ _ c.order_of.result (omega (arith, length-take {A = ℕ}, length-drop {A = ℕ})) c.order_of.ensures
