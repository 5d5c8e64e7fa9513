use Rattle.std.proofs.Common.{◌≤◌, arith}
use Rattle.bms_map.proofs.ValueLaws.{digit_value, digits_next, next_fits, next_small}
use Rattle.bms_map.proofs.values.digits_of.Goals as goal

pub overflow_mul-number : goal.overflow_mul-number
overflow_mul-number c = omega (arith, next_fits c.loop-rest.number 0 1000000000 c.loop-rest.rest.now c.in-len1-up.len_at_least (omega arith) c.loop-rest.invariant.small)

pub overflow_add-number : goal.overflow_add-number
overflow_add-number c =
    let small : c.from.result ≤ 9 = digit_value c.from.result _ c.if-not-is_digit.ensures c.from.ensures in
    omega (arith, next_fits c.loop-rest.number c.from.result 1000000000 c.loop-rest.rest.now c.in-len1-up.len_at_least small c.loop-rest.invariant.small)

pub loop-rest-preserved : goal.loop-rest-preserved
loop-rest-preserved c =
    let small : c.from.result ≤ 9 = digit_value c.from.result _ c.if-not-is_digit.ensures c.from.ensures in
    record {
      same = digits_next c.loop-rest.number c.from.result c.loop-rest.rest.now _ _ c.in-len1-up.len_at_least c.if-not-is_digit.ensures c.from.ensures c.loop-rest.invariant.same;
      small = next_small c.loop-rest.number c.from.result 1000000000 c.loop-rest.rest.now c.in-len1-up.len_at_least small c.loop-rest.invariant.small;
    }
